-- Who belongs to what has a number, in the model and by keys.
use Rattle.std.proofs.Common.{◌≡◌, ◌≢◌, ℕ, zero, suc, ◌<◌, ◌≤◌, ◌==◌, true, false, nat_le, List, [], ◌∷◌, length, filter, filter_map, Option, Some, None, is_some, option_map, refl, sym, ap, subst, ◌∙◌, arith}
use Rattle.std.specs.Option.{option_map_or, option_eq}
use Rattle.std.specs.List.{AllByRecursion}
use Rattle.std.specs.List.Sorted.{IsPermutation, IsSorted}
use Rattle.std.specs.Ordering.{nat_cmp}
use Rattle.std.proofs.lemmas.List.Sorted.{IsNonDecreasingBy-from_sort}
use Rattle.pid_types.proofs.General.{held, some_number, number_tested}
use Rattle.pid_types.specs.declared.call.Kind.{Kind}
use Rattle.pid_types.specs.declared.call.Kind.TheVariants.{Task as AsTask, Group, Session}
use Rattle.pid_types.specs.declared.plain.Row.{Row}
use Rattle.pid_types.specs.Membership.{IsIn}
use Rattle.pid_types.specs.Names.{number}
use Rattle.pid_types.specs.State.{root_name}
use Rattle.model_laws.proofs.Lists.{IsIn-filter, IsIn-from_filter, IsIn-filter_map, IsIn-from_filter_map}
use Rattle.member_lists.specs.Owners.{owner_of, times, AreMembers}
use Rattle.pid_numbers.specs.Numbering.{Identifier, id_at, identifier_at, number_of}
use Rattle.task_tree.specs.declared.Task.{Task}
use Rattle.task_tree.specs.Tree.{task_at}
use Rattle.groups_sessions.specs.Membership.{Membership, membership_at, group_of, groups_of, HasMembers}
use Rattle.task_table.specs.Store.{Store}
use Rattle.task_table.specs.View.{name_at, row_of, state_of}
use Rattle.task_table.specs.Lawful.{IsLawful}
use Rattle.task_table.specs.Whole.{HasParents}
use Rattle.task_table.proofs.Keys.{number-is_key}
use Rattle.task_table.proofs.Places.{each-in}
use Rattle.std.proofs.Math.ListN.{get_or-map}
use Rattle.task_table.proofs.LookUps.{named, group-named, session-named, in-rows, rows-in}
use Rattle.translate.specs.Pages.{belongs_to, is_meant, belongs, numbers_belonging, AreListedFrom}
use Rattle.translate.specs.Gathered.{owner_as, numbers_of_keys, IsOwned, AreGathered, IsMeantAlone}
use Rattle.translate.proofs.Rising.{once-found, times-filter, times-IsIn, times-permuted, IsIn-permuted, IsIn-unpermuted, rising-once}

-- the group of a task, as the lists of groups have it
pub group-told : (s : Store) (k : ℕ) → owner_of (groups_of s.members) k ≡ group_of s.members k
group-told s k = get_or-map (option_map (λ (x : Membership). x.group)) s.members k None

module _ (s : Store) (l : IsLawful s) where
  -- what a task is in
  member : (k : ℕ) (t : Task) → task_at s.tree k ≡ Some t → (m : Membership) × (membership_at s.members k ≡ Some m)
  member k t e = held (membership_at s.members k) (l.agree.members k ∙ ap is_some e)

  -- who belongs to something is a task
  tasked : (kind : Kind) (k o : ℕ) → owner_as s kind k ≡ Some o → (t : Task) × (task_at s.tree k ≡ Some t)
  tasked AsTask k o e = go (task_at s.tree k) refl
    where
      go : (v : Option Task) → task_at s.tree k ≡ v → (t : Task) × (task_at s.tree k ≡ Some t)
      go None is = absurd (let z : None ≡ Some o = sym (l.absent k is) ∙ e in cc)
      go (Some t) is = (t, is)
  tasked Group k o e = go (membership_at s.members k) refl e
    where
      go : (v : Option Membership) → membership_at s.members k ≡ v → option_map (λ (m : Membership). m.group) v ≡ Some o → (t : Task) × (task_at s.tree k ≡ Some t)
      go None is e = absurd (cc)
      go (Some m) is e = held (task_at s.tree k) (sym (l.agree.members k) ∙ ap is_some is)
  tasked Session k o e = go (membership_at s.members k) refl e
    where
      go : (v : Option Membership) → membership_at s.members k ≡ v → option_map (λ (m : Membership). m.session) v ≡ Some o → (t : Task) × (task_at s.tree k ≡ Some t)
      go None is e = absurd (cc)
      go (Some m) is e = held (task_at s.tree k) (sym (l.agree.members k) ∙ ap is_some is)

  -- what it belongs to, by name
  belongs_to-is : (kind : Kind) (k : ℕ) (t : Task) → task_at s.tree k ≡ Some t → belongs_to kind (row_of s k t) ≡ option_map (name_at s.numbering) (owner_as s kind k)
  belongs_to-is AsTask k t e = refl
  belongs_to-is Group k t e =
      let m = member k t e in
      ap (λ o. Some (option_map_or (name_at s.numbering) (option_map (λ (x : Membership). x.group) o) root_name)) m.1
      ∙ sym (ap (λ o. option_map (name_at s.numbering) (option_map (λ (x : Membership). x.group) o)) m.1)
  belongs_to-is Session k t e =
      let m = member k t e in
      ap (λ o. Some (option_map_or (name_at s.numbering) (option_map (λ (x : Membership). x.session) o) root_name)) m.1
      ∙ sym (ap (λ o. option_map (name_at s.numbering) (option_map (λ (x : Membership). x.session) o)) m.1)

  module _ (h : HasParents s) where
    -- and that has an identifier
    owner-named : (kind : Kind) (k o : ℕ) → owner_as s kind k ≡ Some o → (u : Identifier) × (identifier_at s.numbering o ≡ Some u)
    owner-named AsTask k o e = let t = held (task_at s.tree o) (h k o e) in named s l o t.0 t.1
    owner-named Group k o e = go (membership_at s.members k) refl e
      where
        go : (v : Option Membership) → membership_at s.members k ≡ v → option_map (λ (m : Membership). m.group) v ≡ Some o → (u : Identifier) × (identifier_at s.numbering o ≡ Some u)
        go None is e = absurd (cc)
        go (Some m) is e = let u = group-named s l k m is in let same : m.group ≡ o = cc in (u.0, ap (identifier_at s.numbering) (sym same) ∙ u.1)
    owner-named Session k o e = go (membership_at s.members k) refl e
      where
        go : (v : Option Membership) → membership_at s.members k ≡ v → option_map (λ (m : Membership). m.session) v ≡ Some o → (u : Identifier) × (identifier_at s.numbering o ≡ Some u)
        go None is e = absurd (cc)
        go (Some m) is e = let u = session-named s l k m is in let same : m.session ≡ o = cc in (u.0, ap (identifier_at s.numbering) (sym same) ∙ u.1)

    module _ (sp : ℕ) (caller : Row) (at : id_at s.numbering sp ≡ Some caller.name.space) (kind : Kind) (n : ℕ) (o : Option ℕ) (alone : IsMeantAlone s caller kind n o) where
      -- who belongs to what is meant has its key as the owner
      belongs-is : (k : ℕ) (t : Task) → task_at s.tree k ≡ Some t
          → belongs (state_of s) caller kind n (row_of s k t) ≡ option_map_or (λ p. option_eq ◌==◌ o (Some p)) (owner_as s kind k) false
      belongs-is k t e = ap (λ x. option_map_or (is_meant (state_of s) caller kind n) x false) (belongs_to-is kind k t e) ∙ go (owner_as s kind k) refl
        where
          go : (x : Option ℕ) → owner_as s kind k ≡ x
              → option_map_or (is_meant (state_of s) caller kind n) (option_map (name_at s.numbering) x) false ≡ option_map_or (λ p. option_eq ◌==◌ o (Some p)) x false
          go None is = refl
          go (Some p) is = let u = owner-named kind k p is in alone p (ap is_some u.1)

      -- the numbers of the model are those of the keys
      page-in : (q : ℕ) → o ≡ Some q → (m : ℕ) → IsIn m (numbers_belonging (state_of s) caller kind n) → IsOwned s sp kind q m
      page-in q is m on =
          let f = IsIn-from_filter_map (λ row. number (state_of s).spaces row.name caller.name.space) m (filter (belongs (state_of s) caller kind n) (state_of s).rows) on in
          let g = IsIn-from_filter (belongs (state_of s) caller kind n) f.0 (state_of s).rows f.1 in
          let r = in-rows s l f.0 g.0 in
          let b = sym (belongs-is r.0 r.1 r.2) ∙ sym (ap (belongs (state_of s) caller kind n) r.3) ∙ g.1 in
          let u = named s l r.0 r.1 r.2 in
          record {
            key = r.0;
            belongs = owned (owner_as s kind r.0) b;
            has = sym (number-is_key s.numbering l.numbering sp caller.name.space r.0 u.0 at u.1) ∙ ap (λ row. number (state_of s).spaces row.name caller.name.space) (sym r.3) ∙ f.2;
          }
        where
          owned : (x : Option ℕ) → option_map_or (λ p. option_eq ◌==◌ o (Some p)) x false ≡ true → x ≡ Some q
          owned None passes = absurd (cc)
          owned (Some p) passes = let same : Some q ≡ Some p = sym is ∙ some_number o p passes in sym same

      page-of : (q : ℕ) → o ≡ Some q → (m : ℕ) → IsOwned s sp kind q m → IsIn m (numbers_belonging (state_of s) caller kind n)
      page-of q is m one =
          let t = tasked kind one.key q one.belongs in
          let u = named s l one.key t.0 t.1 in
          IsIn-filter_map (λ row. number (state_of s).spaces row.name caller.name.space) (row_of s one.key t.0) m (filter (belongs (state_of s) caller kind n) (state_of s).rows)
          (IsIn-filter (belongs (state_of s) caller kind n) (row_of s one.key t.0) (state_of s).rows (rows-in s l one.key t.0 t.1)
          (belongs-is one.key t.0 t.1 ∙ ap (λ x. option_map_or (λ p. option_eq ◌==◌ o (Some p)) x false) one.belongs ∙ number_tested o q is))
          (number-is_key s.numbering l.numbering sp caller.name.space one.key u.0 at u.1 ∙ one.has)

      -- what was gathered, in order
      pub listed : (q from : ℕ) (xs ys : List ℕ) → o ≡ Some q → AreGathered s sp kind q from xs → IsPermutation xs ys → IsSorted nat_cmp ys
          → AreListedFrom (numbers_belonging (state_of s) caller kind n) from ys
      listed q from xs ys is g p sorted = record {
        rising = rising-once ys (IsNonDecreasingBy-from_sort (λ x. x) ys sorted) (λ m. let e = times-permuted m xs ys p in let one = g.once m in omega (arith, e, one));
        each = λ m. (
          (λ on. let h = (g.each m).0 (IsIn-unpermuted m xs ys p on) in (h.0, page-of q is m h.1)),
          (λ h. IsIn-permuted m xs ys p ((g.each m).1 (h.0, page-in q is m h.1))),
        );
      }

      -- where nothing is meant, nobody is listed
      pub listed_none : (from : ℕ) → o ≡ None → AreListedFrom (numbers_belonging (state_of s) caller kind n) from []
      listed_none from is = record { rising = tt; each = λ m. ((λ on. absurd on), (λ h. absurd (nobody_in m h.1))) }
        where
          refused : (x : Option ℕ) → option_map_or (λ p. option_eq ◌==◌ o (Some p)) x false ≡ false
          refused None = refl
          refused (Some p) = ap (λ x. option_eq ◌==◌ x (Some p)) is

          nobody_in : (m : ℕ) → IsIn m (numbers_belonging (state_of s) caller kind n) → ⊥
          nobody_in m on =
              let f = IsIn-from_filter_map (λ row. number (state_of s).spaces row.name caller.name.space) m (filter (belongs (state_of s) caller kind n) (state_of s).rows) on in
              let g = IsIn-from_filter (belongs (state_of s) caller kind n) f.0 (state_of s).rows f.1 in
              let r = in-rows s l f.0 g.0 in
              let b : false ≡ true = sym (refused (owner_as s kind r.0)) ∙ sym (belongs-is r.0 r.1 r.2) ∙ sym (ap (belongs (state_of s) caller kind n) r.3) ∙ g.1 in
              absurd (cc)

  -- numbers of keys, none of which comes twice
  module _ (sp from : ℕ) where
    pub numbers-in : (keys : List ℕ) (m : ℕ) → IsIn m (numbers_of_keys s.numbering sp from keys) → (from ≤ m) × ((k : ℕ) × IsIn k keys × (number_of s.numbering k sp ≡ Some m))
    numbers-in keys m on =
        let f = IsIn-from_filter (nat_le from) m (filter_map (λ k. number_of s.numbering k sp) keys) on in
        let g = IsIn-from_filter_map (λ k. number_of s.numbering k sp) m keys f.0 in
        (grind (arith, f.1), g)

    pub numbers-of : (keys : List ℕ) (m k : ℕ) → from ≤ m → IsIn k keys → number_of s.numbering k sp ≡ Some m → IsIn m (numbers_of_keys s.numbering sp from keys)
    numbers-of keys m k le on has =
        IsIn-filter (nat_le from) m (filter_map (λ k. number_of s.numbering k sp) keys) (IsIn-filter_map (λ k. number_of s.numbering k sp) k m keys on has) (grind (arith, le))

    pub numbers-once : (keys : List ℕ) → ((k : ℕ) → times k keys ≤ 1) → (m : ℕ) → times m (numbers_of_keys s.numbering sp from keys) ≤ 1
    numbers-once keys once m =
        let found = once-found (λ k. number_of s.numbering k sp) (λ j k n. l.numbering.distinct j k sp n) keys once m in
        let le = times-filter (nat_le from) m (filter_map (λ k. number_of s.numbering k sp) keys) in
        omega (arith, found, le)

    -- the keys of those who belong to one owner, each once
    pub gathered : (kind : Kind) (o : ℕ) (keys : List ℕ) → ((k : ℕ) → owner_as s kind k ≡ Some o → times k keys ≡ 1)
        → ((k : ℕ) → IsIn k keys → owner_as s kind k ≡ Some o) → AreGathered s sp kind o from (numbers_of_keys s.numbering sp from keys)
    gathered kind o keys once owned = record {
      once = numbers-once keys few;
      each = λ m. (
        (λ on. let f = numbers-in keys m on in (f.0, record { key = (f.1).0; belongs = owned (f.1).0 (f.1).1; has = (f.1).2 })),
        (λ h.
            let one = h.1 in
            let here = once one.key one.belongs in
            numbers-of keys m one.key h.0 (times-IsIn one.key keys (omega (arith, here))) one.has),
      );
    }
      where
        few : (k : ℕ) → times k keys ≤ 1
        few k = go (times k keys) refl
          where
            go : (c : ℕ) → times k keys ≡ c → times k keys ≤ 1
            go zero e = omega (arith, e)
            go (suc c) e = let one = once k (owned k (times-IsIn k keys (omega (arith, e)))) in omega (arith, one)

    -- nobody belongs to it
    pub nobody : (kind : Kind) (o : ℕ) → ((k : ℕ) → owner_as s kind k ≢ Some o) → AreGathered s sp kind o from []
    nobody kind o none = record { once = λ m. omega arith; each = λ m. ((λ on. absurd on), (λ h. absurd (none (h.1).key (h.1).belongs))) }

    -- the children of a task, as its list has them
    pub gathered_children : (o : ℕ) (keys : List ℕ) → AreMembers s.tree.parents o keys → AreGathered s sp AsTask o from (numbers_of_keys s.numbering sp from keys)
    gathered_children o keys m = gathered AsTask o keys m.once (λ k i. each-in (λ k. owner_of s.tree.parents k ≡ Some o) keys m.owned k i)

    -- the members of a group, as its list has them
    pub gathered_group : (o : ℕ) (keys : List ℕ) → AreMembers (groups_of s.members) o keys → AreGathered s sp Group o from (numbers_of_keys s.numbering sp from keys)
    gathered_group o keys m =
        gathered Group o keys (λ k mine. m.once k (group-told s k ∙ mine))
        (λ k i. sym (group-told s k) ∙ each-in (λ k. owner_of (groups_of s.members) k ≡ Some o) keys m.owned k i)

-- a group in which somebody is has room
pub in_room : (members : List (Option Membership)) → ((k : ℕ) (m : Membership) → membership_at members k ≡ Some m → m.group < length members) → (g : ℕ) → HasMembers members g → g < length members
in_room members room g some = go (membership_at members some.0) refl some.1
  where
    go : (o : Option Membership) → membership_at members some.0 ≡ o → option_map (λ (m : Membership). m.group) o ≡ Some g → g < length members
    go None is mine = absurd (cc)
    go (Some m) is mine = let same : m.group ≡ g = cc in subst (λ h. h < length members) same (room some.0 m is)

-- so have the groups of a session
pub all_in_room : (members : List (Option Membership)) → ((k : ℕ) (m : Membership) → membership_at members k ≡ Some m → m.group < length members) → (session : ℕ)
    → (groups : List ℕ) → AllByRecursion (λ g. (k : ℕ) × (membership_at members k ≡ Some (record { group = g; session = session }))) groups → AllByRecursion (λ g. g < length members) groups
all_in_room members room session [] all = tt
all_in_room members room session (g ∷ groups) all = (room all.0.0 (record { group = g; session = session }) all.0.1, all_in_room members room session groups all.1)
