-- A store whose parts pass all checks is whole.
use Rattle.std.proofs.Common.{◌≡◌, inl, inr, ℕ, ◌<◌, Bool, true, false, not, ◌==◌, ◌&&◌, ◌||◌, List, [], ◌∷◌, length, map, Option, Some, None, IfSome, is_some, refl, sym, ap, subst, ◌∙◌, arith, option_map, option_and_then}
use Rattle.std.specs.Prelude.{slice_get, filter_map}
use Rattle.std.specs.Option.{option_map_or, option_eq}
use Rattle.std.proofs.lemmas.Bool.{eq-eqb, eqb-true}
use Rattle.pid_types.proofs.General.{both, held, some_number, number_tested}
use Rattle.id_slab.specs.Ids.{key_of}
use Rattle.pid_types.specs.declared.plain.Name.{Name}
use Rattle.pid_types.specs.declared.plain.Row.{Row}
use Rattle.pid_types.specs.declared.plain.Space.{Space}
use Rattle.pid_types.specs.Chains.{contains}
use Rattle.pid_types.specs.Controls.{control_at}
use Rattle.pid_types.specs.Membership.{IsIn}
use Rattle.pid_types.specs.Names.{path_up, number, root_number, is_live, names_in_use}
use Rattle.pid_types.specs.Sound.{IsRising, IsTreeOfSpaces, HasDistinctNumbers, IsGoodParent, HasGoodParents, HasGoodChildrenSpace, HasLiveInit, IsEmptied, RootStands, IsWellNumbered}
use Rattle.pid_types.specs.State.{root_name}
use Rattle.model_laws.proofs.Lists.{IsIn-from_contains, IsIn-from_filter_map}
use Rattle.pid_numbers.specs.Numbering.{Identifier, id_at, identifier_at, number_in, number_of, path_at, has_fallen_at, taken_in}
use Rattle.task_tree.specs.declared.Task.{Task}
use Rattle.task_tree.specs.Tree.{task_at, parent_of, lives}
use Rattle.groups_sessions.specs.Membership.{Membership, membership_at, group_of, session_of}
use Rattle.pids_charge.specs.Charges.{home_id}
use Rattle.task_table.specs.declared.view.Found.{Found}
use Rattle.task_table.specs.Store.{Store, HasNoThreads}
use Rattle.task_table.specs.View.{name_at, row_of, row_numbered, parent_id, space_of, state_of}
use Rattle.task_table.specs.Lawful.{IsLawful}
use Rattle.task_table.specs.Whole.{IsWhole}
use Rattle.task_table.proofs.Keys.{space_at-is, space_at-key, number-is_key}
use Rattle.task_table.proofs.LookUps.{named, group-named, in-rows, rows-in, space-id, keyed}
use Rattle.task_table.proofs.InUse.{member, used-from, used-in}
use Rattle.task_table.proofs.Results.{if_some}
use Rattle.task_table.proofs.Places.{place-of, rising-ids, found-rise}
use Rattle.task_table.proofs.Around.{id-of_key, space-from, around-in, in-around, fallen-in, number-on_way, key-named, number-by_key, well_numbered}
use Rattle.sound_store.proofs.Ways.{number-at, way-chain}
use Rattle.sound_store.specs.Tasks.{IsTask, lives_at, is_own_init, is_around, may_be_parent, has_good_parent, has_good_children, has_good_leader, is_led, may_live, has_home, is_good_task, AllTasksPass}
use Rattle.sound_store.specs.Spaces.{HasInitTask, HasGoodSpaces}
use Rattle.sound_store.specs.Groups.{HasGoodControls}
use Rattle.sound_store.specs.Ways.{HasWays}

true_of : (b : Bool) → not b ≡ true → b ≡ false
true_of true e = absurd (cc)
true_of false e = refl

-- all that one task passes
pub record Passes (s : Store) (n : ℕ) (f : Found) : Type 0 where
  pub parent : has_good_parent s n f ≡ true
  pub children : has_good_children s f ≡ true
  pub led : is_led s f ≡ true
  pub standing : may_live s f ≡ true
  pub home : has_home s f ≡ true

pub passes-from : (s : Store) (n : ℕ) (f : Found) → is_good_task s n f ≡ true → Passes s n f
passes-from s n f e =
    let h = both (has_good_parent s n f && has_good_children s f && is_led s f && may_live s f) (has_home s f) e in
    let t = both (has_good_parent s n f && has_good_children s f && is_led s f) (may_live s f) h.0 in
    let g = both (has_good_parent s n f && has_good_children s f) (is_led s f) t.0 in
    let p = both (has_good_parent s n f) (has_good_children s f) g.0 in
    record { parent = p.0; children = p.1; led = g.1; standing = t.1; home = h.1 }

-- a task as it is found
abbrev pub found_at : ℕ → Identifier → Task → Found
found_at k u t = record { key = k; space = u.space; task = t }

pub is_task-at : (s : Store) (k : ℕ) (u : Identifier) (t : Task) → task_at s.tree k ≡ Some t → identifier_at s.numbering k ≡ Some u → IsTask s (found_at k u t)
is_task-at s k u t e at = record { there = e; own = ap (option_map (λ (v : Identifier). v.space)) at }

module _ (s : Store) (l : IsLawful s) where
  -- the identifier of a task that was found, whose own namespace was found with it
  pub owned : (f : Found) → IsTask s f → (u : Identifier) × (identifier_at s.numbering f.key ≡ Some u) × (u.space ≡ f.space)
  owned f h =
      let u = named s l f.key f.task h.there in
      let z : Some u.0.space ≡ Some f.space = sym (ap (option_map (λ (v : Identifier). v.space)) u.1) ∙ h.own in
      (u.0, u.1, ap (λ o. option_map_or (λ n. n) o f.space) z)

  pub space-id_of : (f : Found) → IsTask s f → id_at s.numbering f.space ≡ Some (name_at s.numbering f.key).space
  space-id_of f h = let u = owned f h in ap (id_at s.numbering) (sym u.2) ∙ space-id s l f.key u.0 u.1

  -- ---- what the laws give

  distinct : HasDistinctNumbers (names_in_use (state_of s).rows) (state_of s).spaces
  distinct a b in_a in_b i n at_a at_b =
      let j = used-from s l a in_a in
      let k = used-from s l b in_b in
      let x = number-by_key s l j.0 i n j.1 j.2 (ap (λ (m : Name). number (state_of s).spaces m i) (sym j.3) ∙ at_a) in
      let y = number-by_key s l k.0 i n k.1 k.2 (ap (λ (m : Name). number (state_of s).spaces m i) (sym k.3) ∙ at_b) in
      let same = l.numbering.ids y.0 x.0 i y.1 x.1 in
      let one = l.numbering.distinct j.0 k.0 x.0 n x.2 (ap (number_of s.numbering k.0) (sym same) ∙ y.2) in
      j.3 ∙ ap (name_at s.numbering) one ∙ sym k.3

  numbered : (a : Name) → IsIn a (names_in_use (state_of s).rows) → IsWellNumbered (state_of s).spaces s.numbering.pid_max a
  numbered a i =
      let j = used-from s l a i in
      subst (IsWellNumbered (state_of s).spaces s.numbering.pid_max) (sym j.3) (well_numbered s l j.0 j.1 j.2)

  rows_rise : IsRising (map (λ (r : Row). root_number r.name) (state_of s).rows)
  rows_rise = found-rise (row_numbered s 0) (λ (r : Row). root_number r.name) (λ n r e. keyed s l n r e) 0 s.numbering.pid_max

  pub session-of : (k : ℕ) (m : Membership) → membership_at s.members k ≡ Some m → (t : Task) → (row_of s k t).session ≡ name_at s.numbering m.session
  session-of k m e t = ap (λ o. option_map_or (name_at s.numbering) (option_map (λ (x : Membership). x.session) o) root_name) e

  pub group-of : (k : ℕ) (m : Membership) → membership_at s.members k ≡ Some m → (t : Task) → (row_of s k t).group ≡ name_at s.numbering m.group
  group-of k m e t = ap (λ o. option_map_or (name_at s.numbering) (option_map (λ (x : Membership). x.group) o) root_name) e

  pub some_of : (x y : ℕ) → ◌≡◌ {A = Option ℕ} (Some x) (Some y) → x ≡ y
  some_of x y e = ap (λ o. option_map_or (λ n. n) o x) e

  together : (a b : Row) → IsIn a (state_of s).rows → IsIn b (state_of s).rows → a.group ≡ b.group → a.session ≡ b.session
  together a b in_a in_b e =
      let j = in-rows s l a in_a in
      let k = in-rows s l b in_b in
      let x = member s l j.0 j.1 j.2 in
      let y = member s l k.0 k.1 k.2 in
      let g = group-named s l j.0 x.0 x.1 in
      let h = group-named s l k.0 y.0 y.1 in
      let names = sym (group-of j.0 x.0 x.1 j.1) ∙ sym (ap (λ (r : Row). r.group) j.3) ∙ e ∙ ap (λ (r : Row). r.group) k.3 ∙ group-of k.0 y.0 y.1 k.1 in
      let same = key-named s l x.0.group y.0.group (ap is_some g.1) (ap is_some h.1) names in
      let in_it : group_of s.members k.0 ≡ Some x.0.group = ap (option_map (λ (m : Membership). m.group)) y.1 ∙ ap Some (sym same) in
      let one = some_of y.0.session x.0.session (sym (ap (option_map (λ (m : Membership). m.session)) y.1) ∙ l.together j.0 x.0 x.1 k.0 in_it) in
      ap (λ (r : Row). r.session) j.3 ∙ session-of j.0 x.0 x.1 j.1 ∙ ap (name_at s.numbering) (sym one) ∙ sym (session-of k.0 y.0 y.1 k.1) ∙ sym (ap (λ (r : Row). r.session) k.3)

  pub named_by : HasNoThreads s.threads → (x : Space) → IsIn x (state_of s).spaces → x.fallen ≡ true → (a : Name) × (n : ℕ) × IsIn a (names_in_use (state_of s).rows) × (number (state_of s).spaces a x.id ≡ Some n)
  unfolding taken_in
  named_by alone x i fell =
      let k = space-from s.numbering l.numbering x i in
      let is_fallen : has_fallen_at s.numbering k.0 ≡ true = sym (ap (λ (y : Space). y.fallen) k.2) ∙ fell in
      let n = first_of (filter_map (number_in (path_at s.numbering) k.0) s.numbering.names) (l.numbering.held k.0 is_fallen) in
      let o = IsIn-from_filter_map (number_in (path_at s.numbering) k.0) n.0 s.numbering.names n.1 in
      let p = place-of None o.0 s.numbering.names o.1 in
      let at : number_of s.numbering p.0 k.0 ≡ Some n.0 = ap (number_in (path_at s.numbering) k.0) p.2 ∙ o.2 in
      let u = there (identifier_at s.numbering p.0) n.0 k.0 at in
      (name_at s.numbering p.0, n.0, used-in s l alone p.0 u.0 u.1, number-is_key s.numbering l.numbering k.0 x.id p.0 u.0 k.1 u.1 ∙ at)
    where
      first_of : (ns : List ℕ) → 0 < length ns → (n : ℕ) × IsIn n ns
      first_of [] some = absurd (omega (arith, some))
      first_of (n ∷ ns) some = (n, inl refl)

      there : (o : Option Identifier) (n c : ℕ) → number_in (path_at s.numbering) c o ≡ Some n → (u : Identifier) × (o ≡ Some u)
      there None n c e = absurd (cc)
      there (Some u) n c e = (u, refl)

  -- ---- what the checks of namespaces give

  module _ (h : HasGoodSpaces s) where
    root : RootStands (state_of s).spaces
    root x i zero_id =
        let k = space-from s.numbering l.numbering x i in
        let same = l.numbering.ids k.0 0 0 (k.1 ∙ ap Some zero_id) h.root in
        ap (λ (y : Space). y.fallen) k.2 ∙ ap (has_fallen_at s.numbering) same ∙ h.stands

    standing : (x : Space) → IsIn x (state_of s).spaces → x.fallen ≡ false → HasLiveInit (state_of s).rows (state_of s).spaces x.id
    standing x i up =
        let k = space-from s.numbering l.numbering x i in
        let f = (h.each x.id k.0 k.1).init (sym (ap (λ (y : Space). y.fallen) k.2) ∙ up) in
        let u = owned f.0 f.1.task in
        let id : Some (name_at s.numbering f.0.key).space ≡ Some x.id = sym (space-id_of f.0 f.1.task) ∙ ap (id_at s.numbering) f.1.own ∙ k.1 in (
          row_of s f.0.key f.0.task,
          rows-in s l f.0.key f.0.task f.1.task.there,
          f.1.live,
          some_of (name_at s.numbering f.0.key).space x.id id,
          number-is_key s.numbering l.numbering k.0 x.id f.0.key u.0 k.1 u.1 ∙ f.1.one,
        )

    spaces : IsTreeOfSpaces (state_of s).spaces
    spaces = record {
      rising = subst IsRising (ids s.numbering.order) (rising-ids s.numbering.order l.numbering.rising);
      older = λ x i. (let k = space-from s.numbering l.numbering x i in
          subst (λ (y : Space). IfSome y.parent (λ p. p < y.id)) (sym k.2) (if_some (parent_id s.numbering k.0) x.id (λ p e. (h.each x.id k.0 k.1).younger p e)));
      root = (space_of s.numbering (0, 0), space_at-key s.numbering l.numbering 0 0 h.root, ap (λ p. option_and_then (id_at s.numbering) (slice_get p 1)) l.numbering.root);
      chains = λ x i. (let k = space-from s.numbering l.numbering x i in
          around-in s.numbering l.numbering k.0 0 x.id 0 k.1 h.root (IsIn-from_contains (path_at s.numbering k.0) 0 (l.numbering.ends k.0 (l.numbering.some k.0 x.id k.1))));
    }
      where
        ids : (ps : List (ℕ × ℕ)) → map (λ p. p.0) ps ≡ map (λ (x : Space). x.id) (map (space_of s.numbering) ps)
        ids [] = refl
        ids (p ∷ ps) = ap (λ ns. p.0 ∷ ns) (ids ps)

  -- ---- what the checks of tasks give

  module _ (h : AllTasksPass s) where
    passes : (k : ℕ) (t : Task) → task_at s.tree k ≡ Some t → (u : Identifier) → identifier_at s.numbering k ≡ Some u → Passes s (root_number (name_at s.numbering k)) (found_at k u t)
    passes k t e u at = passes-from s (root_number (name_at s.numbering k)) (found_at k u t) (h (root_number (name_at s.numbering k)) (found_at k u t) (is_task-at s k u t e at) (number-at s l k t e))

    -- what a parent is
    parent_is : (k : ℕ) (t : Task) → task_at s.tree k ≡ Some t → (u : Identifier) → identifier_at s.numbering k ≡ Some u → (p : ℕ) → parent_of s.tree k ≡ Some p
        → (v : Task) × (task_at s.tree p ≡ Some v) × (lives v ≡ true) × (w : Identifier) × (identifier_at s.numbering p ≡ Some w) × (is_around s (found_at k u t) w.space ≡ true)
    parent_is k t e u at p up =
        let may = sym (ap (λ o. option_map_or (may_be_parent s (found_at k u t)) o (root_number (name_at s.numbering k) == 1)) up) ∙ (passes k t e u at).parent in
        let parts = both (lives_at s p) (option_map_or (λ (w : Identifier). is_around s (found_at k u t) w.space) (identifier_at s.numbering p) false) may in
        let v = live (task_at s.tree p) parts.0 in
        let w = named s l p v.0 v.1 in
        (v.0, v.1, v.2, w.0, w.1, sym (ap (λ o. option_map_or (λ (w : Identifier). is_around s (found_at k u t) w.space) o false) w.1) ∙ parts.1)
      where
        live : (o : Option Task) → option_map_or lives o false ≡ true → (v : Task) × (o ≡ Some v) × (lives v ≡ true)
        live None e = absurd (cc)
        live (Some v) e = (v, refl, e)

    pub tasked : (k p : ℕ) → parent_of s.tree k ≡ Some p → (v : Task) × (task_at s.tree p ≡ Some v)
    tasked k p up = go (task_at s.tree k) refl
      where
        go : (o : Option Task) → task_at s.tree k ≡ o → (v : Task) × (task_at s.tree p ≡ Some v)
        go None at = absurd (let z : None ≡ Some p = sym (l.absent k at) ∙ up in cc)
        go (Some t) at = let u = named s l k t at in let g = parent_is k t at u.0 u.1 p up in (g.0, g.1)

    good_parent : (k : ℕ) (t : Task) → task_at s.tree k ≡ Some t → (p : ℕ) → parent_of s.tree k ≡ Some p → IsGoodParent (state_of s).rows (state_of s).spaces (row_of s k t) (name_at s.numbering p)
    good_parent k t e p up =
        let u = named s l k t e in
        let g = parent_is k t e u.0 u.1 p up in
        let id_k = space-id s l k u.0 u.1 in
        let id_p = space-id s l p g.3 g.4 in
        let around = both (contains (path_at s.numbering u.0.space) g.3.space) (not ((g.3.space == u.0.space) && is_own_init s (found_at k u.0 t))) g.5 in
        record {
          lives = (row_of s p g.0, rows-in s l p g.0 g.1, refl, g.2);
          around = around-in s.numbering l.numbering u.0.space g.3.space (name_at s.numbering k).space (name_at s.numbering p).space id_k id_p (IsIn-from_contains (path_at s.numbering u.0.space) g.3.space around.0);
          outside = λ one same. (
              let here = l.numbering.ids g.3.space u.0.space (name_at s.numbering k).space (id_p ∙ ap Some same) id_k in
              let init : is_own_init s (found_at k u.0 t) ≡ true = number_tested (number_of s.numbering k u.0.space) 1 (sym (number-is_key s.numbering l.numbering u.0.space (name_at s.numbering k).space k u.0 id_k u.1) ∙ one) in
              let z : false ≡ true = sym (ap (λ c. not (c && is_own_init s (found_at k u.0 t))) (eq-eqb g.3.space u.0.space here) ∙ ap not init) ∙ around.1 in
              let no : ⊥ = cc in no);
        }

    children : (r : Row) → IsIn r (state_of s).rows → HasGoodChildrenSpace (state_of s).spaces r
    children r i =
        let j = in-rows s l r i in
        let u = named s l j.0 j.1 j.2 in
        subst (HasGoodChildrenSpace (state_of s).spaces) (sym j.3) (go j.0 j.1 u.0 (space-id s l j.0 u.0 u.1) (key_of s.numbering.order j.1.children_space) refl (passes j.0 j.1 j.2 u.0 u.1).children)
      where
        go : (k : ℕ) (t : Task) (u : Identifier) → id_at s.numbering u.space ≡ Some (name_at s.numbering k).space → (o : Option ℕ) → key_of s.numbering.order t.children_space ≡ o
            → option_map_or (λ c. contains (path_at s.numbering c) u.space) o true ≡ true → HasGoodChildrenSpace (state_of s).spaces (row_of s k t)
        go k t u id None at pass = inl (space_at-is s.numbering l.numbering t.children_space ∙ ap (option_map (λ c. space_of s.numbering (t.children_space, c))) at)
        go k t u id (Some c) at pass =
            inr (around-in s.numbering l.numbering c u.space t.children_space (name_at s.numbering k).space (id-of_key s.numbering l.numbering t.children_space c at) id
            (IsIn-from_contains (path_at s.numbering c) u.space pass))

    leader : (a b : Row) → IsIn a (state_of s).rows → IsIn b (state_of s).rows → a.group ≡ b.name → a.session ≡ b.session
    leader a b in_a in_b e =
        let j = in-rows s l a in_a in
        let k = in-rows s l b in_b in
        let u = named s l j.0 j.1 j.2 in
        let w = named s l k.0 k.1 k.2 in
        let x = member s l j.0 j.1 j.2 in
        let y = member s l k.0 k.1 k.2 in
        let g = group-named s l j.0 x.0 x.1 in
        let names = sym (group-of j.0 x.0 x.1 j.1) ∙ sym (ap (λ (r : Row). r.group) j.3) ∙ e ∙ ap (λ (r : Row). r.name) k.3 in
        let same = key-named s l x.0.group k.0 (ap is_some g.1) (ap is_some w.1) names in
        let pass : has_good_leader s (found_at j.0 u.0 j.1) x.0.group ≡ true = sym (ap (λ o. option_map_or (λ (m : Membership). has_good_leader s (found_at j.0 u.0 j.1) m.group) o true) x.1) ∙ led (membership_at s.members j.0) (found_at j.0 u.0 j.1) (passes j.0 j.1 j.2 u.0 u.1).led in
        let there : is_some (task_at s.tree x.0.group) ≡ true = ap (λ n. is_some (task_at s.tree n)) same ∙ ap is_some k.2 in
        let one : option_eq ◌==◌ (session_of s.members x.0.group) (session_of s.members j.0) ≡ true = sym (ap (λ c. not c || option_eq ◌==◌ (session_of s.members x.0.group) (session_of s.members j.0)) there) ∙ pass in
        let here : session_of s.members j.0 ≡ Some x.0.session = ap (option_map (λ (m : Membership). m.session)) x.1 in
        let at_group : session_of s.members x.0.group ≡ Some x.0.session = some_number (session_of s.members x.0.group) x.0.session (ap (option_eq ◌==◌ (session_of s.members x.0.group)) (sym here) ∙ one) in
        let sessions : Some y.0.session ≡ Some x.0.session = sym (ap (option_map (λ (m : Membership). m.session)) y.1) ∙ ap (session_of s.members) (sym same) ∙ at_group in
        ap (λ (r : Row). r.session) j.3 ∙ session-of j.0 x.0 x.1 j.1 ∙ ap (name_at s.numbering) (sym (some_of y.0.session x.0.session sessions)) ∙ sym (session-of k.0 y.0 y.1 k.1) ∙ sym (ap (λ (r : Row). r.session) k.3)
      where
        led : (o : Option Membership) (f : Found) → option_map_or (has_good_leader s f) (option_map (λ (m : Membership). m.group) o) true ≡ true
            → option_map_or (λ (m : Membership). has_good_leader s f m.group) o true ≡ true
        led None f e = refl
        led (Some m) f e = e

    -- nothing lives in a fallen namespace
    fallen : (x : Space) → IsIn x (state_of s).spaces → x.fallen ≡ true → IsEmptied (state_of s).rows (state_of s).spaces x.id
    fallen x i fell =
        let c = space-from s.numbering l.numbering x i in
        let is_fallen : has_fallen_at s.numbering c.0 ≡ true = sym (ap (λ (y : Space). y.fallen) c.2) ∙ fell in
        record {
          ended = λ r on live. (let k = in-rows s l r on in let u = named s l k.0 k.1 k.2 in
              ap (λ (y : Row). number (state_of s).spaces y.name x.id) k.3
              ∙ number-is_key s.numbering l.numbering c.0 x.id k.0 u.0 c.1 u.1
              ∙ none k.0 k.1 k.2 u.0 u.1 (sym (ap is_live k.3) ∙ live) c.0 is_fallen (number_of s.numbering k.0 c.0) refl);
          below = λ t on inside. (
              let k = space-from s.numbering l.numbering t on in
              let y = in-around s.numbering l.numbering k.0 t.id x.id k.1 inside in
              let same = l.numbering.ids y.0 c.0 x.id y.2 c.1 in
              ap (λ (z : Space). z.fallen) k.2 ∙ fallen-in s.numbering l.numbering k.0 y.0 y.1 (ap (has_fallen_at s.numbering) same ∙ is_fallen));
        }
      where
        none : (k : ℕ) (t : Task) → task_at s.tree k ≡ Some t → (u : Identifier) → identifier_at s.numbering k ≡ Some u → lives t ≡ true → (c : ℕ) → has_fallen_at s.numbering c ≡ true
            → (o : Option ℕ) → number_of s.numbering k c ≡ o → number_of s.numbering k c ≡ None
        none k t e u at live c fell None is = is
        none k t e u at live c fell (Some n) is = absurd (
            let own = fallen-in s.numbering l.numbering u.space c (number-on_way s.numbering l.numbering k c n u at is) fell in
            let z : false ≡ true = sym (ap (λ d. not (d && has_fallen_at s.numbering u.space)) live ∙ ap not own) ∙ (passes k t e u at).standing in cc)

    homes : (r : Row) → IsIn r (state_of s).rows → (c : _) × (control_at (state_of s).controls r.home ≡ Some c)
    homes r i =
        let k = in-rows s l r i in
        let u = named s l k.0 k.1 k.2 in
        let c = held (control_at s.charges.controls (home_id s.charges k.1.home)) (passes k.0 k.1 k.2 u.0 u.1).home in
        (c.0, ap (λ (y : Row). control_at s.charges.controls y.home) k.3 ∙ c.1)

    -- the parents, with the chains
    module _ (spaces_good : HasGoodSpaces s) (ways : HasWays s) where
      parents : (r : Row) → IsIn r (state_of s).rows → HasGoodParents (state_of s).rows (state_of s).spaces r
      parents r i =
          let k = in-rows s l r i in
          subst (HasGoodParents (state_of s).rows (state_of s).spaces) (sym k.3) (of_key k.0 k.1 k.2)
        where
          init : HasInitTask s 0
          init = (spaces_good.each 0 0 spaces_good.root).init spaces_good.stands

          -- the first task has no parent
          top : (p : Option ℕ) → parent_of s.tree init.0.key ≡ p → parent_of s.tree init.0.key ≡ None
          top None e = e
          top (Some p) e = absurd (
              let u = named s l init.0.key init.0.task init.1.task.there in
              let g = good_parent init.0.key init.0.task init.1.task.there p e in
              let here : id_at s.numbering 0 ≡ Some (name_at s.numbering init.0.key).space = ap (id_at s.numbering) (sym init.1.own) ∙ space-id_of init.0 init.1.task in
              let zero_id : (name_at s.numbering init.0.key).space ≡ 0 = some_of (name_at s.numbering init.0.key).space 0 (sym here ∙ spaces_good.root) in
              let q = in-around s.numbering l.numbering 0 0 (name_at s.numbering p).space spaces_good.root (subst (λ x. IsIn (name_at s.numbering p).space (path_up (state_of s).spaces x)) zero_id g.around) in
              let only : q.0 ≡ 0 = alone q.0 (subst (IsIn q.0) l.numbering.root q.1) in
              let out : (name_at s.numbering p).space ≡ 0 = some_of (name_at s.numbering p).space 0 (sym q.2 ∙ ap (id_at s.numbering) only ∙ spaces_good.root) in
              g.outside (number-is_key s.numbering l.numbering 0 (name_at s.numbering init.0.key).space init.0.key u.0 here u.1 ∙ init.1.one) (out ∙ sym zero_id))
            where
              alone : (q : ℕ) → IsIn q (0 ∷ []) → q ≡ 0
              alone q (inl e) = e
              alone q (inr none) = absurd none

          of_key : (k : ℕ) (t : Task) → task_at s.tree k ≡ Some t → HasGoodParents (state_of s).rows (state_of s).spaces (row_of s k t)
          of_key k t e = record {
            first = λ none. orphan (parent_of s.tree k) refl none;
            good = λ a is. with_parent (parent_of s.tree k) refl a is;
            chain = way-chain s l tasked k t e (ways k t e) init.0.key init.0.task init.1.one init.1.task.there (top (parent_of s.tree init.0.key) refl);
          }
            where
              orphan : (o : Option ℕ) → parent_of s.tree k ≡ o → option_map (name_at s.numbering) (parent_of s.tree k) ≡ None → root_number (name_at s.numbering k) ≡ 1
              orphan None at none =
                  let u = named s l k t e in
                  eqb-true (root_number (name_at s.numbering k)) 1 (sym (ap (λ o. option_map_or (may_be_parent s (found_at k u.0 t)) o (root_number (name_at s.numbering k) == 1)) at) ∙ (passes k t e u.0 u.1).parent)
              orphan (Some p) at none = absurd (let z : Some (name_at s.numbering p) ≡ None = sym (ap (option_map (name_at s.numbering)) at) ∙ none in cc)

              with_parent : (o : Option ℕ) → parent_of s.tree k ≡ o → (a : Name) → option_map (name_at s.numbering) (parent_of s.tree k) ≡ Some a → IsGoodParent (state_of s).rows (state_of s).spaces (row_of s k t) a
              with_parent None at a is = absurd (let z : None ≡ Some a = sym (ap (option_map (name_at s.numbering)) at) ∙ is in cc)
              with_parent (Some p) at a is =
                  let z : Some (name_at s.numbering p) ≡ Some a = sym (ap (option_map (name_at s.numbering)) at) ∙ is in
                  subst (IsGoodParent (state_of s).rows (state_of s).spaces (row_of s k t)) (ap (λ o. option_map_or (λ (x : Name). x) o a) z) (good_parent k t e p at)

-- the store is whole
pub whole-from : (s : Store) → IsLawful s → HasNoThreads s.threads → HasGoodSpaces s → HasGoodControls s.charges → AllTasksPass s → HasWays s → IsWhole s
whole-from s l alone spaces_good controls_good tasks_good ways = record {
  alone = alone;
  sound = record {
    coherent = record {
      distinct = distinct s l;
      numbered = numbered s l;
      parents = parents s l tasks_good spaces_good ways;
      children = children s l tasks_good;
      root = root s l spaces_good;
      standing = standing s l spaces_good;
      fallen = fallen s l tasks_good;
      groups = record { together = together s l; leader = leader s l tasks_good };
      rows_rise = rows_rise s l;
      spaces = spaces s l spaces_good;
      controls = controls_good.tree;
      limits = controls_good.limits;
      homes = homes s l tasks_good;
      threads = λ t i. absurd i;
      threads_rise = tt;
      left = λ name i. absurd i;
      left_rise = tt;
    };
    named = named_by s l alone;
  };
  parents = λ k p up. ap is_some (tasked s l tasks_good k p up).1;
}
