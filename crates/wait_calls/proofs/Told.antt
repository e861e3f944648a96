-- What a wait finds by keys is what it finds in the model's words.
use Rattle.std.proofs.Common.{◌≡◌, ◌≢◌, ◌⊎◌, inl, inr, ℕ, ◌==◌, ◌&&◌, not, Bool, true, false, [], length, Option, Some, None, IsSome, is_some, if◌then◌else◌, option_map, refl, sym, ap, ◌∙◌, arith, unwrap_or}
use Rattle.std.specs.Option.{option_map_or, option_eq}
use Rattle.std.proofs.lemmas.Bool.{cases_eq, eq-eqb, eqb-true}
use Rattle.pid_types.proofs.General.{apart, number_tested, held, both, some_number}
use Rattle.pid_types.specs.declared.call.Which.{Which}
use Rattle.pid_types.specs.declared.call.Which.TheVariants.{Any as AnyChild, Pid, OwnGroup, Group as InGroup}
use Rattle.pid_types.specs.declared.plain.Row.{Row}
use Rattle.pid_types.specs.Membership.{IsIn}
use Rattle.pid_types.specs.State.{State, root_name}
use Rattle.pid_types.specs.Names.{number, number_or_zero, is_numbered, same_name, is_parent, is_live}
use Rattle.pid_types.specs.Wait.{is_selected, matching, ended_children}
use Rattle.model_laws.proofs.Lists.{IsIn-filter, IsIn-from_filter}
use Rattle.pid_numbers.specs.Numbering.{Numbering, Namespace, Identifier, identifier_at, namespace_at, id_at, number_of, path_at}
use Rattle.task_tree.specs.declared.Task.{Task}
use Rattle.task_tree.specs.Tree.{task_at, parent_of, rank_of, lives, is_zombie, waits_for}
use Rattle.groups_sessions.specs.Membership.{Membership, group_of}
use Rattle.task_table.specs.Store.{Store}
use Rattle.task_table.specs.View.{name_of, name_at, row_of}
use Rattle.task_table.specs.Lawful.{IsLawful}
use Rattle.task_table.proofs.Keys.{number-is_key}
use Rattle.task_table.proofs.LookUps.{named, group-named, same-name, in-rows, rows-in}
use Rattle.task_table.proofs.InUse.{member}
use Rattle.thread_view.specs.Full.{full_state}
use Rattle.wait_calls.specs.declared.selection.Selected.{Selected}
use Rattle.wait_calls.specs.declared.selection.Selected.TheVariants.{Any, Task as OneTask, Group}
use Rattle.wait_calls.specs.declared.selection.Choice.{Choice}
use Rattle.wait_calls.specs.declared.selection.Choice.TheVariants.{NoChild, NoneEnded, Ended}
use Rattle.wait_calls.specs.Choice.{IsSelectedKey, IsMatch, IsChoice}
use Rattle.wait_calls.specs.Told.{Means, IsUnknown, IsTold}
use Rattle.wait_calls.proofs.Least.{filter-none, some-there, least-is}

ended-of : (t : Task) → not (lives t) ≡ true → lives t ≡ false
ended-of t e = go (lives t) e
  where
    go : (b : Bool) → not b ≡ true → b ≡ false
    go true e = absurd (cc)
    go false e = refl

module _ (s : Store) (l : IsLawful s) (parents : (k p : ℕ) → parent_of s.tree k ≡ Some p → IsSome (task_at s.tree p))
    (caller : ℕ) (own : Task) (here : task_at s.tree caller ≡ Some own) (u : Identifier) (known : identifier_at s.numbering caller ≡ Some u) where
  abbrev b : Numbering
  b = s.numbering

  abbrev state : State
  state = full_state s

  abbrev row : Row
  row = row_of s caller own

  -- the id of the caller's namespace
  space-id : id_at b u.space ≡ Some row.name.space
  space-id = go (namespace_at b u.space) refl
    where
      go : (o : Option Namespace) → namespace_at b u.space ≡ o → id_at b u.space ≡ Some row.name.space
      go None e = absurd (
          let f = l.numbering.full caller u known in
          let z : length (path_at b u.space) ≡ 0 = ap (λ o. length (option_map_or (λ t. t.path) o [])) e in
          omega (arith, f.0, f.1, z))
      go (Some t) e =
          let i : id_at b u.space ≡ Some t.id = ap (option_map (λ t. t.id)) e in
          let n : row.name.space ≡ t.id = ap (λ (o : Option Identifier). (option_map_or (name_of b) o root_name).space) known ∙ ap (λ o. unwrap_or o 0) i in
          i ∙ ap Some (sym n)

  -- a number in the caller's namespace
  number-here : (k : ℕ) (v : Identifier) → identifier_at b k ≡ Some v → number state.spaces (name_at b k) row.name.space ≡ number_of b k u.space
  number-here k v e = number-is_key b l.numbering u.space row.name.space k v space-id e

  -- a number there is one key's
  number-only : (j n : ℕ) → number_of b j u.space ≡ Some n → (k : ℕ) → option_eq ◌==◌ (number_of b k u.space) (Some n) ≡ (k == j)
  number-only j n has k = go (cases_eq k j)
    where
      go : (k ≡ j) ⊎ (k ≢ j) → option_eq ◌==◌ (number_of b k u.space) (Some n) ≡ (k == j)
      go (inl same) = number_tested (number_of b k u.space) n (ap (λ i. number_of b i u.space) same ∙ has) ∙ sym (eq-eqb k j same)
      go (inr other) = test (option_eq ◌==◌ (number_of b k u.space) (Some n)) refl
        where
          test : (t : Bool) → option_eq ◌==◌ (number_of b k u.space) (Some n) ≡ t → t ≡ (k == j)
          test true e = absurd (other (l.numbering.distinct k j u.space n (some_number (number_of b k u.space) n e) has))
          test false e = sym (apart k j other)

  -- whether a task is a child
  child-is : (k : ℕ) (t : Task) → is_parent row.name (row_of s k t) ≡ option_eq ◌==◌ (parent_of s.tree k) (Some caller)
  child-is k t = go (parent_of s.tree k) refl
    where
      go : (o : Option ℕ) → parent_of s.tree k ≡ o → option_eq same_name (option_map (name_at b) o) (Some row.name) ≡ option_eq ◌==◌ o (Some caller)
      go None e = refl
      go (Some p) e =
          let v = held (task_at s.tree p) (parents k p e) in
          same-name s l p caller (ap is_some (named s l p v.0 v.1).1) (ap is_some known)

  abbrev is_chosen : Selected → ℕ → Bool
  is_chosen Any k = true
  is_chosen (OneTask j) k = k == j
  is_chosen (Group g) k = option_eq ◌==◌ (group_of s.members k) (Some g)

  -- whether it is selected
  selected-is : (which : Which) (sel : Selected) → Means s caller u.space which sel → (k : ℕ) (t : Task) → task_at s.tree k ≡ Some t → is_selected state row which (row_of s k t) ≡ is_chosen sel k
  selected-is AnyChild Any m k t e = refl
  selected-is (Pid n) (OneTask j) m k t e =
      let v = named s l k t e in
      ap (λ o. option_eq ◌==◌ o (Some n)) (number-here k v.0 v.1) ∙ number-only j n m k
  selected-is OwnGroup (Group g) m k t e =
      let w = member s l k t e in
      let v = group-named s l k w.0 w.1 in
      let x = member s l caller own here in
      let y = group-named s l caller x.0 x.1 in
      let his : group_of s.members k ≡ Some w.0.group = ap (option_map (λ (i : Membership). i.group)) w.1 in
      let mine : group_of s.members caller ≡ Some x.0.group = ap (option_map (λ (i : Membership). i.group)) x.1 in
      let same : x.0.group ≡ g = ap (λ o. unwrap_or o 0) (sym mine ∙ m) in
      ap (λ o. same_name (option_map_or (name_at b) o root_name) (option_map_or (name_at b) (group_of s.members caller) root_name)) his
      ∙ ap (λ o. same_name (name_at b w.0.group) (option_map_or (name_at b) o root_name)) mine
      ∙ same-name s l w.0.group x.0.group (ap is_some v.1) (ap is_some y.1)
      ∙ ap (λ i. w.0.group == i) same ∙ sym (ap (λ o. option_eq ◌==◌ o (Some g)) his)
  selected-is (InGroup n) (Group g) m k t e =
      let w = member s l k t e in
      let v = group-named s l k w.0 w.1 in
      let his : group_of s.members k ≡ Some w.0.group = ap (option_map (λ (i : Membership). i.group)) w.1 in
      ap (λ o. is_numbered state.spaces (option_map_or (name_at b) o root_name) row.name.space n) his
      ∙ ap (λ o. option_eq ◌==◌ o (Some n)) (number-here w.0.group v.0 v.1)
      ∙ number-only g n m w.0.group ∙ sym (ap (λ o. option_eq ◌==◌ o (Some g)) his)
  selected-is AnyChild (OneTask j) m k t e = absurd m
  selected-is AnyChild (Group g) m k t e = absurd m
  selected-is (Pid n) Any m k t e = absurd m
  selected-is (Pid n) (Group g) m k t e = absurd m
  selected-is OwnGroup Any m k t e = absurd m
  selected-is OwnGroup (OneTask j) m k t e = absurd m
  selected-is (InGroup n) Any m k t e = absurd m
  selected-is (InGroup n) (OneTask j) m k t e = absurd m

  is_chosen-true : (sel : Selected) (k : ℕ) → is_chosen sel k ≡ true → IsSelectedKey s sel k
  is_chosen-true Any k e = tt
  is_chosen-true (OneTask j) k e = eqb-true k j e
  is_chosen-true (Group g) k e = some_number (group_of s.members k) g e

  is_chosen-of : (sel : Selected) (k : ℕ) → IsSelectedKey s sel k → is_chosen sel k ≡ true
  is_chosen-of Any k e = refl
  is_chosen-of (OneTask j) k e = eq-eqb k j e
  is_chosen-of (Group g) k e = number_tested (group_of s.members k) g e

  -- who matches is a task
  matching_task : (k p : ℕ) → parent_of s.tree k ≡ Some p → (t : Task) × (task_at s.tree k ≡ Some t)
  matching_task k p child = go (task_at s.tree k) refl
    where
      go : (o : Option Task) → task_at s.tree k ≡ o → (t : Task) × (task_at s.tree k ≡ Some t)
      go None e = absurd (let z : None ≡ Some p = sym (l.absent k e) ∙ child in cc)
      go (Some t) e = (t, e)

  module _ (which : Which) (sel : Selected) (means : Means s caller u.space which sel) where
    test-is : (k : ℕ) (t : Task) → task_at s.tree k ≡ Some t
        → (is_parent row.name (row_of s k t) && is_selected state row which (row_of s k t)) ≡ (option_eq ◌==◌ (parent_of s.tree k) (Some caller) && is_chosen sel k)
    test-is k t e =
        ap (λ x. x && is_selected state row which (row_of s k t)) (child-is k t)
        ∙ ap (λ x. option_eq ◌==◌ (parent_of s.tree k) (Some caller) && x) (selected-is which sel means k t e)

    -- the model's matching children are those that match by key
    in-matching : (k : ℕ) (t : Task) → task_at s.tree k ≡ Some t → IsMatch s caller sel k → IsIn (row_of s k t) (matching state row which)
    unfolding matching
    in-matching k t e (child, mine) =
        let one = number_tested (parent_of s.tree k) caller child in
        let two = is_chosen-of sel k mine in
        IsIn-filter (λ r. is_parent row.name r && is_selected state row which r) (row_of s k t) state.rows (rows-in s l k t e)
        (test-is k t e ∙ (let z : (option_eq ◌==◌ (parent_of s.tree k) (Some caller) && is_chosen sel k) ≡ true = rw (one, two) refl in z))

    from-matching : (r : Row) → IsIn r (matching state row which) → (k : ℕ) × (t : Task) × (task_at s.tree k ≡ Some t) × (r ≡ row_of s k t) × IsMatch s caller sel k
    unfolding matching
    from-matching r i =
        let f = IsIn-from_filter (λ r. is_parent row.name r && is_selected state row which r) r state.rows i in
        let w = in-rows s l r f.0 in
        let tests = both (option_eq ◌==◌ (parent_of s.tree w.0) (Some caller)) (is_chosen sel w.0)
        (sym (test-is w.0 w.1 w.2) ∙ ap (λ x. is_parent row.name x && is_selected state row which x) (sym w.3) ∙ f.1) in
        (w.0, w.1, w.2, w.3, (some_number (parent_of s.tree w.0) caller tests.0, is_chosen-true sel w.0 tests.1))

    module _ (waiting : (k : ℕ) → option_map (λ (m : ℕ × ℕ). m.0) (rank_of s.tree k) ≡ waits_for (task_at s.tree k) (parent_of s.tree k)) where
      -- the number in the caller's namespace of a child that has ended
      rank-number : (k r : ℕ) → rank_of s.tree k ≡ Some (caller, r) → number_of b k u.space ≡ Some r
      rank-number k r e = l.agree.ranks k caller r e u known

      number-is : (k r : ℕ) (t : Task) → task_at s.tree k ≡ Some t → number_of b k u.space ≡ Some r → number_or_zero state.spaces (name_at b k) row.name.space ≡ r
      number-is k r t e has = let v = named s l k t e in ap (λ o. unwrap_or o 0) (number-here k v.0 v.1 ∙ has)

      ranked : (k : ℕ) → parent_of s.tree k ≡ Some caller → is_zombie (task_at s.tree k) ≡ true → (r : ℕ) × (rank_of s.tree k ≡ Some (caller, r))
      ranked k child ended = go (rank_of s.tree k) refl
        where
          told : option_map (λ (m : ℕ × ℕ). m.0) (rank_of s.tree k) ≡ Some caller
          told = waiting k ∙ ap (λ x. if x then parent_of s.tree k else None) ended ∙ child

          go : (o : Option (ℕ × ℕ)) → rank_of s.tree k ≡ o → (r : ℕ) × (rank_of s.tree k ≡ Some (caller, r))
          go None e = absurd (let z : None ≡ Some caller = sym (ap (option_map (λ (m : ℕ × ℕ). m.0)) e) ∙ told in cc)
          go (Some m) e =
              let z : Some m.0 ≡ Some caller = sym (ap (option_map (λ (m : ℕ × ℕ). m.0)) e) ∙ told in
              let owner : m.0 ≡ caller = cc in
              (m.1, e ∙ ap (λ (p : ℕ). Some (p, m.1)) owner)

      -- what the choice by key says, the model says
      pub told : (choice : Choice) → IsChoice s caller sel choice → IsTold s row which choice
      unfolding matching
      told NoChild none = filter-none (λ r. is_parent row.name r && is_selected state row which r) state.rows (λ r i. fails r i (is_parent row.name r && is_selected state row which r) refl)
        where
          fails : (r : Row) → IsIn r state.rows → (x : Bool) → (is_parent row.name r && is_selected state row which r) ≡ x → x ≡ false
          fails r i true e = absurd (let f = from-matching r (IsIn-filter (λ r. is_parent row.name r && is_selected state row which r) r state.rows i e) in none f.0 f.4)
          fails r i false e = refl
      told NoneEnded ((k, match), living) =
          let t = matching_task k caller match.0 in (
            some-there (row_of s k t.0) (matching state row which) (in-matching k t.0 t.1 match),
            filter-none (λ r. not (is_live r)) (matching state row which) (λ r i.
                let f = from-matching r i in
                ap (λ x. not (is_live x)) f.3 ∙ sym (ap is_zombie f.2) ∙ living f.0 f.4),
          )
      told (Ended child rank) (match, ended, own_rank, least) =
          let t = matching_task child caller match.0 in
          let has = rank-number child rank own_rank in
          let is = number-is child rank t.0 t.1 has in (
            some-there (row_of s child t.0) (matching state row which) (in-matching child t.0 t.1 match),
            (
              t.0,
              t.1,
              ended-of t.0 (sym (ap is_zombie t.1) ∙ ended),
              least-is state row.name.space (row_of s child t.0) (ended_children state row which)
                  (IsIn-filter (λ r. not (is_live r)) (row_of s child t.0) (matching state row which) (in-matching child t.0 t.1 match) (sym (ap is_zombie t.1) ∙ ended))
                  (λ x i.
                  let e = IsIn-from_filter (λ r. not (is_live r)) x (matching state row which) i in
                  let f = from-matching x e.0 in
                  let q = ranked f.0 (f.4).0 (ap is_zombie f.2 ∙ sym (ap (λ y. not (is_live y)) f.3) ∙ e.1) in
                  let has_q = rank-number f.0 q.0 q.1 in
                  let is_q : number_or_zero state.spaces x.name row.name.space ≡ q.0 = ap (λ (y : Row). number_or_zero state.spaces y.name row.name.space) f.3 ∙ number-is f.0 q.0 f.1 f.2 has_q in
                  let below = least f.0 q.0 f.4 q.1 in (
                    omega (arith, is, is_q, below),
                    λ z.
                        let ranks : q.0 ≡ rank = sym is_q ∙ z ∙ is in
                        let same : f.0 ≡ child = l.numbering.distinct f.0 child u.space rank (has_q ∙ ap Some ranks) has in
                        let task : Some f.1 ≡ Some t.0 = sym f.2 ∙ ap (task_at s.tree) same ∙ t.1 in
                        f.3 ∙ ap (λ j. row_of s j f.1) same ∙ ap (λ o. option_map_or (row_of s child) o x) task,
                  )),
            ),
            is,
          )

  not_there : (o : Option ℕ) (n : ℕ) → o ≢ Some n → option_eq ◌==◌ o (Some n) ≡ false
  not_there o n none = go (option_eq ◌==◌ o (Some n)) refl
    where
      go : (x : Bool) → option_eq ◌==◌ o (Some n) ≡ x → x ≡ false
      go true e = absurd (none (some_number o n e))
      go false e = refl

  -- a number that nobody has selects nobody
  unselected : (which : Which) → IsUnknown s u.space which → (k : ℕ) (t : Task) → task_at s.tree k ≡ Some t → is_selected state row which (row_of s k t) ≡ false
  unselected AnyChild none k t e = absurd none
  unselected OwnGroup none k t e = absurd none
  unselected (Pid n) none k t e = let v = named s l k t e in ap (λ o. option_eq ◌==◌ o (Some n)) (number-here k v.0 v.1) ∙ not_there (number_of b k u.space) n (none k)
  unselected (InGroup n) none k t e =
      let w = member s l k t e in
      let v = group-named s l k w.0 w.1 in
      ap (λ o. is_numbered state.spaces (option_map_or (name_at b) (option_map (λ (i : Membership). i.group) o) root_name) row.name.space n) w.1
      ∙ ap (λ o. option_eq ◌==◌ o (Some n)) (number-here w.0.group v.0 v.1) ∙ not_there (number_of b w.0.group u.space) n (none w.0.group)

  pub told-unknown : (which : Which) → IsUnknown s u.space which → IsTold s row which NoChild
  unfolding matching
  told-unknown which none = filter-none (λ r. is_parent row.name r && is_selected state row which r) state.rows (λ r i.
      let w = in-rows s l r i in
      no (is_parent row.name r) (is_selected state row which r) (ap (is_selected state row which) w.3 ∙ unselected which none w.0 w.1 w.2))
    where
      no : (x y : Bool) → y ≡ false → (x && y) ≡ false
      no true y e = e
      no false y e = refl
