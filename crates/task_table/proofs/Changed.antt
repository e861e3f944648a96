-- What changes of a store make of the model's state.
use Rattle.std.proofs.Common.{◌≡◌, ◌≢◌, inl, inr, ℕ, ◌<◌, Bool, true, false, ◌==◌, ◌&&◌, List, [], ◌∷◌, length, map, filter, get_or, cond, Option, Some, None, IsSome, is_some, if◌then◌else◌, refl, sym, ap, subst, ◌∙◌, arith, option_map, option_and_then}
use Rattle.std.specs.Prelude.{slice_set}
use Rattle.std.specs.Option.{option_map_or}
use Rattle.std.specs.List.{AllByRecursion}
use Rattle.std.proofs.lemmas.Bool.{cases_eq}
use Rattle.std.proofs.lemmas.List.{get_or-set_same, get_or-set_other}
use Rattle.pid_types.proofs.General.{held}
use Rattle.pid_types.specs.declared.plain.Row.{Row}
use Rattle.pid_types.specs.State.{State, root_name}
use Rattle.pid_types.specs.Names.{with_row, on_row}
use Rattle.pid_types.specs.Outcome.{sweep}
use Rattle.pid_numbers.specs.Numbering.{Numbering, Namespace, Identifier, namespace_at, id_at, identifier_at, number_of, taken_in, is_deserted, is_there, swept_at}
use Rattle.task_tree.specs.declared.Task.{Task}
use Rattle.task_tree.specs.Tree.{task_at, parent_of}
use Rattle.groups_sessions.specs.Membership.{membership_at, group_of, session_of}
use Rattle.pids_charge.specs.Charges.{Home, home_at, after_move, home_id}
use Rattle.task_table.specs.Store.{Store, HasNoThreads, IsLess, IsSame}
use Rattle.task_table.proofs.Changes.{in_range}
use Rattle.task_table.specs.Collect.{collect}
use Rattle.task_table.specs.View.{name_at, key_numbered, row_of, row_with, row_numbered, spaces_of, state_of}
use Rattle.task_table.proofs.Collects.{collect-same}
use Rattle.task_table.specs.Lawful.{HasLaws, IsLawful}
use Rattle.task_table.proofs.LookUps.{named, group-named, session-named}
use Rattle.task_table.proofs.Rows.{row-ext, rows-on}
use Rattle.task_table.proofs.Sweeps.{spaces-swept}
use Rattle.task_table.proofs.InUse.{AreNamed, member, named-alone}

-- nothing went
pub IsLess-same : (b : Numbering) → HasLaws b → IsLess b b
unfolding taken_in
IsLess-same b h = record {
  names = λ i u e. e;
  namespaces = λ s. go s (namespace_at b s) refl;
  order = sym (all b.order h.each);
  bound = refl;
}
  where
    nobody : (n : ℕ) → 0 < n → (n == 0) ≡ false
    nobody n some = grind (arith, some)

    go : (s : ℕ) (o : Option Namespace) → namespace_at b s ≡ o → namespace_at b s ≡ swept_at b s
    go s None is = is ∙ sym (ap (option_and_then (λ t. if is_deserted b s t then None else Some t)) is)
    go s (Some t) is = is ∙ sym (ap (option_and_then (λ t. if is_deserted b s t then None else Some t)) is ∙ test t.fallen refl)
      where
        test : (f : Bool) → t.fallen ≡ f → (if t.fallen && (length (taken_in b s) == 0) then None else Some t) ≡ Some t
        test false e = ap (λ f. if f && (length (taken_in b s) == 0) then None else Some t) e
        test true e =
            ap (λ f. if f && (length (taken_in b s) == 0) then None else Some t) e
            ∙ ap (λ z. if z then None else Some t) (nobody (length (taken_in b s)) (h.held s (ap (λ o. option_map_or (λ t. t.fallen) o false) is ∙ e)))

    all : (ps : List (ℕ × ℕ)) → AllByRecursion (λ p. id_at b p.1 ≡ Some p.0) ps → filter (λ p. is_there b p.1) ps ≡ ps
    all [] h = refl
    all (p ∷ ps) h =
        ap (λ z. cond z (p ∷ filter (λ q. is_there b q.1) ps) (filter (λ q. is_there b q.1) ps)) (there (namespace_at b p.1) h.0) ∙ ap (λ qs. p ∷ qs) (all ps h.1)
      where
        there : (o : Option Namespace) → option_map (λ t. t.id) o ≡ Some p.0 → is_some o ≡ true
        there None e = absurd (cc)
        there (Some t) e = refl

-- a state whose names in use are a store's, and whose namespaces are those before some went, is swept to the store's namespaces
pub swept-spaces : (m : Numbering) → HasLaws m → (s' : Store) → IsLawful s' → IsLess m s'.numbering → (state : State) → AreNamed s' state → state.spaces ≡ spaces_of m
    → sweep state ≡ record state { spaces = spaces_of s'.numbering }
unfolding sweep
swept-spaces m h s' l' less state named spaces = let stay = spaces-swept m h s' l' less state named spaces in λ i. record state { spaces = stay i }

-- one without threads is swept to the store's state
pub swept : (m : Numbering) → HasLaws m → (s' : Store) → IsLawful s' → HasNoThreads s'.threads → IsLess m s'.numbering → (state : State) → state.rows ≡ (state_of s').rows → state.threads ≡ [] → state.left ≡ []
    → state.spaces ≡ spaces_of m
    → state.controls ≡ s'.charges.controls → state.pid_max ≡ s'.numbering.pid_max → sweep state ≡ state_of s'
swept m h s' l' alone less state rows threads left spaces controls bound =
    let stay = swept-spaces m h s' l' less state (named-alone s' l' alone state rows threads) spaces in
    stay ∙ (λ i. record { rows = rows i; threads = threads i; left = left i; spaces = spaces_of s'.numbering; controls = controls i; pid_max = bound i })

-- the names of who is left are as they were
abbrev pub KeepsNames : Numbering → Numbering → Type 0
KeepsNames b c = (k : ℕ) (v : Identifier) → identifier_at c k ≡ Some v → name_at c k ≡ name_at b k

-- a task that is left, with the parent, the group, the session and the control group that it had, has the row that it had
pub row-left : (s s' : Store) → IsLawful s' → KeepsNames s.numbering s'.numbering → (k : ℕ) (t : Task) → task_at s'.tree k ≡ Some t
    → parent_of s'.tree k ≡ parent_of s.tree k → ((p : ℕ) → parent_of s'.tree k ≡ Some p → IsSome (task_at s'.tree p))
    → membership_at s'.members k ≡ membership_at s.members k → home_id s'.charges t.home ≡ home_id s.charges t.home → row_of s' k t ≡ row_of s k t
row-left s s' l' names k t at same_parent parents same_member home =
    let m = member s' l' k t at in
    let g = group-named s' l' k m.0 m.1 in
    let z = session-named s' l' k m.0 m.1 in
    let u = named s' l' k t at in
    row-ext (row_of s' k t) (row_of s k t) (names k u.0 u.1) (parent (parent_of s'.tree k) refl)
    (ap (λ o. option_map_or (name_at s'.numbering) (option_map (λ m. m.group) o) root_name) m.1 ∙ names m.0.group g.0 g.1 ∙ sym (ap (λ o. option_map_or (name_at s.numbering) (option_map (λ m. m.group) o) root_name) (sym same_member ∙ m.1)))
    (ap (λ o. option_map_or (name_at s'.numbering) (option_map (λ m. m.session) o) root_name) m.1 ∙ names m.0.session z.0 z.1 ∙ sym (ap (λ o. option_map_or (name_at s.numbering) (option_map (λ m. m.session) o) root_name) (sym same_member ∙ m.1)))
    refl refl home refl refl
  where
    parent : (o : Option ℕ) → parent_of s'.tree k ≡ o → option_map (name_at s'.numbering) (parent_of s'.tree k) ≡ option_map (name_at s.numbering) (parent_of s.tree k)
    parent None e = ap (option_map (name_at s'.numbering)) e ∙ sym (ap (option_map (name_at s.numbering)) (sym same_parent ∙ e))
    parent (Some p) e =
        let v = held (task_at s'.tree p) (parents p e) in
        let u = named s' l' p v.0 v.1 in
        ap (option_map (name_at s'.numbering)) e ∙ ap Some (names p u.0 u.1) ∙ sym (ap (option_map (name_at s.numbering)) (sym same_parent ∙ e))

-- one task became another one in the same place
pub record IsRetasked (s s' : Store) (k : ℕ) (t : Task) : Type 0 where
  pub tasks : s'.tree.tasks ≡ slice_set s.tree.tasks k (Some t)
  pub parents : (j : ℕ) → parent_of s'.tree j ≡ parent_of s.tree j
  pub numbering : s'.numbering ≡ s.numbering
  pub members : s'.members ≡ s.members
  pub controls : s'.charges.controls ≡ s.charges.controls
  pub homes : (c : ℕ) → home_id s'.charges c ≡ home_id s.charges c

module _ (s s' : Store) (l : IsLawful s) (l' : IsLawful s') (k : ℕ) (t t' : Task) (at : task_at s.tree k ≡ Some t) (r : IsRetasked s s' k t') where
  pub task-set : task_at s'.tree k ≡ Some t'
  task-set = ap (λ ts. get_or ts k None) r.tasks ∙ get_or-set_same s.tree.tasks k (Some t') None (in_range s.tree.tasks k (ap is_some at))

  pub task-others : (j : ℕ) → j ≢ k → task_at s'.tree j ≡ task_at s.tree j
  task-others j m = ap (λ ts. get_or ts j None) r.tasks ∙ get_or-set_other s.tree.tasks k j (Some t') None m

  pub row-same : (j : ℕ) (v : Task) → row_of s' j v ≡ row_of s j v
  row-same j v = row-ext (row_of s' j v) (row_of s j v) (ap (λ b. name_at b j) r.numbering)
      (ap (λ b. option_map (name_at b) (parent_of s'.tree j)) r.numbering ∙ ap (option_map (name_at s.numbering)) (r.parents j))
      (ap (λ b. option_map_or (name_at b) (group_of s'.members j) root_name) r.numbering ∙ ap (λ ms. option_map_or (name_at s.numbering) (group_of ms j) root_name) r.members)
      (ap (λ b. option_map_or (name_at b) (session_of s'.members j) root_name) r.numbering ∙ ap (λ ms. option_map_or (name_at s.numbering) (session_of ms j) root_name) r.members)
      refl refl (r.homes v.home) refl refl

  pub others_same : (j : ℕ) → j ≢ k → row_with s' j ≡ row_with s j
  others_same j m = ap (option_map (row_of s' j)) (task-others j m) ∙ ap (λ (f : Task → Row). option_map f (task_at s.tree j)) (λ i v. row-same j v i)

  -- the model's row of the task is changed, and nothing else
  pub retasked : HasNoThreads s'.threads → (h : Row → Row) → h (row_of s k t) ≡ row_of s k t' → sweep (with_row (state_of s) (name_at s.numbering k) h) ≡ state_of s'
  unfolding with_row
  retasked alone h changes =
      swept s.numbering l.numbering s' l' alone (subst (IsLess s.numbering) (sym r.numbering) (IsLess-same s.numbering l.numbering)) (record (state_of s) { rows = map (on_row (name_at s.numbering k) h) (state_of s).rows })
      (sym (rows-on s s' l l' (ap (λ b. b.pid_max) r.numbering) (λ j v e. ap (λ b. number_of b j 0) r.numbering) k t h at
      (ap (option_map (row_of s' k)) task-set ∙ ap Some (row-same k t' ∙ sym changes)) others_same))
      refl refl refl (sym r.controls) (sym (ap (λ b. b.pid_max) r.numbering))

  -- parents are tasks as before
  pub parents-retasked : ((j p : ℕ) → parent_of s.tree j ≡ Some p → IsSome (task_at s.tree p)) → (j p : ℕ) → parent_of s'.tree j ≡ Some p → IsSome (task_at s'.tree p)
  parents-retasked parents j p e = elim (cases_eq p k) [
    | inl same ↦ ap is_some (ap (task_at s'.tree) same ∙ task-set)
    | inr differs ↦ ap is_some (task-others p differs) ∙ parents j p (sym (r.parents j) ∙ e)
  ]

-- a task that was written again
pub updated : (s s' : Store) (k : ℕ) (t : Task) → s'.tree.tasks ≡ slice_set s.tree.tasks k (Some t) → s' ≡ record s { tree = record s.tree { tasks = s'.tree.tasks } } → IsRetasked s s' k t
updated s s' k t tasks rest = record {
  tasks = tasks;
  parents = λ j. ap (λ s. parent_of s.tree j) rest;
  numbering = ap (λ s. s.numbering) rest;
  members = ap (λ s. s.members) rest;
  controls = ap (λ s. s.charges.controls) rest;
  homes = λ c. ap (λ s. home_id s.charges c) rest;
}

-- a task that went to another control group
pub rehomed : (s s' : Store) (k : ℕ) (t : Task) (from to : ℕ) → s'.tree.tasks ≡ slice_set s.tree.tasks k (Some t) → s'.charges.controls ≡ s.charges.controls
    → ((c : ℕ) → home_at s'.charges c ≡ option_map (after_move from to c) (home_at s.charges c)) → s' ≡ record s { tree = record s.tree { tasks = s'.tree.tasks }; charges = s'.charges } → IsRetasked s s' k t
rehomed s s' k t from to tasks controls homes rest = record {
  tasks = tasks;
  parents = λ j. ap (λ s. parent_of s.tree j) rest;
  numbering = ap (λ s. s.numbering) rest;
  members = ap (λ s. s.members) rest;
  controls = controls;
  homes = λ c. ap (λ o. option_map_or (λ h. h.id) o 0) (homes c) ∙ same c (home_at s.charges c);
}
  where
    same : (c : ℕ) (o : Option Home) → option_map_or (λ h. h.id) (option_map (after_move from to c) o) 0 ≡ option_map_or (λ h. h.id) o 0
    same c None = refl
    same c (Some h) = refl

-- where nothing is different but the room, the state is the same
pub same-state : (s s' : Store) → IsSame s s' → state_of s' ≡ state_of s
same-state s s' e =
    let rows : collect (row_numbered s' 0) 0 s'.numbering.pid_max ≡ collect (row_numbered s 0) 0 s.numbering.pid_max =
    ap (collect (row_numbered s' 0) 0) (ap (λ b. b.pid_max) e.numbering) ∙ collect-same (row_numbered s 0) (row_numbered s' 0) 0 s.numbering.pid_max (λ n _. numbered n) in
    λ i. record { rows = rows i; threads = []; left = []; spaces = spaces_of (e.numbering i); controls = (e.charges i).controls; pid_max = (e.numbering i).pid_max }
  where
    row : (k : ℕ) (t : Task) → row_of s' k t ≡ row_of s k t
    row k t = row-ext (row_of s' k t) (row_of s k t) (ap (λ b. name_at b k) e.numbering)
        (ap (λ b. option_map (name_at b) (parent_of s'.tree k)) e.numbering ∙ ap (option_map (name_at s.numbering)) (e.parents k))
        (ap (λ b. option_map_or (name_at b) (group_of s'.members k) root_name) e.numbering ∙ ap (λ o. option_map_or (name_at s.numbering) (option_map (λ m. m.group) o) root_name) (e.members k))
        (ap (λ b. option_map_or (name_at b) (session_of s'.members k) root_name) e.numbering ∙ ap (λ o. option_map_or (name_at s.numbering) (option_map (λ m. m.session) o) root_name) (e.members k))
        refl refl (ap (λ v. home_id v t.home) e.charges) refl refl

    with : (k : ℕ) → row_with s' k ≡ row_with s k
    with k = ap (option_map (row_of s' k)) (e.tasks k) ∙ ap (λ (f : Task → Row). option_map f (task_at s.tree k)) (λ i t. row k t i)

    numbered : (n : ℕ) → row_numbered s' 0 n ≡ row_numbered s 0 n
    numbered n = ap (λ b. option_and_then (row_with s') (key_numbered b 0 n)) e.numbering ∙ ap (λ (f : ℕ → Option Row). option_and_then f (key_numbered s.numbering 0 n)) (λ i k. with k i)

pub same-parents : (s s' : Store) → IsSame s s' → ((k p : ℕ) → parent_of s.tree k ≡ Some p → IsSome (task_at s.tree p)) → (k p : ℕ) → parent_of s'.tree k ≡ Some p → IsSome (task_at s'.tree p)
same-parents s s' e parents k p f = ap is_some (e.tasks p) ∙ parents k p (sym (e.parents k) ∙ f)
