-- What the end of a thread beside the first one makes of the state with threads.
use Rattle.std.proofs.Common.{◌≡◌, ◌≢◌, ◌⊎◌, inl, inr, ℕ, ◌<◌, ◌==◌, ◌+◌, ◌-◌, ◌||◌, Bool, true, false, not, nat_lt, filter, Option, Some, None, IsSome, is_some, if◌then◌else◌, refl, sym, ap, subst, ◌∙◌, arith, option_map, option_and_then}
use Rattle.std.specs.Prelude.{slice_set}
use Rattle.std.specs.Option.{option_map_or}
use Rattle.std.proofs.lemmas.Bool.{cases_eq, eq-eqb}
use Rattle.std.proofs.lemmas.List.{get_or-set_same, get_or-set_other, map-id}
use Rattle.std.proofs.lemmas.Map.Entries.{option_filter}
use Rattle.pid_types.proofs.General.{apart, held}
use Rattle.pid_types.specs.declared.plain.Name.{Name}
use Rattle.pid_types.specs.declared.plain.Row.{Row}
use Rattle.pid_types.specs.declared.plain.Thread.{Thread as ThreadRow}
use Rattle.pid_types.specs.Names.{root_number}
use Rattle.pid_types.specs.Outcome.{sweep}
use Rattle.pid_types.specs.Leave.{without_thread}
use Rattle.pid_numbers.specs.Numbering.{Numbering, Identifier, identifier_at, number_in, number_of, path_at}
use Rattle.pids_charge.specs.Charges.{Home, home_at, home_id, kept, live_at}
use Rattle.process_threads.specs.declared.Thread.{Thread}
use Rattle.process_threads.specs.Threads.{thread_with, left_at}
use Rattle.task_tree.specs.declared.Task.{Task}
use Rattle.task_tree.specs.Tree.{task_at, parent_of, has_live}
use Rattle.groups_sessions.specs.Membership.{membership_at}
use Rattle.task_table.specs.Store.{Store, IsLess, IsThread, IsThreaded, Uncharges}
use Rattle.task_table.specs.Collect.{collect}
use Rattle.task_table.specs.View.{name_at, key_numbered, row_of, row_with, state_of}
use Rattle.task_table.specs.Lawful.{IsLawful}
use Rattle.task_table.specs.Whole.{HasParents}
use Rattle.task_table.proofs.Collects.{collect-filter, collect-same}
use Rattle.task_table.proofs.Keys.{key-of, key-some, key-none}
use Rattle.task_table.proofs.Less.{number-less}
use Rattle.task_table.proofs.Sweeps.{name-less}
use Rattle.task_table.proofs.LookUps.{named}
use Rattle.task_table.proofs.Rows.{rows-map}
use Rattle.task_table.proofs.Changed.{row-left}
use Rattle.task_table.proofs.Changes.{in_range}
use Rattle.task_table.proofs.InUse.{homed}
use Rattle.task_table.proofs.ThreadChanges.{live_some}
use Rattle.thread_view.specs.Full.{thread_row_of, thread_row_with, thread_row_numbered, mark_with, mark_numbered, full_state}
use Rattle.thread_view.specs.Calling.{HasProcesses}
use Rattle.thread_view.proofs.Threads.{thread-named, thread-keyed, no-task, process-there}
use Rattle.thread_view.proofs.Named.{swept-full}

-- an identifier with a number is there
pub numbered_there : (b : Numbering) (k sp n : ℕ) → number_of b k sp ≡ Some n → (u : Identifier) × (identifier_at b k ≡ Some u)
numbered_there b k sp n e = go (identifier_at b k) refl e
  where
    go : (o : Option Identifier) → identifier_at b k ≡ o → number_in (path_at b) sp o ≡ Some n → (u : Identifier) × (identifier_at b k ≡ Some u)
    go None is e = absurd (cc)
    go (Some u) is e = (u, is)

-- the thread with the key k, whose number in the root namespace is n, is gone
module _ (s s' : Store) (l : IsLawful s) (l' : IsLawful s') (w : IsThreaded s.numbering s.threads) (w' : IsThreaded s'.numbering s'.threads) (p : HasProcesses s) (kin : HasParents s)
    (k n : ℕ) (t : Thread) (there : IsThread s.threads k t) (has : number_of s.numbering k 0 ≡ Some n)
    (threads : s'.threads ≡ record s.threads { threads = slice_set s.threads.threads k None }) (gone : identifier_at s'.numbering k ≡ None)
    (names : (i : ℕ) → i ≢ k → identifier_at s'.numbering i ≡ identifier_at s.numbering i) (numbers : IsLess s.numbering s'.numbering)
    (home : Uncharges s.charges s'.charges t.home) (rest : (s'.tree ≡ s.tree) × (s'.members ≡ s.members)) where
  kept_name : (j : ℕ) (v : Identifier) → identifier_at s'.numbering j ≡ Some v → name_at s'.numbering j ≡ name_at s.numbering j
  kept_name j v e = name-less s.numbering s'.numbering l.numbering numbers j v e

  kept_number : (j : ℕ) (v : Identifier) → identifier_at s'.numbering j ≡ Some v → (sp : ℕ) → number_of s'.numbering j sp ≡ number_of s.numbering j sp
  kept_number = number-less s.numbering l.numbering.full l.numbering.own s'.numbering numbers

  -- a control group that is there has the id that it had
  kept_id : (c : ℕ) (h : Home) → home_at s'.charges c ≡ Some h → home_id s'.charges c ≡ home_id s.charges c
  kept_id c h e = elim (cases_eq c t.home) [
    | inl same ↦ one (home_at s.charges t.home) refl (sym home.home.here ∙ ap (home_at s'.charges) (sym same) ∙ e) same
    | inr differs ↦ ap (λ o. option_map_or (λ h. h.id) o 0) (home.home.others c differs)
  ]
    where
      id_of : (b : Bool) (g : Home) → (if b then Some g else None) ≡ Some h → h.id ≡ g.id
      id_of true g e = ap (λ o. option_map_or (λ x. x.id) o 0) (sym e)
      id_of false g e = absurd (cc)

      one : (o : Option Home) → home_at s.charges t.home ≡ o → option_and_then (λ (g : Home). kept (record g { live = g.live - 1 })) o ≡ Some h → c ≡ t.home → home_id s'.charges c ≡ home_id s.charges c
      one None is f same = absurd (cc)
      one (Some g) is f same =
          ap (λ o. option_map_or (λ x. x.id) o 0) e
          ∙ id_of ((record g { live = g.live - 1 }).stands || nat_lt 0 ((record g { live = g.live - 1 }).live + (record g { live = g.live - 1 }).zombies)) (record g { live = g.live - 1 }) f
          ∙ sym (ap (λ j. option_map_or (λ x. x.id) (home_at s.charges j) 0) same ∙ ap (λ o. option_map_or (λ x. x.id) o 0) is)

  other_thread : (j : ℕ) → j ≢ k → thread_with s'.threads j ≡ thread_with s.threads j
  other_thread j differs = ap (λ x. thread_with x j) threads ∙ get_or-set_other s.threads.threads k j None None differs

  same_left : (j : ℕ) → left_at s'.threads j ≡ left_at s.threads j
  same_left j = ap (λ x. left_at x j) threads

  -- parents and processes are tasks as before
  pub parents-left : HasParents s'
  parents-left = subst (λ x. (j q : ℕ) → parent_of x j ≡ Some q → IsSome (task_at x q)) (sym rest.0) kin

  -- a thread that is left is another one
  still_thread : (j : ℕ) (v : Thread) → thread_with s'.threads j ≡ Some v → (j ≢ k) × (thread_with s.threads j ≡ Some v)
  still_thread j v e =
      let differs : j ≢ k = (λ same.
      let z : None ≡ Some v = sym (ap (λ x. thread_with x k) threads ∙ get_or-set_same s.threads.threads k None None (in_range s.threads.threads k (ap is_some there))) ∙ ap (thread_with s'.threads) (sym same) ∙ e in cc) in
      (differs, sym (other_thread j differs) ∙ e)

  pub processes-left : HasProcesses s'
  processes-left j v e = ap (λ x. has_live (task_at x v.process)) rest.0 ∙ p j v (still_thread j v e).1

  -- tasks have the rows that they had
  row_kept : (j : ℕ) → row_with s' j ≡ row_with s j
  row_kept j = go (task_at s'.tree j) refl
    where
      go : (o : Option Task) → task_at s'.tree j ≡ o → row_with s' j ≡ row_with s j
      go None e = ap (option_map (row_of s' j)) e ∙ sym (ap (option_map (row_of s j)) (ap (λ x. task_at x j) (sym rest.0) ∙ e))
      go (Some v) e =
          let h = homed s' l' j v e in
          ap (option_map (row_of s' j)) e
          ∙ ap Some (row-left s s' l' kept_name j v e (ap (λ x. parent_of x j) rest.0) (λ q f. parents-left j q f) (ap (λ x. membership_at x j) rest.1) (kept_id v.home h.0 h.1))
          ∙ sym (ap (option_map (row_of s j)) (ap (λ x. task_at x j) (sym rest.0) ∙ e))

  rows_kept : (state_of s').rows ≡ (state_of s).rows
  rows_kept =
      rows-map s s' l l' numbers.bound (λ j v e. let u = named s' l' j v e in kept_number j u.0 u.1 0) (λ r. r) (λ j. row_kept j ∙ as_it_is (row_with s j)) ∙ map-id (state_of s).rows
    where
      as_it_is : (o : Option Row) → o ≡ option_map (λ r. r) o
      as_it_is None = refl
      as_it_is (Some r) = refl

  -- a number leads to the same key, or was the thread's, or nobody's
  abbrev Found : ℕ → Type 0
  Found i =
      ((j : ℕ) × (j ≢ k) × (i ≢ n) × (key_numbered s'.numbering 0 i ≡ Some j) × (key_numbered s.numbering 0 i ≡ Some j) × ((v : Identifier) × (identifier_at s'.numbering j ≡ Some v)))
      ⊎ ((key_numbered s'.numbering 0 i ≡ None) × ((key_numbered s.numbering 0 i ≡ None) ⊎ (key_numbered s.numbering 0 i ≡ Some k)))

  found : (i : ℕ) → Found i
  found i = new (key_numbered s'.numbering 0 i) refl
    where
      old : key_numbered s'.numbering 0 i ≡ None → (o : Option ℕ) → key_numbered s.numbering 0 i ≡ o → (key_numbered s.numbering 0 i ≡ None) ⊎ (key_numbered s.numbering 0 i ≡ Some k)
      old none None e = inl e
      old none (Some j) e = elim (cases_eq j k) [
        | inl same ↦ inr (e ∙ ap Some same)
        | inr differs ↦
            let at = key-some s.numbering l.numbering 0 i j e in
            let u = numbered_there s.numbering j 0 i at in
            absurd (key-none s'.numbering l'.numbering 0 i none j (kept_number j u.0 (names j differs ∙ u.1) 0 ∙ at))
      ]

      new : (o : Option ℕ) → key_numbered s'.numbering 0 i ≡ o → Found i
      new None e = inr (e, old e (key_numbered s.numbering 0 i) refl)
      new (Some j) e =
          let at = key-some s'.numbering l'.numbering 0 i j e in
          let u = numbered_there s'.numbering j 0 i at in
          let differs : j ≢ k = (λ same. let z : None ≡ Some u.0 = sym gone ∙ ap (identifier_at s'.numbering) (sym same) ∙ u.1 in cc) in
          let was = sym (kept_number j u.0 u.1 0) ∙ at in
          inl (j, differs, (λ same. differs (l.numbering.distinct j k 0 i was (has ∙ ap Some (sym same)))), e, key-of s.numbering l.numbering 0 i j was, (u.0, u.1))

  -- threads have the rows that they had, but for the one that is gone
  thread_kept : (j : ℕ) → j ≢ k → thread_row_with s' j ≡ thread_row_with s j
  thread_kept j differs = go (thread_with s'.threads j) refl
    where
      go : (o : Option Thread) → thread_with s'.threads j ≡ o → thread_row_with s' j ≡ thread_row_with s j
      go None e = ap (option_map (thread_row_of s' j)) e ∙ sym (ap (option_map (thread_row_of s j)) (sym (other_thread j differs) ∙ e))
      go (Some v) e =
          let u = thread-named s' l' w' j v e in
          let owner = process-there s l p j v (sym (other_thread j differs) ∙ e) in
          let a = named s' l' v.process owner.0 (ap (λ x. task_at x v.process) rest.0 ∙ owner.1) in
          let h = held (home_at s'.charges v.home) (home_of v (live_some s' l'.agree j v e (in_range s'.threads.threads j (ap is_some e)))) in
          let name = kept_name j u.0 u.1 in
          let process = kept_name v.process a.0 a.1 in
          let id = kept_id v.home h.0 h.1 in
          let same : thread_row_of s' j v ≡ thread_row_of s j v = (λ i. record { name = name i; process = process i; home = id i; children_space = v.children_space }) in
          ap (option_map (thread_row_of s' j)) e ∙ ap Some same ∙ sym (ap (option_map (thread_row_of s j)) (sym (other_thread j differs) ∙ e))
        where
          home_of : (v : Thread) → 0 < live_at s'.charges v.home → is_some (home_at s'.charges v.home) ≡ true
          home_of v some = at (home_at s'.charges v.home) refl
            where
              at : (o : Option Home) → home_at s'.charges v.home ≡ o → is_some (home_at s'.charges v.home) ≡ true
              at None e = absurd (let z : live_at s'.charges v.home ≡ 0 = ap (λ o. option_map_or (λ h. h.live) o 0) e in omega (arith, some, z))
              at (Some h) e = ap is_some e

  abbrev remains : ThreadRow → Bool
  remains x = not (root_number x.name == n)

  threads_left : (full_state s').threads ≡ filter remains (full_state s).threads
  threads_left =
      ap (collect (thread_row_numbered s') 0) numbers.bound
      ∙ collect-filter (thread_row_numbered s) (thread_row_numbered s') remains 0 s.numbering.pid_max (λ i. each i (found i))
    where
      stays : (i : ℕ) → i ≢ n → (o : Option ThreadRow) → thread_row_numbered s i ≡ o → o ≡ option_filter remains o
      stays i differs None e = refl
      stays i differs (Some x) e = sym (ap (λ b. if not b then Some x else None) (ap (λ m. m == n) (thread-keyed s l w i x e) ∙ apart i n differs))

      went : (i : ℕ) → key_numbered s.numbering 0 i ≡ Some k → (o : Option ThreadRow) → thread_row_numbered s i ≡ o → None ≡ option_filter remains o
      went i e None is = refl
      went i e (Some x) is =
          let root : i ≡ n = (let z : Some i ≡ Some n = sym (key-some s.numbering l.numbering 0 i k e) ∙ has in ap (λ o. option_map_or (λ m. m) o i) z) in
          sym (ap (λ b. if not b then Some x else None) (ap (λ m. m == n) (thread-keyed s l w i x is ∙ root) ∙ eq-eqb n n refl))

      each : (i : ℕ) → Found i → thread_row_numbered s' i ≡ option_filter remains (thread_row_numbered s i)
      each i (inl (j, differs, other, new, old, u)) =
          ap (option_and_then (thread_row_with s')) new ∙ thread_kept j differs ∙ sym (ap (option_and_then (thread_row_with s)) old)
          ∙ stays i other (thread_row_numbered s i) refl
      each i (inr (new, inl old)) = ap (option_and_then (thread_row_with s')) new ∙ sym (ap (λ o. option_filter remains (option_and_then (thread_row_with s) o)) old)
      each i (inr (new, inr old)) = ap (option_and_then (thread_row_with s')) new ∙ went i old (thread_row_numbered s i) refl

  -- who has left is who had
  left_kept : (full_state s').left ≡ (full_state s).left
  left_kept =
      ap (collect (mark_numbered s') 0) numbers.bound ∙ collect-same (mark_numbered s) (mark_numbered s') 0 s.numbering.pid_max (λ i _. each i (found i))
    where
      no_mark : left_at s.threads k ≡ false
      no_mark = go (left_at s.threads k) refl
        where
          go : (b : Bool) → left_at s.threads k ≡ b → left_at s.threads k ≡ false
          go false e = e
          go true e = absurd (let z : true ≡ false = sym (l.agree.marks k e) ∙ ap has_live (no-task s l w k t there) in cc)

      each : (i : ℕ) → Found i → mark_numbered s' i ≡ mark_numbered s i
      each i (inl (j, differs, other, new, old, u)) =
          ap (option_and_then (mark_with s')) new
          ∙ ap (λ b. if b then Some (name_at s'.numbering j) else None) (same_left j)
          ∙ ap (λ (name : Name). if left_at s.threads j then Some name else None) (kept_name j u.0 u.1)
          ∙ sym (ap (option_and_then (mark_with s)) old)
      each i (inr (new, inl old)) = ap (option_and_then (mark_with s')) new ∙ sym (ap (option_and_then (mark_with s)) old)
      each i (inr (new, inr old)) =
          ap (option_and_then (mark_with s')) new
          ∙ sym (ap (option_and_then (mark_with s)) old ∙ ap (λ b. if b then Some (name_at s.numbering k) else None) no_mark)

  -- the state without the thread
  pub other-left : full_state s' ≡ sweep (without_thread (full_state s) n)
  unfolding without_thread
  other-left = sym (swept-full s.numbering l.numbering s' l' w' numbers (record (full_state s) { threads = filter remains (full_state s).threads })
      (sym rows_kept) (sym threads_left) (sym left_kept) refl (sym home.home.controls) (sym numbers.bound))
