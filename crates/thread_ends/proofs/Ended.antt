-- The threads and the marks of the state with threads after processes have ended.
use Rattle.std.proofs.Common.{◌≡◌, ℕ, ◌<◌, ◌&&◌, Bool, true, false, not, List, [], ◌∷◌, filter, Option, Some, None, is_some, if◌then◌else◌, refl, sym, ap, subst, ◌∙◌, arith, option_map, option_and_then}
use Rattle.std.specs.Option.{option_map_or}
use Rattle.std.proofs.lemmas.Map.Entries.{option_filter}
use Rattle.pid_types.specs.declared.plain.Name.{Name}
use Rattle.pid_types.specs.declared.plain.Thread.{Thread as ThreadRow}
use Rattle.pid_numbers.specs.Numbering.{Identifier, identifier_at, number_of}
use Rattle.pids_charge.specs.Charges.{Charges, Home, home_at, home_id, live_at}
use Rattle.process_threads.specs.declared.Thread.{Thread}
use Rattle.process_threads.specs.Threads.{thread_with, left_at}
use Rattle.task_tree.specs.declared.Task.{Task}
use Rattle.task_tree.specs.Tree.{task_at}
use Rattle.task_table.specs.Store.{Store, IsThreaded}
use Rattle.task_table.specs.Collect.{collect}
use Rattle.task_table.specs.View.{name_at, key_numbered}
use Rattle.task_table.specs.Lawful.{IsLawful}
use Rattle.task_table.proofs.Changed.{KeepsNames}
use Rattle.task_table.proofs.Changes.{in_range}
use Rattle.task_table.proofs.Collects.{collect-filter}
use Rattle.task_table.proofs.Keys.{key-of, key-some, key-none}
use Rattle.task_table.proofs.LookUps.{live-there, named}
use Rattle.task_table.proofs.ThreadChanges.{live_some}
use Rattle.thread_view.specs.Full.{thread_row_of, thread_row_with, thread_row_numbered, mark_with, mark_numbered, full_state}
use Rattle.thread_view.specs.Calling.{HasProcesses}
use Rattle.thread_view.proofs.Threads.{marked-named, process-there, thread-named}
use Rattle.thread_ends.specs.Ending.{EndsProcesses, KeepsHomes, unless_ends}
use Rattle.thread_ends.proofs.Endings.{ends-none}
use Rattle.thread_ends.proofs.OtherLeft.{numbered_there}

-- who is left has the number in the root namespace that it had
abbrev pub KeepsRoots : Store → Store → Type 0
KeepsRoots s s' = (j : ℕ) (v : Identifier) → identifier_at s'.numbering j ≡ Some v → number_of s'.numbering j 0 ≡ number_of s.numbering j 0

-- the home of what is charged is there
charged : (v : Charges) (c : ℕ) → 0 < live_at v c → (h : Home) × (home_at v c ≡ Some h)
charged v c some = go (home_at v c) refl
  where
    go : (o : Option Home) → home_at v c ≡ o → (h : Home) × (home_at v c ≡ Some h)
    go None e = absurd (let z : live_at v c ≡ 0 = ap (λ o. option_map_or (λ h. h.live) o 0) e in omega (arith, some, z))
    go (Some h) e = (h, e)

-- a home that is left has the id that it had
pub same-id : (u v : Charges) → KeepsHomes u v → (c : ℕ) (h : Home) → home_at v c ≡ Some h → home_id v c ≡ home_id u c
same-id u v homes c h e =
    let g = homes.ids c h e in
    ap (λ (o : Option Home). option_map_or (λ h. h.id) o 0) e ∙ sym g.2 ∙ sym (ap (λ (o : Option Home). option_map_or (λ h. h.id) o 0) g.1)

-- by the names of processes it is known who ends, and by its row of which one a thread is
module _ (s s' : Store) (l : IsLawful s) (l' : IsLawful s') (w : IsThreaded s.numbering s.threads) (w' : IsThreaded s'.numbering s'.threads) (p : HasProcesses s) (p' : HasProcesses s')
    (bound : s'.numbering.pid_max ≡ s.numbering.pid_max) (names : KeepsNames s.numbering s'.numbering) (roots : KeepsRoots s s') (homes : KeepsHomes s.charges s'.charges)
    (ends : ℕ → Bool) (e : EndsProcesses ends s.threads s'.threads) (goes : Name → Bool) (its : ThreadRow → Bool)
    (agree : (k : ℕ) (v : Task) → task_at s.tree k ≡ Some v → goes (name_at s.numbering k) ≡ ends k)
    (of : (k : ℕ) (t : Thread) → thread_with s.threads k ≡ Some t → its (thread_row_of s k t) ≡ goes (name_at s.numbering t.process)) where
  -- a number that is in use leads to the key to which it led
  led : (i j : ℕ) → key_numbered s'.numbering 0 i ≡ Some j → (key_numbered s.numbering 0 i ≡ Some j) × ((v : Identifier) × (identifier_at s'.numbering j ≡ Some v))
  led i j new =
      let at = key-some s'.numbering l'.numbering 0 i j new in
      let u = numbered_there s'.numbering j 0 i at in
      (key-of s.numbering l.numbering 0 i j (sym (roots j u.0 u.1) ∙ at), u)

  -- who had a number that is free has no identifier
  lost : (i j : ℕ) → key_numbered s'.numbering 0 i ≡ None → key_numbered s.numbering 0 i ≡ Some j → (v : Identifier) → identifier_at s'.numbering j ≡ Some v → ⊥
  lost i j new old v there = key-none s'.numbering l'.numbering 0 i new j (roots j v there ∙ key-some s.numbering l.numbering 0 i j old)

  its_ends : (k : ℕ) (t : Thread) → thread_with s.threads k ≡ Some t → its (thread_row_of s k t) ≡ ends t.process
  its_ends k t at = let v = process-there s l p k t at in of k t at ∙ agree t.process v.0 v.1

  -- a thread that is left has the row that it had
  row_kept : (k : ℕ) (t : Thread) → thread_with s'.threads k ≡ Some t → thread_row_of s' k t ≡ thread_row_of s k t
  row_kept k t at =
      let u = thread-named s' l' w' k t at in
      let owner = process-there s' l' p' k t at in
      let a = named s' l' t.process owner.0 owner.1 in
      let h = charged s'.charges t.home (live_some s' l'.agree k t at (in_range s'.threads.threads k (ap is_some at))) in
      let name = names k u.0 u.1 in
      let process = names t.process a.0 a.1 in
      let id = same-id s.charges s'.charges homes t.home h.0 h.1 in
      λ i. record { name = name i; process = process i; home = id i; children_space = t.children_space }

  -- the rows of threads
  abbrev remains : ThreadRow → Bool
  remains x = not (its x)

  filtered : (k : ℕ) (t : Thread) → thread_with s.threads k ≡ Some t → (b : Bool) → ends t.process ≡ b
      → option_filter remains (Some (thread_row_of s k t)) ≡ (if not b then Some (thread_row_of s k t) else None)
  filtered k t at b is = ap (λ b. if not b then Some (thread_row_of s k t) else None) (its_ends k t at ∙ is)

  left_over : (k : ℕ) (t : Thread) → thread_with s.threads k ≡ Some t → (b : Bool) → ends t.process ≡ b → thread_with s'.threads k ≡ (if b then None else Some t)
  left_over k t at b is = e.threads k ∙ ap (unless_ends ends) at ∙ ap (λ b. if b then None else Some t) is

  thread_kept : (k : ℕ) (o : Option Thread) → thread_with s.threads k ≡ o → thread_row_with s' k ≡ option_filter remains (thread_row_with s k)
  thread_kept k None at = ap (option_map (thread_row_of s' k)) (e.threads k ∙ ap (unless_ends ends) at) ∙ sym (ap (λ o. option_filter remains (option_map (thread_row_of s k) o)) at)
  thread_kept k (Some t) at = go (ends t.process) refl ∙ sym (ap (λ o. option_filter remains (option_map (thread_row_of s k) o)) at)
    where
      go : (b : Bool) → ends t.process ≡ b → thread_row_with s' k ≡ option_filter remains (Some (thread_row_of s k t))
      go true is = ap (option_map (thread_row_of s' k)) (left_over k t at true is) ∙ sym (filtered k t at true is)
      go false is = ap (option_map (thread_row_of s' k)) (left_over k t at false is) ∙ ap Some (row_kept k t (left_over k t at false is)) ∙ sym (filtered k t at false is)

  thread_gone : (i k : ℕ) → key_numbered s'.numbering 0 i ≡ None → key_numbered s.numbering 0 i ≡ Some k → (o : Option Thread) → thread_with s.threads k ≡ o
      → None ≡ option_filter remains (option_map (thread_row_of s k) o)
  thread_gone i k new old None at = refl
  thread_gone i k new old (Some t) at = go (ends t.process) refl
    where
      go : (b : Bool) → ends t.process ≡ b → None ≡ option_filter remains (Some (thread_row_of s k t))
      go true is = sym (filtered k t at true is)
      go false is = absurd (let u = thread-named s' l' w' k t (left_over k t at false is) in lost i k new old u.0 u.1)

  -- those that are left are those of processes that have not ended
  pub threads-left : (full_state s').threads ≡ filter remains (full_state s).threads
  threads-left =
      ap (collect (thread_row_numbered s') 0) bound
      ∙ collect-filter (thread_row_numbered s) (thread_row_numbered s') remains 0 s.numbering.pid_max (λ i. each i (key_numbered s'.numbering 0 i) refl)
    where
      old : (i : ℕ) → key_numbered s'.numbering 0 i ≡ None → (o : Option ℕ) → key_numbered s.numbering 0 i ≡ o → None ≡ option_filter remains (option_and_then (thread_row_with s) o)
      old i new None at = refl
      old i new (Some k) at = thread_gone i k new at (thread_with s.threads k) refl

      each : (i : ℕ) (o : Option ℕ) → key_numbered s'.numbering 0 i ≡ o → thread_row_numbered s' i ≡ option_filter remains (thread_row_numbered s i)
      each i (Some k) new = ap (option_and_then (thread_row_with s')) new ∙ thread_kept k (thread_with s.threads k) refl ∙ sym (ap (λ o. option_filter remains (option_and_then (thread_row_with s) o)) (led i k new).0)
      each i None new = ap (option_and_then (thread_row_with s')) new ∙ old i new (key_numbered s.numbering 0 i) refl

  -- the marks
  abbrev stays : Name → Bool
  stays name = not (goes name)

  marked : (k : ℕ) → left_at s.threads k ≡ true → (b : Bool) → ends k ≡ b → option_filter stays (Some (name_at s.numbering k)) ≡ (if not b then Some (name_at s.numbering k) else None)
  marked k left b is =
      let v = live-there (task_at s.tree k) (l.agree.marks k left) in
      ap (λ b. if not b then Some (name_at s.numbering k) else None) (agree k v.0 v.1 ∙ is)

  mark_kept : (k : ℕ) (v : Identifier) → identifier_at s'.numbering k ≡ Some v → (b : Bool) → left_at s.threads k ≡ b → mark_with s' k ≡ option_filter stays (mark_with s k)
  mark_kept k v there false left =
      ap (λ b. if b then Some (name_at s'.numbering k) else None) (e.left k ∙ ap (λ b. b && not (ends k)) left)
      ∙ sym (ap (λ b. option_filter stays (if b then Some (name_at s.numbering k) else None)) left)
  mark_kept k v there true left =
      ap (λ b. if b then Some (name_at s'.numbering k) else None) (e.left k ∙ ap (λ b. b && not (ends k)) left)
      ∙ ap (λ name. if not (ends k) then Some name else None) (names k v there)
      ∙ sym (marked k left (ends k) refl)
      ∙ sym (ap (λ b. option_filter stays (if b then Some (name_at s.numbering k) else None)) left)

  mark_gone : (i k : ℕ) → key_numbered s'.numbering 0 i ≡ None → key_numbered s.numbering 0 i ≡ Some k → (b : Bool) → left_at s.threads k ≡ b
      → None ≡ option_filter stays (if b then Some (name_at s.numbering k) else None)
  mark_gone i k new old false left = refl
  mark_gone i k new old true left = go (ends k) refl
    where
      go : (b : Bool) → ends k ≡ b → None ≡ option_filter stays (Some (name_at s.numbering k))
      go true is = sym (marked k left true is)
      go false is = absurd (let u = marked-named s' l' k (e.left k ∙ (λ i. left i && not (is i))) in lost i k new old u.0 u.1)

  pub marks-left : (full_state s').left ≡ filter stays (full_state s).left
  marks-left =
      ap (collect (mark_numbered s') 0) bound
      ∙ collect-filter (mark_numbered s) (mark_numbered s') stays 0 s.numbering.pid_max (λ i. each i (key_numbered s'.numbering 0 i) refl)
    where
      old : (i : ℕ) → key_numbered s'.numbering 0 i ≡ None → (o : Option ℕ) → key_numbered s.numbering 0 i ≡ o → None ≡ option_filter stays (option_and_then (mark_with s) o)
      old i new None at = refl
      old i new (Some k) at = mark_gone i k new at (left_at s.threads k) refl

      each : (i : ℕ) (o : Option ℕ) → key_numbered s'.numbering 0 i ≡ o → mark_numbered s' i ≡ option_filter stays (mark_numbered s i)
      each i (Some k) new =
          let f = led i k new in
          ap (option_and_then (mark_with s')) new ∙ mark_kept k f.1.0 f.1.1 (left_at s.threads k) refl ∙ sym (ap (λ o. option_filter stays (option_and_then (mark_with s) o)) f.0)
      each i None new = ap (option_and_then (mark_with s')) new ∙ old i new (key_numbered s.numbering 0 i) refl

-- a list from which nothing is taken
filter-nothing : {X : Type 0} (xs : List X) → filter (λ x. true) xs ≡ xs
filter-nothing [] = refl
filter-nothing (x ∷ xs) = ap (λ ys. x ∷ ys) (filter-nothing xs)

-- where no process has ended the threads and the marks are the same
module _ (s s' : Store) (l : IsLawful s) (l' : IsLawful s') (w : IsThreaded s.numbering s.threads) (w' : IsThreaded s'.numbering s'.threads) (p : HasProcesses s) (p' : HasProcesses s')
    (bound : s'.numbering.pid_max ≡ s.numbering.pid_max) (names : KeepsNames s.numbering s'.numbering) (roots : KeepsRoots s s') (homes : KeepsHomes s.charges s'.charges)
    (same : s'.threads ≡ s.threads) where
  nobody : EndsProcesses (λ k. false) s.threads s'.threads
  nobody = subst (EndsProcesses (λ k. false) s.threads) (sym same) (ends-none s.threads (λ k. false) (λ k. refl))

  pub threads-same : (full_state s').threads ≡ (full_state s).threads
  threads-same =
      threads-left s s' l l' w w' p p' bound names roots homes (λ k. false) nobody (λ name. false) (λ t. false) (λ k v at. refl) (λ k t at. refl)
      ∙ filter-nothing (full_state s).threads

  pub marks-same : (full_state s').left ≡ (full_state s).left
  marks-same =
      marks-left s s' l l' w w' p p' bound names roots homes (λ k. false) nobody (λ name. false) (λ t. false) (λ k v at. refl) (λ k t at. refl)
      ∙ filter-nothing (full_state s).left
