-- How many threads of a process run.
use Rattle.std.proofs.Common.{cond, nat_lt, not, zero, suc, ◌≡◌, ◌≢◌, inl, inr, ℕ, ◌+◌, ◌<◌, ◌≤◌, ◌==◌, Bool, true, false, List, [], ◌∷◌, length, map, filter, Some, if◌then◌else◌, refl, sym, ap, ◌∙◌, arith, option_map, Option, None}
use Rattle.std.specs.Option.{option_map_or}
use Rattle.std.specs.Prelude.{slice_index_or}
use Rattle.std.proofs.lemmas.Bool.{cases_eq, eq-eqb}
use Rattle.std.proofs.lemmas.List.Sums.{sum_by-cons}
use Rattle.member_lists.specs.Owners.{AreMembers, owner_of, times}
use Rattle.pid_types.proofs.General.{apart}
use Rattle.pid_types.specs.declared.plain.Row.{Row}
use Rattle.pid_types.specs.declared.plain.Thread.{Thread as ThreadRow}
use Rattle.pid_types.specs.Membership.{IsIn}
use Rattle.pid_types.specs.Names.{root_number}
use Rattle.pid_types.specs.Sound.{IsRising}
use Rattle.pid_types.specs.Threads.{is_thread_of, running}
use Rattle.model_laws.proofs.Lists.{IsIn-filter, IsIn-from_filter, length-IsIn, no_element}
use Rattle.model_laws.proofs.Rising.{IsRising-filter}
use Rattle.model_laws.proofs.Callers.{is_thread_of-true, is_thread_of-from}
use Rattle.process_threads.specs.declared.Thread.{Thread}
use Rattle.process_threads.specs.Threads.{thread_with, thread_process, processes_of, left_at}
use Rattle.task_tree.specs.declared.Task.{Task}
use Rattle.task_tree.specs.Tree.{task_at}
use Rattle.task_table.specs.Store.{Store, IsThreaded}
use Rattle.task_table.specs.View.{name_at, row_of}
use Rattle.task_table.specs.Lawful.{IsLawful}
use Rattle.task_table.proofs.LookUps.{named, root-number}
use Rattle.thread_view.specs.Full.{thread_row_of, full_state}
use Rattle.thread_view.specs.Calling.{HasProcesses}
use Rattle.thread_view.proofs.Threads.{same-key, in-threads, threads-in, thread-named, process-there}
use Rattle.thread_view.proofs.Callers.{left-is, thread-with}

-- two elements that differ are two
two_long : {X : Type 0} (xs : List X) (x y : X) → IsIn x xs → IsIn y xs → (x ≡ y → ⊥) → 1 < length xs
two_long [] x y i j differ = absurd i
two_long (z ∷ []) x y (inl a) (inl b) differ = absurd (differ (a ∙ sym b))
two_long (z ∷ []) x y (inl a) (inr j) differ = absurd j
two_long (z ∷ []) x y (inr i) j differ = absurd i
two_long (z ∷ w ∷ ws) x y i j differ = omega arith

-- where all are one there is at most one, if the list rises
one_short : {X : Type 0} (key : X → ℕ) (xs : List X) → IsRising (map key xs) → (x : X) → ((y : X) → IsIn y xs → y ≡ x) → length xs ≤ 1
one_short key [] rise x only = omega arith
one_short key (a ∷ []) rise x only = omega arith
one_short key (a ∷ b ∷ xs) rise x only =
    absurd (let less = rise.0 (key b) (inl refl) in let same = ap key (only a (inl refl) ∙ sym (only b (inr (inl refl)))) in omega (arith, less, same))

-- two are more than one
more : (m : ℕ) → nat_lt 1 (suc (suc m)) ≡ true
more m = grind arith

-- a list of one has nobody else
once_one : (j a : ℕ) → times j (a ∷ []) ≡ 1 → j ≡ a
once_one j a e = elim (cases_eq a j) [
  | inl same ↦ sym same
  | inr differs ↦
      let one = sum_by-cons (λ x. cond {A = ℕ} (x == j) 1 0) a [] in
      let no : ◌≡◌ {A = ℕ} (cond (a == j) 1 0) 0 = ap (λ b. cond {A = ℕ} b 1 0) (apart a j differs) in
      absurd (omega (arith, one, no, e))
]

-- and in a list that has it once it does not come again
twice : (a b : ℕ) (keys : List ℕ) → a ≡ b → times a (a ∷ b ∷ keys) ≡ 1 → ⊥
twice a b keys same e =
    let one = sum_by-cons (λ j. cond {A = ℕ} (j == a) 1 0) a (b ∷ keys) in
    let two = sum_by-cons (λ j. cond {A = ℕ} (j == a) 1 0) b keys in
    let x : ◌≡◌ {A = ℕ} (cond (a == a) 1 0) 1 = ap (λ c. cond {A = ℕ} c 1 0) (eq-eqb a a refl) in
    let y : ◌≡◌ {A = ℕ} (cond (b == a) 1 0) 1 = ap (λ c. cond {A = ℕ} c 1 0) (eq-eqb b a (sym same)) in
    omega (arith, e, one, two, x, y)

module _ (s : Store) (l : IsLawful s) (w : IsThreaded s.numbering s.threads) (p : HasProcesses s) (process : ℕ) (task : Task) (at : task_at s.tree process ≡ Some task) where
  abbrev row : Row
  row = row_of s process task

  abbrev its : ThreadRow → Bool
  its t = is_thread_of row.name t

  -- an owner among the processes of threads
  owner : (k : ℕ) → owner_of (processes_of s.threads) k ≡ thread_process s.threads k
  owner = from s.threads.threads
    where
      from : (xs : List (Option Thread)) (k : ℕ) → slice_index_or (map (option_map (λ (t : Thread). t.process)) xs) k None ≡ option_map (λ (t : Thread). t.process) (slice_index_or xs k None)
      from [] k = refl
      from (x ∷ xs) zero = refl
      from (x ∷ xs) (suc k) = from xs k

  -- its threads by key
  of_process : (k : ℕ) (t : Thread) → t.process ≡ process → its (thread_row_of s k t) ≡ true
  of_process k t own = is_thread_of-from row.name (thread_row_of s k t) (ap (name_at s.numbering) own)

  its_process : (k : ℕ) (t : Thread) → thread_with s.threads k ≡ Some t → its (thread_row_of s k t) ≡ true → t.process ≡ process
  its_process k t e is =
      let owner = process-there s l p k t e in
      let a = named s l t.process owner.0 owner.1 in
      let b = named s l process task at in
      same-key s l t.process process a.0 b.0 a.1 b.1 (is_thread_of-true row.name (thread_row_of s k t) is)

  abbrev beside : ℕ
  beside = length (filter its (full_state s).threads)

  -- how many run
  running-is : running (full_state s) row ≡ beside + (if left_at s.threads process then 0 else 1)
  running-is =
      let u = named s l process task at in
      ap (λ b. beside + (if b then 0 else 1)) (left-is s l w p (root_number row.name) process (root-number s l process u.0 u.1))

  -- one of them is in the list
  listed : (k : ℕ) → thread_process s.threads k ≡ Some process → (t : Thread) × (thread_with s.threads k ≡ Some t) × IsIn (thread_row_of s k t) (filter its (full_state s).threads)
  listed k e =
      let t = thread-with (thread_with s.threads k) process e in
      (t.0, t.1, IsIn-filter its (thread_row_of s k t.0) (full_state s).threads (threads-in s l w k t.0 t.1) (of_process k t.0 t.2))

  -- and whoever is in the list is one of them
  of_list : (x : ThreadRow) → IsIn x (filter its (full_state s).threads) → (k : ℕ) × (t : Thread) × (thread_process s.threads k ≡ Some process) × (thread_with s.threads k ≡ Some t) × (x ≡ thread_row_of s k t)
  of_list x i =
      let f = IsIn-from_filter its x (full_state s).threads i in
      let k = in-threads s l w x f.0 in
      let own = its_process k.0 k.1 k.2 (ap its (sym k.3) ∙ f.1) in
      (k.0, k.1, ap (option_map (λ (t : Thread). t.process)) k.2 ∙ ap Some own, k.2, k.3)

  -- the first one alone runs
  pub first-alone : left_at s.threads process ≡ false → ((k : ℕ) → thread_process s.threads k ≢ Some process) → (running (full_state s) row == 1) ≡ true
  first-alone stays none =
      let empty : beside ≡ 0 = ap length (no_element (filter its (full_state s).threads) (λ x i. let f = of_list x i in none f.0 f.2)) in
      let first : ◌≡◌ {A = ℕ} (if left_at s.threads process then 0 else 1) 1 = ap {B = ℕ} (λ b. if b then 0 else 1) stays in
      let is = running-is in
      eq-eqb (running (full_state s) row) 1 (omega (arith, empty, first, is))

  -- the first one runs, and another
  pub first-beside : left_at s.threads process ≡ false → (k : ℕ) → thread_process s.threads k ≡ Some process → (running (full_state s) row == 1) ≡ false
  first-beside stays k e =
      let t = listed k e in
      let some = length-IsIn (thread_row_of s k t.0) (filter its (full_state s).threads) t.2 in
      let first : ◌≡◌ {A = ℕ} (if left_at s.threads process then 0 else 1) 1 = ap {B = ℕ} (λ b. if b then 0 else 1) stays in
      let is = running-is in
      apart (running (full_state s) row) 1 (λ one. omega (arith, some, first, is, one))

  -- the first one has left, and two others run
  pub others-beside : (j k : ℕ) → j ≢ k → thread_process s.threads j ≡ Some process → thread_process s.threads k ≡ Some process → (running (full_state s) row == 1) ≡ false
  others-beside j k differ e f =
      let t = listed j e in
      let v = listed k f in
      let a = thread-named s l w j t.0 t.1 in
      let b = thread-named s l w k v.0 v.1 in
      let long = two_long (filter its (full_state s).threads) (thread_row_of s j t.0) (thread_row_of s k v.0) t.2 v.2 (λ same. differ (same-key s l j k a.0 b.0 a.1 b.1 (ap (λ (x : ThreadRow). x.name) same))) in
      let is = running-is in
      apart (running (full_state s) row) 1 (λ one. omega (arith, long, is, one))

  -- the first one has left, and one other runs
  pub other-alone : left_at s.threads process ≡ true → IsRising (map (λ (t : ThreadRow). root_number t.name) (full_state s).threads) → (k : ℕ) → thread_process s.threads k ≡ Some process
      → ((j : ℕ) → thread_process s.threads j ≡ Some process → j ≡ k) → (running (full_state s) row == 1) ≡ true
  other-alone left rise k e only =
      let t = listed k e in
      let some = length-IsIn (thread_row_of s k t.0) (filter its (full_state s).threads) t.2 in
      let short = one_short (λ (x : ThreadRow). root_number x.name) (filter its (full_state s).threads) (IsRising-filter (λ (x : ThreadRow). root_number x.name) its (full_state s).threads rise) (thread_row_of s k t.0)
      (λ y i.
      let f = of_list y i in
      let same = only f.0 f.2 in
      let z : Some f.1 ≡ Some t.0 = sym f.3 ∙ ap (thread_with s.threads) same ∙ t.1 in
      f.4 ∙ ap (λ j. thread_row_of s j f.1) same ∙ ap (λ o. option_map_or (thread_row_of s k) o y) z) in
      let first : ◌≡◌ {A = ℕ} (if left_at s.threads process then 0 else 1) 0 = ap {B = ℕ} (λ b. if b then 0 else 1) left in
      let is = running-is in
      eq-eqb (running (full_state s) row) 1 (omega (arith, some, short, first, is))

  -- the first one has left, and another calls: whether there is one more is told by the list of them
  pub told-by : left_at s.threads process ≡ true → IsRising (map (λ (t : ThreadRow). root_number t.name) (full_state s).threads) → (k : ℕ) → thread_process s.threads k ≡ Some process
      → (keys : List ℕ) → AreMembers (processes_of s.threads) process keys → (r : Bool) → r ≡ nat_lt 1 (length keys) → (running (full_state s) row == 1) ≡ not r
  told-by left rise k e [] m r is = absurd (let z : ◌≡◌ {A = ℕ} 0 1 = m.once k (owner k ∙ e) in omega (arith, z))
  told-by left rise k e (a ∷ []) m r is =
      let is_a : (j : ℕ) → thread_process s.threads j ≡ Some process → j ≡ a = (λ j f. once_one j a (m.once j (owner j ∙ f))) in
      other-alone left rise k e (λ j f. is_a j f ∙ sym (is_a k e)) ∙ sym (ap not is)
  told-by left rise k e (a ∷ b ∷ keys) m r is =
      others-beside a b (λ same. twice a b keys same (m.once a m.owned.0)) (sym (owner a) ∙ m.owned.0) (sym (owner b) ∙ m.owned.1.0) ∙ sym (ap not (is ∙ more (length keys)))
