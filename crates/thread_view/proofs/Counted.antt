-- A control group's count is that of the state with its threads.
use Rattle.std.proofs.Common.{◌≡◌, ℕ, ◌+◌, Bool, true, false, not, ◌==◌, ◌&&◌, List, [], ◌∷◌, ◌++◌, map, count_by, cond, get_or, Option, Some, None, refl, sym, ◌∙◌, arith, option_map, option_and_then}
use Rattle.std.specs.Option.{option_map_or}
use Rattle.std.proofs.lemmas.List.Sums.{sum_by-cons, sum_by-append, length-filter}
use Rattle.pid_types.specs.declared.plain.Row.{Row}
use Rattle.pid_types.specs.declared.plain.Thread.{Thread as ThreadRow}
use Rattle.pid_types.specs.Controls.{is_below, count as count_in}
use Rattle.pid_numbers.specs.Numbering.{Identifier, identifier_at}
use Rattle.process_threads.specs.declared.Thread.{Thread}
use Rattle.process_threads.specs.Threads.{thread_with}
use Rattle.task_tree.specs.declared.Task.{Task}
use Rattle.task_tree.specs.Tree.{task_at, lives}
use Rattle.pids_charge.specs.Charges.{Home, home_at, tasks_of, charged_count, home_id}
use Rattle.pids_charge.proofs.Sums.{sum-ext}
use Rattle.pids_charge.proofs.Listed.{count-listed}
use Rattle.task_table.specs.Store.{Store, IsThreaded, lives_in, waits_in, is_homed}
use Rattle.task_table.specs.Collect.{collect}
use Rattle.task_table.specs.View.{key_numbered, row_of, row_with, row_numbered, state_of}
use Rattle.task_table.specs.Lawful.{IsLawful}
use Rattle.task_table.proofs.Counts.{count-all, count-keys, count-tasks, cells_in_rows, cell_numbered, tasks_in_rows, task_numbered}
use Rattle.thread_view.specs.Full.{thread_row_of, thread_row_with, thread_row_numbered, full_state}
use Rattle.thread_view.proofs.Threads.{thread-named}

-- what is counted of a mapped list
count-map : {X Y : Type 0} (p : Y → Bool) (f : X → Y) (xs : List X) → count_by p (map f xs) ≡ count_by (λ x. p (f x)) xs
count-map p f [] = refl
count-map p f (x ∷ xs) = omega (arith, count-map p f xs, sum_by-cons (λ y. cond {A = ℕ} (p y) 1 0) (f x) (map f xs), sum_by-cons (λ x. cond {A = ℕ} (p (f x)) 1 0) x xs)

-- what passes one test does or does not pass another
count-split : {X : Type 0} (p q r : X → Bool) → ((x : X) → cond {A = ℕ} (p x) 1 0 ≡ cond {A = ℕ} (q x) 1 0 + cond {A = ℕ} (r x) 1 0) → (xs : List X)
    → count_by p xs ≡ count_by q xs + count_by r xs
count-split p q r each [] = refl
count-split p q r each (x ∷ xs) =
    omega (arith, each x, count-split p q r each xs, sum_by-cons (λ y. cond {A = ℕ} (p y) 1 0) x xs, sum_by-cons (λ y. cond {A = ℕ} (q y) 1 0) x xs, sum_by-cons (λ y. cond {A = ℕ} (r y) 1 0) x xs)

-- two lists told by look-ups, of which as much is counted at each number
count-shown : {X Y : Type 0} (p : X → Bool) (q : Y → Bool) (f : ℕ → Option X) (g : ℕ → Option Y) (len : ℕ)
    → ((n : ℕ) → option_map_or (λ x. cond {A = ℕ} (p x) 1 0) (f n) 0 ≡ option_map_or (λ y. cond {A = ℕ} (q y) 1 0) (g n) 0)
    → count_by p (collect f 0 len) ≡ count_by q (collect g 0 len)
count-shown p q f g len same =
    count-all p f len ∙ sum-ext len (λ n. option_map_or (λ x. cond {A = ℕ} (p x) 1 0) (f n) 0) (λ n. option_map_or (λ y. cond {A = ℕ} (q y) 1 0) (g n) 0) same
    ∙ sym (count-all q g len)

module _ (s : Store) (l : IsLawful s) (w : IsThreaded s.numbering s.threads) where
  thread_cell : (k : ℕ) (t : Thread) → get_or s.threads.threads k None ≡ Some t → (u : Identifier) × (identifier_at s.numbering k ≡ Some u)
  thread_cell k t e = let u = thread-named s l w k t e in (u.0, u.1)

  abbrev threads_listed : List Thread
  threads_listed = cells_in_rows s l s.threads.threads thread_cell

  -- the homes of all tasks
  abbrev all_homes : List ℕ
  all_homes = map (λ (t : Task). t.home) (tasks_in_rows s l) ++ map (λ (t : Thread). t.home) threads_listed

  -- how many of them pass
  count-homes : (p : ℕ → Bool) → count_by p all_homes ≡ count_by (λ (t : Task). p t.home) (tasks_in_rows s l) + count_by (λ (t : Thread). p t.home) threads_listed
  count-homes p =
      sum_by-append (λ h. cond {A = ℕ} (p h) 1 0) (map (λ (t : Task). t.home) (tasks_in_rows s l)) (map (λ (t : Thread). t.home) threads_listed)
      ∙ (λ i. count-map p (λ (t : Task). t.home) (tasks_in_rows s l) i + count-map p (λ (t : Thread). t.home) threads_listed i)

  halves : (k : ℕ) (t : Task) → cond {A = ℕ} (t.home == k) 1 0 ≡ cond {A = ℕ} ((t.home == k) && lives t) 1 0 + cond {A = ℕ} ((t.home == k) && not (lives t)) 1 0
  halves k t = go (t.home == k) (lives t)
    where
      go : (a b : Bool) → cond {A = ℕ} a 1 0 ≡ cond {A = ℕ} (a && b) 1 0 + cond {A = ℕ} (a && not b) 1 0
      go true true = refl
      go true false = refl
      go false b = refl

  -- each key has as many as its control group
  homed : (k : ℕ) → count_by (λ h. h == k) all_homes ≡ tasks_of (home_at s.charges k)
  homed k =
      let all = count-homes (λ h. h == k) in
      let tasks = count-split (λ (t : Task). t.home == k) (λ t. (t.home == k) && lives t) (λ t. (t.home == k) && not (lives t)) (halves k) (tasks_in_rows s l) in
      let live = count-tasks s l (λ t. (t.home == k) && lives t) (lives_in k) refl (λ t. refl) in
      let ended = count-tasks s l (λ t. (t.home == k) && not (lives t)) (waits_in k) refl (λ t. refl) in
      let threads = count-keys s l s.threads.threads thread_cell (λ t. t.home == k) (is_homed k) refl (λ t. refl) in
      let a = l.agree.live k in
      let b = l.agree.zombies k in
      omega (arith, all, tasks, live, ended, threads, a, b, here (home_at s.charges k))
    where
      here : (o : Option Home) → tasks_of o ≡ option_map_or (λ h. h.live) o 0 + option_map_or (λ h. h.zombies) o 0
      here o = grind arith

  -- the count of a control group
  pub count-full : (id : ℕ) → charged_count s.charges id ≡ count_in (full_state s) id
  unfolding count_in
  count-full id =
      let below : ℕ → Bool = λ h. is_below s.charges.controls (home_id s.charges h) id in
      let rows = count-shown (λ (t : Task). below t.home) (λ (r : Row). is_below s.charges.controls r.home id) (task_numbered s l) (row_numbered s 0) s.numbering.pid_max (λ n. row n (key_numbered s.numbering 0 n)) in
      let threads = count-shown (λ (t : Thread). below t.home) (λ (t : ThreadRow). is_below s.charges.controls t.home id) (cell_numbered s l s.threads.threads thread_cell) (thread_row_numbered s) s.numbering.pid_max (λ n. thread n (key_numbered s.numbering 0 n)) in
      let all = count-homes below in
      let one = length-filter (λ (r : Row). is_below s.charges.controls r.home id) (state_of s).rows in
      let two = length-filter (λ (t : ThreadRow). is_below s.charges.controls t.home id) (full_state s).threads in
      let listed = count-listed (λ h. h) s.charges all_homes homed id in
      let here = length-filter below all_homes in
      omega (arith, rows, threads, all, one, two, listed, here)
    where
      row : (n : ℕ) (o : Option ℕ) → option_map_or (λ (t : Task). cond {A = ℕ} (is_below s.charges.controls (home_id s.charges t.home) id) 1 0) (option_and_then (task_at s.tree) o) 0
          ≡ option_map_or (λ (r : Row). cond {A = ℕ} (is_below s.charges.controls r.home id) 1 0) (option_and_then (row_with s) o) 0
      row n None = refl
      row n (Some k) = at (task_at s.tree k)
        where
          at : (o : Option Task) → option_map_or (λ t. cond {A = ℕ} (is_below s.charges.controls (home_id s.charges t.home) id) 1 0) o 0
              ≡ option_map_or (λ (r : Row). cond {A = ℕ} (is_below s.charges.controls r.home id) 1 0) (option_map (row_of s k) o) 0
          at None = refl
          at (Some t) = refl

      thread : (n : ℕ) (o : Option ℕ) → option_map_or (λ (t : Thread). cond {A = ℕ} (is_below s.charges.controls (home_id s.charges t.home) id) 1 0) (option_and_then (thread_with s.threads) o) 0
          ≡ option_map_or (λ (t : ThreadRow). cond {A = ℕ} (is_below s.charges.controls t.home id) 1 0) (option_and_then (thread_row_with s) o) 0
      thread n None = refl
      thread n (Some k) = at (thread_with s.threads k)
        where
          at : (o : Option Thread) → option_map_or (λ t. cond {A = ℕ} (is_below s.charges.controls (home_id s.charges t.home) id) 1 0) o 0
              ≡ option_map_or (λ (t : ThreadRow). cond {A = ℕ} (is_below s.charges.controls t.home id) 1 0) (option_map (thread_row_of s k) o) 0
          at None = refl
          at (Some t) = refl
