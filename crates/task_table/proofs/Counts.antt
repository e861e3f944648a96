-- The counts of a store's control groups are the model's.
use Rattle.std.proofs.Common.{◌≡◌, ◌≢◌, inl, inr, ℕ, zero, suc, ◌+◌, ◌<◌, Bool, true, false, not, ◌==◌, ◌&&◌, List, ◌∷◌, length, filter, count_by, cond, get_or, Option, Some, None, if◌then◌else◌, refl, sym, ap, ◌∙◌, arith, option_map, option_and_then}
use Rattle.std.specs.Option.{option_map_or, option_eq}
use Rattle.std.proofs.lemmas.Bool.{cases_eq, cases_lt, eq-eqb}
use Rattle.std.proofs.lemmas.List.{get_or_past}
use Rattle.std.proofs.lemmas.List.Sums.{sum_by-cons, length-filter}
use Rattle.pid_types.proofs.General.{some_number}
use Rattle.pid_types.specs.declared.plain.Row.{Row}
use Rattle.pid_types.specs.Controls.{is_below, count as count_in}
use Rattle.pid_numbers.specs.Numbering.{Identifier, identifier_at, number_of}
use Rattle.task_tree.specs.declared.Task.{Task}
use Rattle.task_tree.specs.Tree.{task_at, lives}
use Rattle.pids_charge.specs.Sums.{sum_below}
use Rattle.pids_charge.specs.Charges.{home_at, live_at, zombies_at, tasks_of, charged_count, home_id}
use Rattle.pids_charge.proofs.Sums.{sum-ext, sum-at, sum-zero, sum_by-places}
use Rattle.pids_charge.proofs.Listed.{count-listed, tasks_of-both}
use Rattle.task_table.specs.Store.{Store, HasNoThreads, lives_in, waits_in, is_homed}
use Rattle.task_table.specs.Collect.{collect}
use Rattle.task_table.specs.View.{key_numbered, row_of, row_with, row_numbered, state_of}
use Rattle.task_table.specs.Lawful.{IsLawful}
use Rattle.task_table.proofs.Keys.{key-some, key-none}
use Rattle.task_table.proofs.LookUps.{named, root-number}
use Rattle.task_table.proofs.Marks.{none as none_left}
use Rattle.task_table.proofs.Threaded.{nobody}

sum-plus : (n : ℕ) (f g : ℕ → ℕ) → sum_below n (λ k. f k + g k) ≡ sum_below n f + sum_below n g
sum-plus zero f g = refl
sum-plus (suc n) f g = omega (arith, sum-plus n (λ k. f (suc k)) (λ k. g (suc k)))

-- a table's sum by rows is its sum by columns
sum-exchange : (m n : ℕ) (a : ℕ → ℕ → ℕ) → sum_below m (λ i. sum_below n (a i)) ≡ sum_below n (λ j. sum_below m (λ i. a i j))
sum-exchange zero n a = sym (sum-zero n (λ j. 0) (λ j. refl))
sum-exchange (suc m) n a = omega (arith, sum-exchange m n (λ i. a (suc i)), sum-plus n (a 0) (λ j. sum_below m (λ i. a (suc i) j)))

-- one place alone counts
sum-one : (n a : ℕ) (f : ℕ → ℕ) → a < n → ((k : ℕ) → k ≢ a → f k ≡ 0) → sum_below n f ≡ f a
sum-one n a f lt none =
    let one = sum-at n a f (λ k. 0) lt none in
    let rest = sum-zero n (λ k. 0) (λ k. refl) in
    omega (arith, one, rest)

-- what is counted of a list told by look-ups
count-collect : {X : Type 0} (p : X → Bool) (f : ℕ → Option X) (n len : ℕ) → count_by p (collect f n len) ≡ sum_below len (λ i. option_map_or (λ x. cond {A = ℕ} (p x) 1 0) (f (n + i)) 0)
count-collect p f n zero = refl
count-collect {X = X} p f n (suc len) =
    here (f n) (collect f (n + 1) len) ∙ ap (λ r. option_map_or (λ x. cond {A = ℕ} (p x) 1 0) (f n) 0 + r) (count-collect p f (n + 1) len)
    ∙ (let e : f (n + 0) ≡ f n = ap f (omega arith) in let z = ap (λ o. option_map_or (λ x. cond {A = ℕ} (p x) 1 0) o 0) e in
    let r = sum-ext len (λ i. option_map_or (λ x. cond {A = ℕ} (p x) 1 0) (f (n + 1 + i)) 0) (λ i. option_map_or (λ x. cond {A = ℕ} (p x) 1 0) (f (n + suc i)) 0) (λ i. ap (λ j. option_map_or (λ x. cond {A = ℕ} (p x) 1 0) (f j) 0) (omega arith)) in
    omega (arith, z, r))
  where
    here : (o : Option X) (xs : List X) → count_by p (option_map_or (λ x. x ∷ xs) o xs) ≡ option_map_or (λ x. cond {A = ℕ} (p x) 1 0) o 0 + count_by p xs
    here None xs = omega arith
    here (Some x) xs = sum_by-cons (λ y. cond {A = ℕ} (p y) 1 0) x xs

pub count-all : {X : Type 0} (p : X → Bool) (f : ℕ → Option X) (len : ℕ) → count_by p (collect f 0 len) ≡ sum_below len (λ i. option_map_or (λ x. cond {A = ℕ} (p x) 1 0) (f i) 0)
count-all p f len =
    count-collect p f 0 len
    ∙ sum-ext len (λ i. option_map_or (λ x. cond {A = ℕ} (p x) 1 0) (f (0 + i)) 0) (λ i. option_map_or (λ x. cond {A = ℕ} (p x) 1 0) (f i) 0) (λ i. ap (λ j. option_map_or (λ x. cond {A = ℕ} (p x) 1 0) (f j) 0) (omega arith))

same_number : (m n : ℕ) → ◌≡◌ {A = Option ℕ} (Some m) (Some n) → m ≡ n
same_number m n e = ap (λ o. option_map_or (λ x. x) o m) e

module _ (s : Store) (l : IsLawful s) where
  -- cells by key, each of which has an identifier where it has something
  module _ {X : Type 0} (cells : List (Option X)) (named_by : (k : ℕ) (x : X) → get_or cells k None ≡ Some x → (u : Identifier) × (identifier_at s.numbering k ≡ Some u)) where
    -- what is there with a number in the root namespace
    abbrev pub cell_numbered : ℕ → Option X
    cell_numbered n = option_and_then (λ k. get_or cells k None) (key_numbered s.numbering 0 n)

    module _ (w : Option X → ℕ) (nothing : w None ≡ 0) where
      abbrev at_both : ℕ → ℕ → ℕ
      at_both n k = if option_eq ◌==◌ (number_of s.numbering k 0) (Some n) then w (get_or cells k None) else 0

      is_both : (n k : ℕ) → number_of s.numbering k 0 ≡ Some n → at_both n k ≡ w (get_or cells k None)
      is_both n k e = ap (λ b. if b then w (get_or cells k None) else 0) (ap (λ o. option_eq ◌==◌ o (Some n)) e ∙ eq-eqb n n refl)

      not_both : (n k : ℕ) → number_of s.numbering k 0 ≢ Some n → at_both n k ≡ 0
      not_both n k d = go (option_eq ◌==◌ (number_of s.numbering k 0) (Some n)) refl
        where
          go : (b : Bool) → option_eq ◌==◌ (number_of s.numbering k 0) (Some n) ≡ b → (if b then w (get_or cells k None) else 0) ≡ 0
          go true e = absurd (d (some_number (number_of s.numbering k 0) n e))
          go false e = refl

      by_keys : (n : ℕ) → sum_below (length cells) (at_both n) ≡ w (cell_numbered n)
      by_keys n = go (key_numbered s.numbering 0 n) refl
        where
          go : (o : Option ℕ) → key_numbered s.numbering 0 n ≡ o → sum_below (length cells) (at_both n) ≡ w (option_and_then (λ k. get_or cells k None) o)
          go None e = sum-zero (length cells) (at_both n) (λ k. not_both n k (key-none s.numbering l.numbering 0 n e k)) ∙ sym nothing
          go (Some k) e =
              let at = key-some s.numbering l.numbering 0 n k e in
              elim (cases_lt k (length cells)) [
                | inl lt ↦ sum-one (length cells) k (at_both n) lt (λ j d. not_both n j (λ f. d (l.numbering.distinct j k 0 n f at))) ∙ is_both n k at
                | inr past ↦
                    let vacant = get_or_past cells k None past in
                    sum-zero (length cells) (at_both n) (λ j. elim (cases_eq j k) [
                      | inl same ↦ ap (at_both n) same ∙ is_both n k at ∙ ap w vacant ∙ nothing
                      | inr d ↦ not_both n j (λ f. d (l.numbering.distinct j k 0 n f at))
                    ]) ∙ sym (ap w vacant ∙ nothing)
              ]

      by_numbers : (k : ℕ) → sum_below s.numbering.pid_max (λ n. at_both n k) ≡ w (get_or cells k None)
      by_numbers k = go (get_or cells k None) refl
        where
          go : (o : Option X) → get_or cells k None ≡ o → sum_below s.numbering.pid_max (λ n. at_both n k) ≡ w (get_or cells k None)
          go None e = sum-zero s.numbering.pid_max (λ n. at_both n k) (λ n. none n (option_eq ◌==◌ (number_of s.numbering k 0) (Some n))) ∙ sym (ap w e ∙ nothing)
            where
              none : (n : ℕ) (b : Bool) → (if b then w (get_or cells k None) else 0) ≡ 0
              none n true = ap w e ∙ nothing
              none n false = refl
          go (Some x) e =
              let u = named_by k x e in
              let at = root-number s l k u.0 u.1 in
              let r = l.numbering.range k 0 _ at in
              sum-one s.numbering.pid_max _ (λ n. at_both n k) r.1 (λ n d. not_both n k (λ f. d (same_number n _ (sym f ∙ at)))) ∙ is_both _ k at

      -- the cells by number are those by key
      pub sum-numbered : sum_below s.numbering.pid_max (λ n. w (cell_numbered n)) ≡ sum_below (length cells) (λ k. w (get_or cells k None))
      sum-numbered =
          sum-ext s.numbering.pid_max (λ n. w (cell_numbered n)) (λ n. sum_below (length cells) (at_both n)) (λ n. sym (by_keys n))
          ∙ sum-exchange s.numbering.pid_max (length cells) at_both
          ∙ sum-ext (length cells) (λ k. sum_below s.numbering.pid_max (λ n. at_both n k)) (λ k. w (get_or cells k None)) by_numbers

    abbrev pub cells_in_rows : List X
    cells_in_rows = collect cell_numbered 0 s.numbering.pid_max

    pub count-keys : (p : X → Bool) (q : Option X → Bool) → q None ≡ false → ((x : X) → q (Some x) ≡ p x) → count_by p cells_in_rows ≡ count_by q cells
    count-keys p q none same =
        count-all p cell_numbered s.numbering.pid_max
        ∙ sum-numbered (λ o. option_map_or (λ x. cond {A = ℕ} (p x) 1 0) o 0) refl
        ∙ sum-ext (length cells) (λ k. option_map_or (λ x. cond {A = ℕ} (p x) 1 0) (get_or cells k None) 0) (λ k. cond {A = ℕ} (q (get_or cells k None)) 1 0) (λ k. each (get_or cells k None))
        ∙ sym (sum_by-places (λ o. cond {A = ℕ} (q o) 1 0) None cells)
      where
        each : (o : Option X) → option_map_or (λ x. cond {A = ℕ} (p x) 1 0) o 0 ≡ cond {A = ℕ} (q o) 1 0
        each None = sym (ap (λ b. cond {A = ℕ} b 1 0) none)
        each (Some x) = sym (ap (λ b. cond {A = ℕ} b 1 0) (same x))

  -- the tasks, by their numbers in the root namespace
  abbrev pub task_numbered : ℕ → Option Task
  task_numbered n = option_and_then (task_at s.tree) (key_numbered s.numbering 0 n)

  abbrev pub tasks_in_rows : List Task
  tasks_in_rows = collect task_numbered 0 s.numbering.pid_max

  pub count-tasks : (p : Task → Bool) (q : Option Task → Bool) → q None ≡ false → ((t : Task) → q (Some t) ≡ p t) → count_by p tasks_in_rows ≡ count_by q s.tree.tasks
  count-tasks = count-keys s.tree.tasks (named s l)

  flip : (a b : Bool) → (a && b) ≡ (b && a)
  flip true true = refl
  flip true false = refl
  flip false true = refl
  flip false false = refl

  twice : (a : Bool) → not (not a) ≡ a
  twice true = refl
  twice false = refl

  -- where no thread is beside a first one the live tasks are those by key
  pub live-alone : HasNoThreads s.threads → (k : ℕ) → live_at s.charges k ≡ count_by (lives_in k) s.tree.tasks
  live-alone alone k = let a = l.agree.live k in let b = nobody s.threads alone (is_homed k) refl in let m = none_left s alone.stays k in omega (arith, a, b, m)

  -- and the zombies
  zombies-alone : HasNoThreads s.threads → (k : ℕ) → zombies_at s.charges k ≡ count_by (waits_in k) s.tree.tasks
  zombies-alone alone k = let a = l.agree.zombies k in let m = none_left s alone.stays k in omega (arith, a, m)

  homes : HasNoThreads s.threads → (k : ℕ) → count_by (λ t. t.home == k) tasks_in_rows ≡ tasks_of (home_at s.charges k)
  homes alone k = tasks_of-both (λ (t : Task). t.home) (λ t. not (lives t)) s.charges k tasks_in_rows
      (count-tasks (λ t. not (not (lives t)) && (t.home == k)) (lives_in k) refl (λ t. flip (t.home == k) (lives t) ∙ ap (λ b. b && (t.home == k)) (sym (twice (lives t)))) ∙ sym (live-alone alone k))
      (count-tasks (λ t. not (lives t) && (t.home == k)) (waits_in k) refl (λ t. flip (t.home == k) (not (lives t))) ∙ sym (zombies-alone alone k))

  -- where no thread is beside a first one a count is the model's
  pub count-is : HasNoThreads s.threads → (id : ℕ) → charged_count s.charges id ≡ count_in (state_of s) id
  unfolding count_in
  count-is alone id =
      count-listed (λ (t : Task). t.home) s.charges tasks_in_rows (homes alone) id
      ∙ length-filter (λ t. is_below s.charges.controls (home_id s.charges t.home) id) tasks_in_rows
      ∙ count-all (λ t. is_below s.charges.controls (home_id s.charges t.home) id) task_numbered s.numbering.pid_max
      ∙ sum-ext s.numbering.pid_max (λ n. option_map_or (λ t. cond {A = ℕ} (is_below s.charges.controls (home_id s.charges t.home) id) 1 0) (task_numbered n) 0)
      (λ n. option_map_or (λ r. cond {A = ℕ} (is_below s.charges.controls r.home id) 1 0) (row_numbered s 0 n) 0) (λ n. each (key_numbered s.numbering 0 n))
      ∙ sym (count-all (λ r. is_below s.charges.controls r.home id) (row_numbered s 0) s.numbering.pid_max)
      ∙ sym (length-filter (λ r. is_below s.charges.controls r.home id) (state_of s).rows)
      ∙ no_threads (length (filter (λ r. is_below s.charges.controls r.home id) (state_of s).rows))
    where
      each : (o : Option ℕ) → option_map_or (λ t. cond {A = ℕ} (is_below s.charges.controls (home_id s.charges t.home) id) 1 0) (option_and_then (task_at s.tree) o) 0
          ≡ option_map_or (λ r. cond {A = ℕ} (is_below s.charges.controls r.home id) 1 0) (option_and_then (row_with s) o) 0
      each None = refl
      each (Some k) = at (task_at s.tree k)
        where
          at : (o : Option Task) → option_map_or (λ t. cond {A = ℕ} (is_below s.charges.controls (home_id s.charges t.home) id) 1 0) o 0
              ≡ option_map_or (λ (r : Row). cond {A = ℕ} (is_below s.charges.controls r.home id) 1 0) (option_map (row_of s k) o) 0
          at None = refl
          at (Some t) = refl

      no_threads : (rows : ℕ) → rows ≡ 0 + rows
      no_threads rows = omega arith
