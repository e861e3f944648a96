-- The climb from task to task by keys, and by root numbers.
use Rattle.std.proofs.Common.{◌≡◌, ℕ, zero, suc, ◌+◌, ◌≤◌, Bool, true, false, List, ◌∷◌, length, map, Option, Some, None, is_some, refl, sym, ap, subst, ◌∙◌, arith, option_map, option_and_then}
use Rattle.std.specs.Option.{option_map_or}
use Rattle.pid_types.proofs.General.{held}
use Rattle.pid_types.specs.Chains.{climb}
use Rattle.pid_types.specs.Membership.{IsIn}
use Rattle.pid_types.specs.Names.{root_number, row_at}
use Rattle.pid_types.specs.Exit.{parent_number}
use Rattle.pids_charge.specs.Sums.{sum_below}
use Rattle.pids_charge.proofs.Sums.{sum-ext, sum_le}
use Rattle.model_laws.proofs.Lists.{IsIn-from_map}
use Rattle.model_laws.proofs.Ancestry.{parent_number-at, top_row}
use Rattle.task_tree.specs.declared.Task.{Task}
use Rattle.task_tree.specs.Tree.{task_at, parent_of}
use Rattle.task_table.specs.Store.{Store, one_if}
use Rattle.task_table.specs.Collect.{collect}
use Rattle.task_table.specs.View.{name_at, key_numbered, row_of, row_with, row_numbered, state_of}
use Rattle.task_table.specs.Lawful.{IsLawful}
use Rattle.thread_view.specs.Calling.{IsWholeWithThreads}
use Rattle.thread_view.specs.Full.{full_state}
use Rattle.task_table.proofs.LookUps.{named, root-number, row_at-key, rows-in}
use Rattle.task_table.proofs.Counts.{sum-numbered}
use Rattle.ns_teardown.proofs.Climbs.{Stops-at_top, climb-enough, climb-all, climb-mapped}

-- how long a list told by look-ups is
length-collect : {X : Type 0} (f : ℕ → Option X) (n len : ℕ) → length (collect f n len) ≡ sum_below len (λ i. one_if (is_some (f (n + i))))
length-collect f n zero = refl
length-collect {X = X} f n (suc len) =
    here (f n) (collect f (n + 1) len) ∙ ap (λ r. one_if (is_some (f n)) + r) (length-collect f (n + 1) len)
    ∙ (let e : f (n + 0) ≡ f n = ap f (omega arith) in let z = ap (λ o. one_if (is_some o)) e in
    let r = sum-ext len (λ i. one_if (is_some (f (n + 1 + i)))) (λ i. one_if (is_some (f (n + suc i)))) (λ i. ap (λ j. one_if (is_some (f j))) (omega arith)) in
    omega (arith, z, r))
  where
    here : (o : Option X) (xs : List X) → length (option_map_or (λ x. x ∷ xs) o xs) ≡ one_if (is_some o) + length xs
    here None xs = omega arith
    here (Some x) xs = omega arith

sum-ones : (n : ℕ) → sum_below n (λ k. 1) ≡ n
sum-ones zero = refl
sum-ones (suc n) = omega (arith, sum-ones n)

at_most_one : (b : Bool) → one_if b ≤ 1
at_most_one true = omega arith
at_most_one false = omega arith

module _ (s : Store) where
  -- a task's number in the root namespace
  abbrev pub root : ℕ → ℕ
  root k = root_number (name_at s.numbering k)

  abbrev pub IsTask : ℕ → Type 0
  IsTask k = (t : Task) × (task_at s.tree k ≡ Some t)

module _ (s : Store) (l : IsLawful s) where
  -- each row is that of a key
  pub few-rows : length (state_of s).rows ≤ length s.tree.tasks
  few-rows =
      let rows = length-collect (row_numbered s 0) 0 s.numbering.pid_max in
      let numbered = sum-ext s.numbering.pid_max (λ n. one_if (is_some (row_numbered s 0 (0 + n)))) (λ n. one_if (is_some (option_and_then (task_at s.tree) (key_numbered s.numbering 0 n))))
      (λ n. ap (λ m. one_if (is_some (row_numbered s 0 m))) (omega arith) ∙ tasked (key_numbered s.numbering 0 n)) in
      let keys = sum-numbered s l s.tree.tasks (named s l) (λ o. one_if (is_some o)) refl in
      let all : length (state_of s).rows ≡ sum_below (length s.tree.tasks) (λ k. one_if (is_some (task_at s.tree k))) = rows ∙ numbered ∙ keys in
      let most = sum_le (length s.tree.tasks) (λ k. one_if (is_some (task_at s.tree k))) (λ k. 1) (λ k. at_most_one (is_some (task_at s.tree k))) in
      let ones = sum-ones (length s.tree.tasks) in
      omega (arith, all, most, ones)
    where
      row : (k : ℕ) (o : Option Task) → one_if (is_some (option_map (row_of s k) o)) ≡ one_if (is_some o)
      row k None = refl
      row k (Some t) = refl

      tasked : (o : Option ℕ) → one_if (is_some (option_and_then (row_with s) o)) ≡ one_if (is_some (option_and_then (task_at s.tree) o))
      tasked None = refl
      tasked (Some k) = row k (task_at s.tree k)

  -- a task's row stands at its root number
  pub rooted-at : (k : ℕ) (t : Task) → task_at s.tree k ≡ Some t → row_at (state_of s).rows (root s k) ≡ Some (row_of s k t)
  rooted-at k t e = let u = named s l k t e in row_at-key s l (root s k) k t e (root-number s l k u.0 u.1)

  -- one step up
  pub step-up : (k : ℕ) → IsTask s k → parent_number (state_of s).rows (root s k) ≡ option_map (root s) (parent_of s.tree k)
  step-up k t = parent_number-at (state_of s).rows (root s k) (row_of s k t.0) (rooted-at k t.0 t.1) ∙ go (parent_of s.tree k)
    where
      go : (o : Option ℕ) → option_map root_number (option_map (name_at s.numbering) o) ≡ option_map (root s) o
      go None = refl
      go (Some p) = refl

  module _ (w : IsWholeWithThreads s) where
    pub tasks-up : (x y : ℕ) → IsTask s x → parent_of s.tree x ≡ Some y → IsTask s y
    tasks-up x y t e = held (task_at s.tree y) (w.parents x y e)

    -- the climb by root numbers is that by keys
    pub climb-rows : (n k : ℕ) → IsTask s k → climb (parent_number (state_of s).rows) n (root s k) ≡ map (root s) (climb (parent_of s.tree) n k)
    climb-rows n k t = climb-mapped (parent_of s.tree) (parent_number (state_of s).rows) (root s) (IsTask s) tasks-up step-up n k t

    -- it ends at one that has no parent
    pub top-of : (k : ℕ) → IsTask s k → (a : ℕ) × IsIn a (climb (parent_of s.tree) (length (state_of s).rows) k) × (parent_of s.tree a ≡ None)
    top-of k t =
        let ends = (w.sound.coherent.parents (row_of s k t.0) (rows-in s l k t.0 t.1)).chain in
        let a = IsIn-from_map (root s) 1 (climb (parent_of s.tree) (length (state_of s).rows) k) (subst (IsIn 1) (climb-rows (length (state_of s).rows) k t) ends) in
        let at = climb-all (parent_of s.tree) (IsTask s) tasks-up (length (state_of s).rows) k t a.0 a.1 in
        (a.0, a.1, none (parent_of s.tree a.0) (sym (step-up a.0 at) ∙ ap (parent_number (state_of s).rows) (sym a.2) ∙ top_row (full_state s) w.sound.coherent))
      where
        none : (o : Option ℕ) → option_map (root s) o ≡ None → o ≡ None
        none None e = refl
        none (Some p) e = absurd (cc)

    -- so it is no longer for more steps
    pub climb-long : (n k : ℕ) → IsTask s k → length (state_of s).rows ≤ n → climb (parent_of s.tree) n k ≡ climb (parent_of s.tree) (length (state_of s).rows) k
    climb-long n k t le =
        let a = top-of k t in
        climb-enough (parent_of s.tree) (length (state_of s).rows) n k (Stops-at_top (parent_of s.tree) (length (state_of s).rows) k a.0 a.2 a.1) le
