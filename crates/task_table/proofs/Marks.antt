-- Live processes whose first thread has left: how many of them have a control group's key as their home.
use Rattle.std.proofs.Common.{◌≡◌, ◌≢◌, ℕ, zero, suc, ◌+◌, ◌<◌, ◌≤◌, ◌&&◌, Bool, true, false, length, count_by, None, refl, sym, ap, ◌∙◌, arith}
use Rattle.std.proofs.lemmas.Bool.{and_right}
use Rattle.std.proofs.lemmas.List.{get_or_past}
use Rattle.process_threads.specs.Threads.{left_at}
use Rattle.task_tree.specs.Tree.{task_at, has_live}
use Rattle.pids_charge.specs.Sums.{sum_below}
use Rattle.pids_charge.proofs.Sums.{sum-apart, sum-zero, sum_by-places, sum_ge, sum_le}
use Rattle.task_table.specs.Store.{Store, IsStore, one_if, lives_in, left_in, left_homed}

-- where there is no mark it does not matter who is there
pub unmarked : (mark : Bool) → mark ≡ false → (a b : Bool) → one_if (mark && a) ≡ one_if (mark && b)
unmarked mark e a b = ap (λ m. one_if (m && a)) e ∙ sym (ap (λ m. one_if (m && b)) e)

pub not-marked : {X : Type 0} (mark : Bool) → mark ≡ false → mark ≡ true → X
not-marked mark off on = absurd (let z : false ≡ true = sym off ∙ on in cc)

-- who does not live has no mark
pub stays : (s : Store) → IsStore s → (key : ℕ) → has_live (task_at s.tree key) ≡ false → left_at s.threads key ≡ false
stays s w key ended = go (left_at s.threads key) refl
  where
    go : (mark : Bool) → left_at s.threads key ≡ mark → mark ≡ false
    go false e = refl
    go true e = absurd (let z : false ≡ true = sym ended ∙ w.marks key e in cc)

-- past the keys nobody counts
past : (s : Store) (c k : ℕ) → length s.tree.tasks ≤ k → left_in s c k ≡ 0
past s c k le =
    ap (λ o. one_if (left_at s.threads k && lives_in c o)) (get_or_past s.tree.tasks k None le)
    ∙ ap one_if (and_right (left_at s.threads k) false refl)

-- the count changes by what the process at one key counts
pub changed : (s s' : Store) (key : ℕ) → ((k : ℕ) → k ≢ key → left_at s'.threads k ≡ left_at s.threads k)
    → ((k : ℕ) → k ≢ key → task_at s'.tree k ≡ task_at s.tree k) → (c : ℕ) → left_homed s' c + left_in s c key ≡ left_homed s c + left_in s' c key
changed s s' key marks tasks c =
    sum-apart (length s'.tree.tasks) (length s.tree.tasks) key (left_in s' c) (left_in s c) (past s' c) (past s c)
    (λ k differs.
    ap (λ m. one_if (m && lives_in c (task_at s'.tree k))) (marks k differs) ∙ ap (λ o. one_if (left_at s.threads k && lives_in c o)) (tasks k differs))

-- and stays where marks and tasks do
pub same : (s s' : Store) → ((k : ℕ) → left_at s'.threads k ≡ left_at s.threads k) → ((k : ℕ) → task_at s'.tree k ≡ task_at s.tree k)
    → (c : ℕ) → left_homed s' c ≡ left_homed s c
same s s' marks tasks c =
    let all = changed s s' 0 (λ k differs. marks k) (λ k differs. tasks k) c in
    let here : left_in s' c 0 ≡ left_in s c 0 =
    ap (λ m. one_if (m && lives_in c (task_at s'.tree 0))) (marks 0) ∙ ap (λ o. one_if (left_at s.threads 0 && lives_in c o)) (tasks 0) in
    omega (arith, all, here)

-- where no first thread has left nobody counts
pub none : (s : Store) → ((p : ℕ) → left_at s.threads p ≡ false) → (c : ℕ) → left_homed s c ≡ 0
none s stays c = sum-zero (length s.tree.tasks) (left_in s c) (λ k. ap (λ m. one_if (m && lives_in c (task_at s.tree k))) (stays k))

-- a sum with a smaller part is smaller
sum_lt : (n a : ℕ) (f g : ℕ → ℕ) → a < n → ((k : ℕ) → f k ≤ g k) → f a < g a → sum_below n f < sum_below n g
sum_lt zero a f g lt le less = absurd (omega (arith, lt))
sum_lt (suc n) zero f g lt le less = omega (arith, less, sum_le n (λ k. f (suc k)) (λ k. g (suc k)) (λ k. le (suc k)))
sum_lt (suc n) (suc a) f g lt le less = omega (arith, le 0, sum_lt n a (λ k. f (suc k)) (λ k. g (suc k)) (omega (arith, lt)) (λ k. le (suc k)) less)

-- with or without a mark
at_most : (a b : Bool) → one_if (a && b) ≤ one_if b
at_most true b = omega arith
at_most false b = omega arith

-- those whose first thread has left are among the live tasks
pub most : (s : Store) (c : ℕ) → left_homed s c ≤ count_by (lives_in c) s.tree.tasks
most s c =
    let all = sum_by-places (λ o. one_if (lives_in c o)) None s.tree.tasks in
    let few = sum_le (length s.tree.tasks) (left_in s c) (λ k. one_if (lives_in c (task_at s.tree k)))
    (λ k. at_most (left_at s.threads k) (lives_in c (task_at s.tree k))) in
    omega (arith, all, few)

-- a live task whose first thread is there is one more
pub fewer : (s : Store) (c key : ℕ) → key < length s.tree.tasks → one_if (lives_in c (task_at s.tree key)) ≡ 1 → left_at s.threads key ≡ false
    → left_homed s c < count_by (lives_in c) s.tree.tasks
fewer s c key room here stays =
    let all = sum_by-places (λ o. one_if (lives_in c o)) None s.tree.tasks in
    let none : left_in s c key ≡ 0 = ap (λ m. one_if (m && lives_in c (task_at s.tree key))) stays in
    let less = sum_lt (length s.tree.tasks) key (left_in s c) (λ k. one_if (lives_in c (task_at s.tree k))) room
    (λ k. at_most (left_at s.threads k) (lives_in c (task_at s.tree k))) (omega (arith, none, here)) in
    omega (arith, all, less)

-- and one whose first thread has left is among them
pub among : (s : Store) (c key : ℕ) → key < length s.tree.tasks → left_in s c key ≤ left_homed s c
among s c key room = sum_ge (length s.tree.tasks) key (left_in s c) room
