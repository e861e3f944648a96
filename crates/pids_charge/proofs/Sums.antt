-- How sums over keys change.
use Rattle.pids_charge.proofs.Words.{List, [], arith, get_or, length, refl, suc, zero, ℕ, ◌+◌, ◌<◌, ◌∷◌, ◌≡◌, ◌≢◌, ◌≤◌, sum_by-cons, sum_by, sum_below}

pub sum-ext : (n : ℕ) (f g : ℕ → ℕ) → ((k : ℕ) → f k ≡ g k) → sum_below n f ≡ sum_below n g
sum-ext n f g same = grind arith

-- two functions that differ at one key
pub sum-at : (n a : ℕ) (f g : ℕ → ℕ) → a < n → ((k : ℕ) → k ≢ a → f k ≡ g k) → sum_below n f + g a ≡ sum_below n g + f a
sum-at zero a f g lt same = absurd (omega (arith, lt))
sum-at (suc n) zero f g lt same = grind (arith, sum-ext)
sum-at (suc n) (suc a) f g lt same =
    omega (arith, same 0 (λ e. omega (arith, e)), sum-at n a (λ k. f (suc k)) (λ k. g (suc k)) (omega (arith, lt)) (λ k ne. same (suc k) (λ e. ne (omega (arith, e)))))

pub sum-zero : (n : ℕ) (f : ℕ → ℕ) → ((k : ℕ) → f k ≡ 0) → sum_below n f ≡ 0
sum-zero zero f none = refl
sum-zero (suc n) f none = omega (arith, none 0, sum-zero n (λ k. f (suc k)) (λ k. none (suc k)))

-- nothing comes from a bound on
sum-tail : (n m : ℕ) (f : ℕ → ℕ) → n ≤ m → ((k : ℕ) → n ≤ k → f k ≡ 0) → sum_below m f ≡ sum_below n f
sum-tail zero m f le none = sum-zero m f (λ k. none k (omega arith))
sum-tail (suc n) zero f le none = absurd (omega (arith, le))
sum-tail (suc n) (suc m) f le none =
    omega (arith, sum-tail n m (λ k. f (suc k)) (omega (arith, le)) (λ k from. none (suc k) (omega (arith, from))))

-- two functions that differ at one key, each of them nothing from a bound of its own on
pub sum-apart : (n m a : ℕ) (f g : ℕ → ℕ) → ((k : ℕ) → n ≤ k → f k ≡ 0) → ((k : ℕ) → m ≤ k → g k ≡ 0) → ((k : ℕ) → k ≢ a → f k ≡ g k)
    → sum_below n f + g a ≡ sum_below m g + f a
sum-apart n m a f g past_n past_m same =
    let all = n + m + suc a in
    omega (arith, sum-at all a f g (omega arith) same, sum-tail n all f (omega arith) past_n, sum-tail m all g (omega arith) past_m)

pub sum_le : (n : ℕ) (f g : ℕ → ℕ) → ((k : ℕ) → f k ≤ g k) → sum_below n f ≤ sum_below n g
sum_le zero f g le = omega arith
sum_le (suc n) f g le = omega (arith, le 0, sum_le n (λ k. f (suc k)) (λ k. g (suc k)) (λ k. le (suc k)))

-- one key's part is at most the sum
pub sum_ge : (n a : ℕ) (f : ℕ → ℕ) → a < n → f a ≤ sum_below n f
sum_ge zero a f lt = absurd (omega (arith, lt))
sum_ge (suc n) zero f lt = omega arith
sum_ge (suc n) (suc a) f lt = omega (arith, sum_ge n a (λ k. f (suc k)) (omega (arith, lt)))

-- a sum over a list, by places
pub sum_by-places : {X : Type 0} (f : X → ℕ) (d : X) (xs : List X) → sum_by f xs ≡ sum_below (length xs) (λ k. f (get_or xs k d))
sum_by-places f d [] = refl
sum_by-places f d (x ∷ xs) = omega (arith, sum_by-cons f x xs, sum_by-places f d xs)
