-- Sums over keys.
use Rattle.std.specs.Prelude.{ℕ, zero, suc, ◌+◌}

-- what a function gives at the numbers below a bound, added up
abbrev pub sum_below : ℕ → (ℕ → ℕ) → ℕ
sum_below zero f = 0
sum_below (suc n) f = f 0 + sum_below n (λ k. f (suc k))
