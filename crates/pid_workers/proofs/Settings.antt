-- Settings that no test tells apart.
use Rattle.std.proofs.Common.{◌≡◌, ℕ, ◌==◌, ◌&&◌, not, Bool, true, false, refl, arith}
use Rattle.pid_types.specs.Settings.{Settings}

-- settings of which no part differs are the same
pub same_settings : (a b : Settings) → not ((a.pid_max == b.pid_max) && (a.first_stamp == b.first_stamp)) ≡ false → a ≡ b
same_settings a b e = go (a.pid_max == b.pid_max) refl (a.first_stamp == b.first_stamp) refl e
  where
    same_number : (x y : ℕ) → (x == y) ≡ true → x ≡ y
    same_number x y is = grind (arith, is)

    go : (p : Bool) → (a.pid_max == b.pid_max) ≡ p → (q : Bool) → (a.first_stamp == b.first_stamp) ≡ q → not (p && q) ≡ false → a ≡ b
    go true is true at e = let m = same_number a.pid_max b.pid_max is in let s = same_number a.first_stamp b.first_stamp at in λ i. record { pid_max = m i; first_stamp = s i }
    go true is false at e = absurd (cc)
    go false is q at e = absurd (cc)
