-- Numbers that were written over the first ones of a room.
use Rattle.std.proofs.Common.{◌≡◌, ◌≤◌, ◌++◌, ℕ, List, length, take, drop, sym, ap, ◌∙◌, arith, take_at, drop_at, length-append}

pub first_of : (n : ℕ) (room numbers rest : List ℕ) → n ≡ length numbers → room ≡ numbers ++ rest → (take n room ≡ numbers) × (n ≤ length room)
first_of n room numbers rest count is =
    (ap (take n) is ∙ take_at numbers rest n (sym count), omega (arith, count, ap length is, length-append numbers rest))

pub behind : (n : ℕ) (room numbers rest : List ℕ) → n ≡ length numbers → room ≡ numbers ++ rest → drop n room ≡ rest
behind n room numbers rest count is = ap (drop n) is ∙ drop_at numbers rest n (sym count)
