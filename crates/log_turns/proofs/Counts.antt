-- How many calls end up to a place.
use Rattle.std.proofs.Common.{ℕ, ◌≤◌, List, [], ◌∷◌, length, arith}
use Rattle.std.specs.Prelude.{nat_le, if◌then◌else◌}
use Rattle.std.proofs.lemmas.Bool.Decides.{nat_tests}
use Rattle.log_turns.specs.World.{calls_to, EndUpTo}

pub EndUpTo-more : (p q : ℕ) (ends : List ℕ) → p ≤ q → EndUpTo p ends → EndUpTo q ends
EndUpTo-more p q [] h k = tt
EndUpTo-more p q (e ∷ ends) h k = (omega (arith, k.0), EndUpTo-more p q ends h k.1)

one_more : (e p q : ℕ) → p ≤ q → (if nat_le e p then 1 else 0) ≤ (if nat_le e q then 1 else 0)
one_more e p q h = grind (arith, nat_tests)

pub calls_to-more : (p q : ℕ) (ends : List ℕ) → p ≤ q → calls_to p ends ≤ calls_to q ends
calls_to-more p q [] h = omega arith
calls_to-more p q (e ∷ ends) h = omega (arith, one_more e p q h, calls_to-more p q ends h)

pub calls_to-taken : (p e : ℕ) (ends : List ℕ) → calls_to p ends ≤ calls_to p (e ∷ ends)
calls_to-taken p e ends = omega arith

one_all : (e p : ℕ) → e ≤ p → 1 ≤ (if nat_le e p then 1 else 0)
one_all e p h = grind (arith, nat_tests)

pub calls_to-all : (p : ℕ) (ends : List ℕ) → EndUpTo p ends → length ends ≤ calls_to p ends
calls_to-all p [] h = omega arith
calls_to-all p (e ∷ ends) h = omega (arith, one_all e p h.0, calls_to-all p ends h.1)
