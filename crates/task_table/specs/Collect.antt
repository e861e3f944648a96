-- A list in the order of its elements' numbers, told by look-ups.
use Rattle.std.specs.Prelude.{ℕ, zero, suc, ◌+◌, List, [], ◌∷◌, Option}
use Rattle.std.specs.Option.{option_map_or}

-- what the look-up finds at so many numbers from the first on
abbrev pub collect : {X : Type 0} → (ℕ → Option X) → ℕ → ℕ → List X
collect f n zero = []
collect f n (suc more) = option_map_or (λ x. x ∷ collect f (n + 1) more) (f n) (collect f (n + 1) more)
