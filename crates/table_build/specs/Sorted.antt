-- The order of a text's lines.
use Rattle.std.specs.Prelude.{◌≡◌, ℕ, ◌<◌, ◌≤◌, suc, List, Some, length, slice_get}
use Rattle.pid_types.specs.declared.plain.Row.{Row}
use Rattle.pid_types.specs.Names.{root_number}

-- the row has not a smaller number than the one before it, if both have one
abbrev pub IsNotBelow : List Row → ℕ → Type 0
IsNotBelow rows j =
    (i : ℕ) (a b : Row) → j ≡ suc i → slice_get rows i ≡ Some a → slice_get rows j ≡ Some b
    → 0 < length a.name.numbers.items → 0 < length b.name.numbers.items → root_number a.name ≤ root_number b.name
