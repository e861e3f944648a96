-- The numbers of one identifier, wherever they are in memory.
use Rattle.std.specs.Prelude.{ℕ, ◌≡◌, ◌<◌, List, [], length, slice_index_or}
use Rattle.pid_numbers.specs.declared.levels.Place.{Place}
use Rattle.pid_numbers.specs.declared.levels.Place.TheVariants.{Nowhere, Here, Small, Middle, Large}

abbrev pub numbers_in : Place → List ℕ
numbers_in Nowhere = []
numbers_in (Here number) = number
numbers_in (Small first block) = block.value
numbers_in (Middle first block) = block.value
numbers_in (Large first block) = block.value

-- there are some numbers, and the first is this one
abbrev pub BeginsWith : List ℕ → ℕ → Type 0
BeginsWith numbers first = (0 < length numbers) × (first ≡ slice_index_or numbers 0 0)

-- whoever has a place for numbers has some
abbrev pub IsFilled : Place → Type 0
IsFilled Nowhere = Unit {0}
IsFilled (Here number) = 0 < length number
IsFilled (Small first block) = BeginsWith block.value first
IsFilled (Middle first block) = BeginsWith block.value first
IsFilled (Large first block) = BeginsWith block.value first
