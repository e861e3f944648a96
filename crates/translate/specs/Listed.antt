-- A list that is told a page at a time: as much of it as the room takes, and whether there is more.
use Rattle.std.specs.Prelude.{◌≡◌, ◌+◌, ℕ, List, length, Option, Some, None}
use Rattle.translate.specs.Pages.{with_front, AreLeastFrom}

-- of the numbers the least from one on, at most one more than the room takes, are at its front, in rising order, as far as it takes them,
-- and how many they are is told; or else there is no list, and the room is as it was
pub record TellsList (numbers : Option (List ℕ)) (from : ℕ) (old new : List ℕ) (count : Option ℕ) : Type 0 where
  pub none : numbers ≡ None → (count ≡ None) × (new ≡ old)
  pub listed : (all : List ℕ) → numbers ≡ Some all → (listed : List ℕ)
      × AreLeastFrom all from (length old + 1) listed × (count ≡ Some (length listed)) × (new ≡ with_front listed old)
