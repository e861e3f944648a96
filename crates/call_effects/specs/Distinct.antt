-- Lists in which each number comes once.
use Rattle.std.specs.Prelude.{◌≡◌, Bool, List}
use Rattle.std.specs.declared.cmp.Ordering.{Ordering}
use Rattle.std.specs.List.{dedup}
use Rattle.std.specs.List.Sorted.{IsPermutation, IsSorted}

-- the new list is the old one in order, where what comes again is dropped
pub record SortsDistinct {X : Type 0} (cmp : X → X → Ordering) (same : X → X → Bool) (old new : List X) : Type 0 where
  pub sorted : List X
  pub permutes : IsPermutation old sorted
  pub in_order : IsSorted cmp sorted
  pub is : new ≡ dedup same sorted
