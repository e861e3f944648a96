-- Ended children among their parents' children.
use Rattle.std.specs.Prelude.{◌≡◌, ◌<◌, ℕ, List, length, Option, Some}
use Rattle.member_lists.specs.Owners.{owner_of}
use Rattle.member_queues.specs.Ranks.{ranked}

-- who waits for a parent is its child, and no parent has two with one rank
pub record IsWaiting (parents : List (Option ℕ)) (ended : List (Option (ℕ × ℕ))) : Type 0 where
  pub child : (k p r : ℕ) → ranked ended k ≡ Some (p, r) → owner_of parents k ≡ Some p
  pub apart : (j k p r : ℕ) → ranked ended j ≡ Some (p, r) → ranked ended k ≡ Some (p, r) → j ≡ k
  pub rooms : (k p : ℕ) → owner_of parents k ≡ Some p → k < length ended
