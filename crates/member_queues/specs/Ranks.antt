-- What a contract sees of `MemberQueues`: at each key its owner and its rank, or neither.
use Rattle.std.specs.Prelude.{◌≡◌, ℕ, ◌≤◌, List, Option, Some, None, option_map, slice_index_or}
use Rattle.std.specs.List.{AllByRecursion}
use Rattle.member_lists.specs.Owners.{times}

-- the owner and the rank of a key
abbrev pub ranked : List (Option (ℕ × ℕ)) → ℕ → Option (ℕ × ℕ)
ranked members k = slice_index_or members k None

-- the key is the owner's, and none of the owner's ranks lower
pub record IsLeast (members : List (Option (ℕ × ℕ))) (owner k : ℕ) : Type 0 where
  pub rank : ℕ
  pub is : ranked members k ≡ Some (owner, rank)
  pub least : (j r : ℕ) → ranked members j ≡ Some (owner, r) → rank ≤ r

-- the owner of a key
abbrev pub holder : List (Option (ℕ × ℕ)) → ℕ → Option ℕ
holder members k = option_map (λ (m : ℕ × ℕ). m.0) (ranked members k)

-- the list has each member of an owner once, and nobody else
pub record AreRankedMembers (members : List (Option (ℕ × ℕ))) (owner : ℕ) (keys : List ℕ) : Type 0 where
  pub once : (k : ℕ) → holder members k ≡ Some owner → times k keys ≡ 1
  pub owned : AllByRecursion (λ k. holder members k ≡ Some owner) keys
