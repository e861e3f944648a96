-- What a contract sees of `MemberLists`: at each key its owner, or none.
use Rattle.std.specs.Prelude.{◌≡◌, ◌≤◌, ◌^◌, ℕ, ◌==◌, List, length, Option, Some, None, if◌then◌else◌, slice_index_or, count_by}
use Rattle.std.specs.List.{AllByRecursion}

-- the owner of a key
abbrev pub owner_of : List (Option ℕ) → ℕ → Option ℕ
owner_of owners k = slice_index_or owners k None

-- how often a key comes in a list
abbrev pub times : ℕ → List ℕ → ℕ
times k keys = count_by (λ j. j == k) keys

-- the list has each member of an owner once, and nobody else
pub record AreMembers (owners : List (Option ℕ)) (owner : ℕ) (keys : List ℕ) : Type 0 where
  pub once : (k : ℕ) → owner_of owners k ≡ Some owner → times k keys ≡ 1
  pub owned : AllByRecursion (λ k. owner_of owners k ≡ Some owner) keys

-- the owner after all members of one went to another
abbrev pub handed : ℕ → ℕ → ℕ → ℕ
handed from to p = if p == from then to else p

-- each key has the owner that it had, and there is no less room
pub record HasMoreRoom (old new : List (Option ℕ)) : Type 0 where
  pub same : (k : ℕ) → owner_of new k ≡ owner_of old k
  pub longer : length old ≤ length new
  pub few : length old ≤ 2 ^ 30 → length new ≤ 2 ^ 30
