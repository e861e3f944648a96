-- What a reader finds that is given bytes in pieces: entries, and what is behind the last whole one.
use Rattle.std.specs.Prelude.{Bool, ◌≡◌, ℕ, ◌+◌, ◌^◌, ◌<◌, ◌⊎◌, List, [], ◌++◌, length, drop, IsTrue, nat_eq, if◌then◌else◌}
use Rattle.std.specs.List.{list_all}
use Rattle.saved_form.specs.declared.next.Next.{Next}
use Rattle.saved_form.specs.Taking.{IsTorn, IsWrongAt}

-- all of the bytes are 0
abbrev pub are_zero : List ℕ → Bool
are_zero bytes = list_all (λ (byte : ℕ). nat_eq byte 0) bytes

abbrev pub AreZeroes : List ℕ → Type 0
AreZeroes bytes = IsTrue (are_zero bytes)

-- a block is not as it was written, and from its checksum on all bytes are 0: a file may have its length before its bytes
pub record IsUnwritten (sum : ℕ) (bytes : List ℕ) : Type 0 where
  pub place : ℕ
  pub wrong : IsWrongAt sum bytes place
  pub zeroes : AreZeroes (drop (place + 40) bytes)

-- a block is not as it was written, and not all bytes from its checksum on are 0
pub record HasWrongByte (sum : ℕ) (bytes : List ℕ) : Type 0 where
  pub place : ℕ
  pub wrong : IsWrongAt sum bytes place
  pub other : AreZeroes (drop (place + 40) bytes) → ⊥

-- a reader has passed these bytes behind the last whole entry, and has counted them: none, or those that may be the front of a torn end
pub record IsPassed (sum count : ℕ) (passed : List ℕ) : Type 0 where
  pub counted : count ≡ length passed
  pub front : (passed ≡ []) ⊎ IsUnwritten sum passed

-- more bytes decide: none are passed, and these are fewer than the longest entry has; or these are passed too
pub data IsOpen (sum : ℕ) (before bytes : List ℕ) : ℕ → Type 0 where
  within_entry : (wanted : ℕ) → before ≡ [] → IsTorn sum bytes wanted → length bytes < 192 → IsOpen sum before bytes 0
  zeroes_so_far : (count : ℕ) → 0 < count → IsPassed sum count (before ++ bytes) → IsOpen sum before bytes count

-- behind the last whole entry there is nothing more than a torn end
abbrev pub IsTornEnd : ℕ → List ℕ → Type 0
IsTornEnd sum bytes = ((wanted : ℕ) × IsTorn sum bytes wanted) ⊎ IsUnwritten sum bytes

-- these bytes, behind those that so many were counted of, decide nothing yet
abbrev pub StaysOpen : ℕ → ℕ → List ℕ → ℕ → Type 0
StaysOpen sum count bytes counted =
    (before : List ℕ) → IsPassed sum count before → length (before ++ bytes) < 2 ^ 64 → IsOpen sum before bytes counted

-- they are the last, and all that is behind the last whole entry is left out
abbrev pub EndsHere : ℕ → ℕ → List ℕ → ℕ → Type 0
EndsHere sum count bytes left_out =
    (before : List ℕ) → IsPassed sum count before → length (before ++ bytes) < 2 ^ 64
    → (left_out ≡ length (before ++ bytes)) × IsTornEnd sum (before ++ bytes)

-- a byte of them, or of the block before them, is not the one that was written
abbrev pub IsWrongHere : ℕ → ℕ → List ℕ → Type 0
IsWrongHere sum count bytes = (before : List ℕ) → IsPassed sum count before → HasWrongByte sum (before ++ bytes)

-- what is told where no entry is whole any more: the end, if these are the last bytes
abbrev pub undecided : ℕ → Bool → Next
undecided count is_end = if is_end then Next.End count else Next.Open count
