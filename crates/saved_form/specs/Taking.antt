-- What a reader finds at the front of bytes.
use Rattle.std.specs.Prelude.{◌≡◌, ℕ, zero, suc, ◌+◌, ◌*◌, ◌/◌, ◌<◌, ◌≤◌, ◌⊎◌, List, [], ◌∷◌, ◌&&◌, length, take, drop, slice_index, nat_lt, if◌then◌else◌, ◌==◌}
use Rattle.saved_form.specs.declared.numbers.Head.{Head}
use Rattle.saved_form.specs.declared.numbers.EntryNumbers.{EntryNumbers}
use Rattle.saved_form.specs.declared.head.TakenHead.{TakenHead}
use Rattle.saved_form.specs.declared.take.TakenEntry.{TakenEntry}
use Rattle.saved_form.specs.Places.{HasPlaces}
use Rattle.saved_form.specs.Form.{further, entry_blocks, sum_behind, sealed, head_block, head_bytes, entry_bytes, entry_size, magic, four}

-- the first bytes are those of a saved history, as far as there are any
abbrev pub MayBegin : List ℕ → Type 0
MayBegin bytes = take 8 bytes ≡ take (length bytes) magic

-- there are 48 bytes, and they begin a saved history of another version
pub record IsOtherVersion (bytes : List ℕ) : Type 0 where
  pub may : MayBegin bytes
  pub there : 48 ≤ length bytes
  pub other : take 4 (drop 8 bytes) ≡ four 1 → ⊥

-- the bytes begin with those of the head
abbrev pub BeginsHead : Head → List ℕ → Type 0
BeginsHead h bytes = take 48 bytes ≡ head_bytes h

-- what is summed of the first blocks, so many
unfoldable pub bodies : ℕ → List ℕ → List (List ℕ)
bodies zero bytes = []
bodies (suc count) bytes = take 40 bytes ∷ bodies count (drop 48 bytes)

-- the first blocks, so many, are there, each with the checksum that it should have
pub record AreRight (count sum : ℕ) (bytes : List ℕ) : Type 0 where
  pub there : 48 * count ≤ length bytes
  pub sums : take (48 * count) bytes ≡ sealed sum (bodies count bytes)

-- how many blocks the first one says that its entry has; none where it says more levels than there can be
unfoldable pub blocks_said : List ℕ → ℕ
blocks_said bytes =
    if (slice_index bytes 3 == 3) && nat_lt 33 (slice_index bytes 6) then 0
    else 1 + further (slice_index bytes 3) (slice_index bytes 6)

-- the bytes begin with those of the entry
abbrev pub BeginsEntry : ℕ → EntryNumbers → List ℕ → Type 0
BeginsEntry sum e bytes = take (entry_size e) bytes ≡ entry_bytes sum e

-- the whole blocks that are there are right, and fewer than the first one says
pub record EndsWithin (sum : ℕ) (bytes : List ℕ) : Type 0 where
  pub there : 48 ≤ length bytes
  pub fewer : length bytes < 48 * blocks_said bytes
  pub right : AreRight (length bytes / 48) sum bytes

-- the bytes end before the entry does, which has so many bytes at least
abbrev pub IsTorn : ℕ → List ℕ → ℕ → Type 0
IsTorn sum bytes wanted =
    ((length bytes < 48) × (wanted ≡ 48)) ⊎ (EndsWithin sum bytes × (wanted ≡ 48 * blocks_said bytes))

-- the block with this number is the first that has another checksum than it should have
pub record IsWrongSum (count sum : ℕ) (bytes : List ℕ) : Type 0 where
  pub of_entry : count < blocks_said bytes
  pub there : 48 * (count + 1) ≤ length bytes
  pub before : AreRight count sum bytes
  pub wrong : AreRight (count + 1) sum bytes → ⊥

-- all blocks of the entry, as the first one says, are there and right
pub record IsWholeEntry (sum : ℕ) (bytes : List ℕ) : Type 0 where
  pub some : 0 < blocks_said bytes
  pub right : AreRight (blocks_said bytes) sum bytes

-- the first block that is not as it was written begins at this place: by its checksum; or it is the first, as the entry is none
pub data IsWrongAt (sum : ℕ) (bytes : List ℕ) : ℕ → Type 0 where
  by_sum : (count : ℕ) → IsWrongSum count sum bytes → IsWrongAt sum bytes (48 * count)
  too_many_levels : 48 ≤ length bytes → blocks_said bytes ≡ 0 → IsWrongAt sum bytes 0
  no_entry : IsWholeEntry sum bytes → IsWrongAt sum bytes 0

-- all blocks of the entry are there and right: so many, and this is the checksum behind them
pub record IsFoundWhole (sum : ℕ) (bytes : List ℕ) (blocks behind : ℕ) : Type 0 where
  pub count : blocks ≡ blocks_said bytes
  pub whole : IsWholeEntry sum bytes
  pub checksum : behind ≡ sum_behind sum (bodies blocks bytes)

-- the bytes begin with those of the entry that was taken
pub record IsTaken (sum : ℕ) (bytes : List ℕ) (taken : TakenEntry) : Type 0 where
  pub places : HasPlaces taken.entry
  pub front : BeginsEntry sum taken.entry bytes
  pub size : taken.size ≡ entry_size taken.entry
  pub checksum : taken.sum ≡ sum_behind sum (entry_blocks taken.entry)

-- the bytes begin with those of the head that was taken
pub record IsTakenHead (bytes : List ℕ) (taken : TakenHead) : Type 0 where
  pub front : BeginsHead taken.head bytes
  pub checksum : taken.sum ≡ sum_behind 0 (head_block taken.head ∷ [])
