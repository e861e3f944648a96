-- The numbers that stand in a head's and an entry's bytes, whatever these are.
use Rattle.std.specs.Prelude.{◌≡◌, ◌≢◌, ℕ, ◌+◌, ◌-◌, ◌*◌, ◌/◌, ◌%◌, ◌<◌, List, length, drop, slice_index, nat_lt, pos, replicate, if◌then◌else◌, ◌==◌}
use Rattle.std.specs.Int.{w32, w64, from_le_bytes, cast_signed}
use Rattle.saved_form.specs.declared.numbers.Head.{Head}
use Rattle.saved_form.specs.declared.numbers.CallNumbers.{CallNumbers}
use Rattle.saved_form.specs.declared.numbers.ReplyNumbers.{ReplyNumbers}
use Rattle.saved_form.specs.Places.{IsZeroFrom}

-- the number in four bytes from the place on, or in eight
abbrev pub four_in : List ℕ → ℕ → ℕ
four_in bytes at = from_le_bytes w32 (drop at bytes)

abbrev pub eight_in : List ℕ → ℕ → ℕ
eight_in bytes at = from_le_bytes w64 (drop at bytes)

-- the settings
abbrev pub head_in : List ℕ → Head
head_in bytes = record { pid_max = four_in bytes 12; workers = four_in bytes 24; first_stamp = eight_in bytes 16 }

-- the call
abbrev pub call_in : List ℕ → CallNumbers
call_in bytes = record {
  operation = slice_index bytes 0;
  caller = four_in bytes 8;
  id = (if slice_index bytes 0 == 7 then 0 else eight_in bytes 16);
  number = four_in bytes 12;
  choice = slice_index bytes 1;
  pid = (if slice_index bytes 0 == 7 then cast_signed w32 (four_in bytes 16) else pos 0);
  pgid = (if slice_index bytes 0 == 7 then cast_signed w32 (four_in bytes 20) else pos 0);
}

-- where a level stands
abbrev pub level_place : ℕ → ℕ
level_place k = if nat_lt k 4 then 24 + 4 * k else 48 * (1 + (k - 4) / 10) + 4 * ((k - 4) % 10)

-- a reply that tells no levels
abbrev pub plain_reply_in : List ℕ → ReplyNumbers
plain_reply_in bytes = record {
  kind = slice_index bytes 3;
  errno = slice_index bytes 4;
  refusal = slice_index bytes 5;
  count = 0;
  first = eight_in bytes 24;
  second = eight_in bytes 32;
  levels = replicate 33 0;
}

-- a reply that tells these levels
abbrev pub levels_reply_in : List ℕ → List ℕ → ReplyNumbers
levels_reply_in levels bytes = record {
  kind = 3;
  errno = slice_index bytes 4;
  refusal = slice_index bytes 5;
  count = slice_index bytes 6;
  first = 0;
  second = 0;
  levels = levels;
}

-- these are so many levels, from their places, and zeroes behind them
pub record ReadsLevels (count : ℕ) (bytes levels : List ℕ) : Type 0 where
  pub long : length levels ≡ 33
  pub each : (k : ℕ) → k < count → slice_index levels k ≡ four_in bytes (level_place k)
  pub behind : IsZeroFrom count levels

-- this is the reply
pub record IsReplyIn (bytes : List ℕ) (r : ReplyNumbers) : Type 0 where
  pub plain : slice_index bytes 3 ≢ 3 → r ≡ plain_reply_in bytes
  pub leveled : slice_index bytes 3 ≡ 3
      → (levels : List ℕ) × ReadsLevels (slice_index bytes 6) bytes levels × (r ≡ levels_reply_in levels bytes)
