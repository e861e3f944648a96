-- The entries of a log, and the text of each.
use Rattle.std.specs.Prelude.{ℕ, ◌≡◌, ◌<◌, ◌^◌, ◌==◌, ◌&&◌, ◌||◌, nat_le, Bool, false, List, [], ◌∷◌, ◌++◌, length, take, drop, slice_index, codes, decimal, IsTrue}
use Rattle.std.specs.List.{AllByRecursion, join_with_byte, list_all}

-- the settings; a session that opens, and one that ends; calls of a session; a snapshot that is asked for, and one that is announced
pub data LogEntry : Type 0 where
  Settings : (form pid_max model : ℕ) → LogEntry
  Opened : LogEntry
  Ended : (session : ℕ) → LogEntry
  Calls : (session sequence position : ℕ) (digest : List ℕ) (lines : List (List ℕ)) → LogEntry
  Wanted : LogEntry
  Announced : (position : ℕ) (digest : List ℕ) (size : ℕ) (sum key : List ℕ) → LogEntry

-- the words, with one space between
abbrev pub spaced : List (List ℕ) → List ℕ
spaced = join_with_byte 32

-- the text of an entry
abbrev pub entry_text : LogEntry → List ℕ
entry_text (Settings form pid_max model) =
    spaced (codes "pidtab-log" ∷ decimal form ∷ codes "pid_max" ∷ decimal pid_max ∷ codes "model" ∷ decimal model ∷ [])
entry_text Opened = codes "open"
entry_text (Ended session) = spaced (codes "end" ∷ decimal session ∷ [])
entry_text (Calls session sequence position digest lines) =
    spaced (codes "calls" ∷ decimal session ∷ decimal sequence ∷ decimal (length lines) ∷ decimal position ∷ digest ∷ [])
    ++ 10 ∷ join_with_byte 10 lines
entry_text Wanted = codes "snap"
entry_text (Announced position digest size sum key) =
    spaced (codes "snapshot" ∷ decimal position ∷ digest ∷ decimal size ∷ sum ∷ key ∷ [])

-- a hexadecimal digit, with a small letter
abbrev pub is_digit : ℕ → Bool
is_digit b = (nat_le 48 b && nat_le b 57) || (nat_le 97 b && nat_le b 102)

-- so many hexadecimal digits
abbrev pub is_hex : ℕ → List ℕ → Bool
is_hex n word = (length word == n) && list_all is_digit word

-- the name of a snapshot's pieces: 16 digits, `-` and 16 more
abbrev pub is_key : List ℕ → Bool
is_key word = (length word == 33) && (is_hex 16 (take 16 word) && ((slice_index word 16 == 45) && is_hex 16 (drop 17 word)))

-- no byte of the list is this one
abbrev pub LacksByte : ℕ → List ℕ → Type 0
LacksByte byte bytes = AllByRecursion (λ b. (b == byte) ≡ false) bytes

-- a line has a byte, and no newline
abbrev pub IsLine : List ℕ → Type 0
IsLine line = (0 < length line) × LacksByte 10 line

abbrev pub IsWord64 : ℕ → Type 0
IsWord64 n = n < 2 ^ 64

-- the numbers have 64 bits, the digits are digits, and an entry of calls has lines
abbrev pub IsGood : LogEntry → Type 0
IsGood (Settings form pid_max model) = IsWord64 form × IsWord64 pid_max × IsWord64 model
IsGood Opened = Unit {0}
IsGood (Ended session) = IsWord64 session
IsGood (Calls session sequence position digest lines) =
    IsWord64 session × IsWord64 sequence × IsWord64 position × IsTrue (is_hex 16 digest) × IsWord64 (length lines) × (0 < length lines)
    × AllByRecursion IsLine lines
IsGood Wanted = Unit {0}
IsGood (Announced position digest size sum key) =
    IsWord64 position × IsTrue (is_hex 64 digest) × IsWord64 size × IsTrue (is_hex 64 sum) × IsTrue (is_key key)
