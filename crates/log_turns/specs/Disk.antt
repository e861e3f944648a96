-- The logs on the disk, and what a start takes of them.
use Rattle.std.specs.Prelude.{◌≡◌, ℕ, ◌+◌, ◌≤◌, ◌==◌, ◌⊎◌, zero, suc, List, [], ◌∷◌, ◌++◌, length, take, drop, Option, Some, None, nat_lt, if◌then◌else◌}

-- A log, by its bytes. Each byte of a call has a number: how many bytes of calls are before it. What is no byte of a call has some other.
pub record LogFile : Type 0 where
  -- the number of the byte that the log begins with
  pub first : ℕ
  pub bytes : List ℕ
  -- so many of them are on the disk for sure
  pub sure : ℕ

pub record Disk : Type 0 where
  -- the log that is written, and those before it, the newest first
  pub log : LogFile
  pub older : List LogFile
  -- a log without a call that was not made whole, if there is one: where it begins
  pub begun : Option ℕ
  -- all before that byte is in the newest snapshot
  pub snapshot : ℕ
  -- where the log begins that `current` names
  pub current : ℕ

-- so many numbers, each one more than the one before
abbrev pub numbers : ℕ → ℕ → List ℕ
numbers first zero = []
numbers first (suc n) = first ∷ numbers (suc first) n

-- the bytes of the file, with these at the place
abbrev pub put : ℕ → List ℕ → List ℕ → List ℕ
put at bytes file = take at file ++ bytes ++ drop (at + length bytes) file

-- how many bytes are read, up to the first that is not the one that was to come
abbrev pub front : ℕ → List ℕ → ℕ
front first [] = 0
front first (b ∷ bs) = if b == first then suc (front (suc first) bs) else 0

-- where it goes on behind a log, which has to begin where those before it end
abbrev pub read_on : LogFile → Option ℕ → Option ℕ
read_on log None = None
read_on log (Some at) = if log.first == at then Some (at + front at log.bytes) else None

-- Where one comes to who reads the snapshot and then the logs behind it, the newest first here. None: the logs are refused.
abbrev pub read_to : ℕ → List LogFile → Option ℕ
read_to snapshot [] = Some snapshot
read_to snapshot (log ∷ older) = if nat_lt log.first snapshot then Some snapshot else read_on log (read_to snapshot older)

-- a log without a call has to begin where the others end
abbrev pub read_begun : Option ℕ → Option ℕ → Option ℕ
read_begun None end = end
read_begun (Some first) None = None
read_begun (Some first) (Some at) = if first == at then Some at else None

-- What a start takes: all up to there.
abbrev pub start_takes : Disk → Option ℕ
start_takes d = read_begun d.begun (read_to d.snapshot (d.log ∷ d.older))

-- What a loss of power leaves of a log: what is there for sure, and behind it whatever, but not more than there was.
pub record IsLeftOf (log left : LogFile) : Type 0 where
  pub first : left.first ≡ log.first
  pub sure : take log.sure left.bytes ≡ take log.sure log.bytes
  pub no_longer : length left.bytes ≤ length log.bytes

abbrev pub AreLeftOf : List LogFile → List LogFile → Type 0
AreLeftOf [] [] = Unit {0}
AreLeftOf (log ∷ logs) (left ∷ lefts) = IsLeftOf log left × AreLeftOf logs lefts
AreLeftOf [] (left ∷ lefts) = ⊥
AreLeftOf (log ∷ logs) [] = ⊥

-- what a loss of power leaves of a disk
pub record IsLeft (d left : Disk) : Type 0 where
  pub log : IsLeftOf d.log left.log
  pub older : AreLeftOf d.older left.older
  pub begun : (left.begun ≡ None) ⊎ (left.begun ≡ d.begun)
  pub snapshot : left.snapshot ≡ d.snapshot
  pub current : left.current ≡ d.current

-- one of the logs begins there
abbrev pub BeginsOne : ℕ → List LogFile → Type 0
BeginsOne place [] = ⊥
BeginsOne place (log ∷ logs) = (log.first ≡ place) ⊎ BeginsOne place logs

-- `current` names a log that is there, whole with its head
abbrev pub NamesLog : Disk → Type 0
NamesLog d = BeginsOne d.current (d.log ∷ d.older)

-- each byte of the log is there once, at its place
abbrev pub HasBytesInOrder : LogFile → Type 0
HasBytesInOrder log = log.bytes ≡ numbers log.first (length log.bytes)

abbrev pub AreInOrder : List LogFile → Type 0
AreInOrder [] = Unit {0}
AreInOrder (log ∷ logs) = HasBytesInOrder log × AreInOrder logs
