-- What C's functions find and leave of a table with its history.
use Rattle.std.specs.Prelude.{◌≡◌, ◌≢◌, ◌<◌, ◌≤◌, ◌⊎◌, ℕ, length, Option, Some, None, option_map, false}
use Rattle.pid_types.specs.declared.call.Call.{Call}
use Rattle.kept_table.specs.Calls.{after_recorded, cut_at, nothing_spare, to_cut, FewerWait, IsWithoutFirst, NoneWait}
use Rattle.kept_past.specs.Past.{IsCaughtUp}
use Rattle.kept_table.specs.Chronicle.{Chronicle, total, recorded}
use Rattle.foreign_numbers.specs.declared.status.TheConstants.{DONE, NO_MEMORY}

-- there is a value, and this is true of it
abbrev pub Has : {X : Type 0} → Option X → (X → Type 0) → Type 0
Has None P = ⊥
Has (Some x) P = P x

-- the record without the number of entries that it has room for
abbrev pub roomless : Chronicle → Chronicle
roomless c = record c { memory = record { room = 0; waits = c.memory.waits } }

-- the record without what memory it has beside
abbrev pub memoryless : Chronicle → Chronicle
memoryless c = record c { memory = nothing_spare }

abbrev pub without_memory : Option Chronicle → Option Chronicle
without_memory held = option_map memoryless held

-- at most so many entries are kept, or fewer than before
abbrev pub IsBounded : ℕ → Chronicle → Chronicle → Type 0
IsBounded keep c d = (length d.entries ≤ keep) ⊎ (length d.entries < length c.entries)

-- the worker's call was made and recorded, once, at this place of the history, and two of the cut calls that wait for the opening were made
pub record IsRecorded (c : Chronicle) (worker : ℕ) (call : Call) (ordinal : ℕ) (new : Option Chronicle) : Type 0 where
  pub left : without_memory new ≡ Some (after_recorded c worker call)
  pub moved : Has new (λ d. IsCaughtUp 2 c.memory.waits d.memory.waits)
  pub place : ordinal ≡ total c

-- the same, and then first entries were cut away, where more than so many are kept: two at most, or all; fewer cut calls wait than before
pub record IsRecordedKeeping (keep : ℕ) (c : Chronicle) (worker : ℕ) (call : Call) (ordinal : ℕ) (d : Chronicle) : Type 0 where
  pub cut : IsWithoutFirst (to_cut (after_recorded c worker call) keep) (after_recorded c worker call) d
  pub bound : IsBounded keep c d
  pub fewer : FewerWait c.memory.waits d.memory.waits
  pub place : ordinal ≡ total c

-- the history was cut away: the present state is the opening, ordinals go on, and each worker's calls stay counted
pub record IsCut (c d : Chronicle) : Type 0 where
  pub left : d ≡ cut_at c (total c) d.cut d.memory
  pub none_wait : NoneWait d.memory.waits
  pub workers : length d.cut ≡ length c.cut
  pub counts : (worker : ℕ) → worker < length c.cut → recorded d worker ≡ recorded c worker

-- the same of what is held
abbrev pub Cuts : Option Chronicle → Option Chronicle → Type 0
Cuts old new = Has old (λ c. Has new (λ d. IsCut c d))

-- the history was cut away where the status is DONE, and else all stays as it was; there is no memory only where the opening moves on by no
-- calls
pub record CutsIfDone (c d : Chronicle) (status : ℕ) : Type 0 where
  pub done : status ≡ DONE → IsCut c d
  pub not_done : status ≢ DONE → d ≡ c
  pub no_memory : status ≡ NO_MEMORY → c.by_steps ≡ false
