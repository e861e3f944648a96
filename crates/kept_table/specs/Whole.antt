-- What a record keeps, and how contracts see it.
use Rattle.std.specs.Prelude.{◌≡◌, ◌<◌, ℕ, Bool, true, false, List, length, sum, slice_index, if◌then◌else◌, ◌==◌, Option, None, Some, []}
use Rattle.pid_types.specs.Settings.{Settings}
use Rattle.pid_types.specs.State.{State}
use Rattle.kept_past.specs.Past.{Past, Waiting, moves_or, opening_of}
use Rattle.kept_table.specs.Chronicle.{Chronicle, IsKept, Memory, first_kept_stamp, recorded}

-- one where both are the same worker
abbrev pub one_of : ℕ → ℕ → ℕ
one_of worker w = if worker == w then 1 else 0

-- room for entries counts only beside a state that is held, since the first entry needs one
abbrev pub room_of : Option State → ℕ → ℕ
room_of None room = 0
room_of (Some held) room = room

-- that room, and what waits
abbrev pub memory_of : Option State → ℕ → Waiting → Memory
memory_of held room waits = record { room = room_of held room; waits = waits }

-- whether the root init's state is the opening until something is cut away: nothing was, and the record goes on from no saved table
abbrev pub is_fresh : Bool → ℕ → Bool
is_fresh true first_kept = false
is_fresh false first_kept = first_kept == 0

-- the record, by what is kept of it: its past, and a count of calls for each worker
abbrev pub told : Settings → Bool → Past → ℕ → List ℕ → State → List ℕ → Chronicle
told config is_resumed past first_kept cut present calls = record {
  config = config;
  is_resumed = is_resumed;
  opening = opening_of past.opening present;
  first_kept = first_kept;
  cut = cut;
  entries = past.entries;
  present = present;
  booked = sum calls;
  memory = memory_of past.opening past.room past.waits;
  by_steps = moves_or past.opening past.is_fixed (is_fresh is_resumed first_kept);
}

-- what is kept, and for each worker the count of its calls
pub record IsKeptCounted (calls : List ℕ) (c : Chronicle) : Type 0 where
  pub kept : IsKept (length c.cut) c
  pub len : length calls ≡ length c.cut
  pub each : (worker : ℕ) → worker < length c.cut → slice_index calls worker ≡ recorded c worker

-- and where no state is held the history is empty; the first kept entry has its stamp
pub record IsKeptWhole (past : Past) (calls : List ℕ) (c : Chronicle) : Type 0 where
  pub counted : IsKeptCounted calls c
  pub bare : past.opening ≡ None → c.entries ≡ []
  pub at : past.stamp ≡ first_kept_stamp c
