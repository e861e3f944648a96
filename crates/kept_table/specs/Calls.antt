-- What a record is at first, and what a call makes of it.
use Rattle.std.specs.Prelude.{◌≡◌, ◌⊎◌, ℕ, ◌+◌, ◌-◌, ◌<◌, ◌≤◌, ◌++◌, [], ◌∷◌, List, length, replicate, sum, true, false, min, nat_lt, if◌then◌else◌}
use Rattle.pid_types.specs.declared.call.Call.{Call}
use Rattle.pid_types.specs.declared.entry.Entry.{Entry}
use Rattle.pid_types.specs.Outcome.{Outcome}
use Rattle.pid_types.specs.Replay.{state_after, calls_of}
use Rattle.pid_types.specs.Settings.{Settings}
use Rattle.pid_types.specs.State.{State, root_state}
use Rattle.pid_types.specs.Step.{step}
use Rattle.kept_past.specs.Past.{IsCaughtUp, Waiting, nobody_waits, one_more}
use Rattle.kept_table.specs.Chronicle.{Chronicle, Memory, first_kept_stamp, next_stamp, recorded}

-- a record that was asked nothing: the root state, and no call of any worker
abbrev pub begun : Settings → ℕ → ℕ → Chronicle
begun config workers room = record {
  config = config;
  is_resumed = false;
  opening = root_state config.pid_max;
  first_kept = 0;
  cut = replicate workers 0;
  entries = [];
  present = root_state config.pid_max;
  booked = 0;
  memory = record { room = room; waits = nobody_waits };
  by_steps = true;
}

-- a record that goes on from a saved state: the next call has the stamp, and so many calls of each worker were recorded before
abbrev pub resumed : State → ℕ → List ℕ → ℕ → Chronicle
resumed state stamp counts room = record {
  config = record { pid_max = state.pid_max; first_stamp = stamp - sum counts };
  is_resumed = true;
  opening = state;
  first_kept = sum counts;
  cut = counts;
  entries = [];
  present = state;
  booked = sum counts;
  memory = record { room = room; waits = nobody_waits };
  by_steps = false;
}

-- the model's step for the next call
abbrev pub outcome : Chronicle → Call → Outcome
outcome c call = step c.present (next_stamp c) call

-- the entry of the next call
abbrev pub entry_of : Chronicle → ℕ → Call → Entry
entry_of c worker call = record { worker = worker; call = call; reply = (outcome c call).reply }

-- the record with these entries and this state, and one call more counted
abbrev pub counted : Chronicle → List Entry → State → Memory → Chronicle
counted c entries present memory = record c { entries = entries; present = present; booked = c.booked + 1; memory = memory }

-- where it does not matter what memory there is
abbrev pub nothing_spare : Memory
nothing_spare = record { room = 0; waits = nobody_waits }

-- what a recorded call leaves: the state after the model's step, and one entry more, with the model's reply
abbrev pub after_recorded : Chronicle → ℕ → Call → Chronicle
after_recorded c worker call = counted c (c.entries ++ entry_of c worker call ∷ []) (outcome c call).state nothing_spare

-- the record with the history cut away, so many calls being counted before it
abbrev pub cut_at : Chronicle → ℕ → List ℕ → Memory → Chronicle
cut_at c first cut memory = record c { opening = c.present; first_kept = first; cut = cut; entries = []; memory = memory }

-- how many of the first entries go where at most so many are to be kept: two at most, or all where the opening does not move on by calls
abbrev pub to_cut : Chronicle → ℕ → ℕ
to_cut c keep = if c.by_steps then min 2 (length c.entries - keep) else (if nat_lt keep (length c.entries) then length c.entries else 0)

-- the same of the first step of two
abbrev pub to_cut_once : Chronicle → ℕ → ℕ
to_cut_once c keep = if nat_lt keep (length c.entries) then (if c.by_steps then 1 else length c.entries) else 0

-- the record without its first n kept entries, whose calls lead to the new opening
pub record IsWithoutFirst (n : ℕ) (c d : Chronicle) : Type 0 where
  pub gone : List Entry
  pub many : length gone ≡ n
  pub were : c.entries ≡ gone ++ d.entries
  pub left : d ≡ record c {
    opening = state_after c.opening (first_kept_stamp c) (calls_of gone);
    first_kept = c.first_kept + n;
    cut = d.cut;
    entries = d.entries;
    memory = d.memory;
  }
  pub workers : length d.cut ≡ length c.cut
  pub counts : (worker : ℕ) → worker < length c.cut → recorded d worker ≡ recorded c worker

-- nothing changed but that there is room for more entries
pub record MakesRoom (c d : Chronicle) : Type 0 where
  pub same : d ≡ record c { memory = d.memory }
  pub room : c.memory.room ≤ d.memory.room
  pub waits : d.memory.waits ≡ c.memory.waits

-- no call waits, unless the first of them may find no memory
abbrev pub NoneWait : Waiting → Type 0
NoneWait waits = (waits.many ≡ 0) ⊎ (waits.may_starve ≡ true)

-- some of the calls that waited were made: fewer wait, or none, unless the first of them may find no memory
abbrev pub FewerWait : Waiting → Waiting → Type 0
FewerWait old new = (new.many < old.many) ⊎ NoneWait new

-- nothing was cut away; or one entry was, and its call waits, and three of those that wait are made; or all were, and none waits
abbrev pub WaitsByCut : Waiting → Waiting → Type 0
WaitsByCut old new = (new ≡ old) ⊎ IsCaughtUp 3 (one_more old) new ⊎ (new ≡ nobody_waits)
