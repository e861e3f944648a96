-- The record, as contracts see it.
use Rattle.std.specs.Prelude.{◌≡◌, ℕ, ◌+◌, ◌^◌, ◌<◌, Bool, false, List, length, All, sum, count_by, ◌==◌, ◌-◌, slice_index, slice_get, nat_lt, zero, suc, Option, None, option_map, if◌then◌else◌}
use Rattle.pid_types.specs.declared.entry.Entry.{Entry}
use Rattle.pid_types.specs.declared.reply.Reply.{Reply}
use Rattle.pid_types.specs.Settings.{Settings}
use Rattle.pid_types.specs.State.{State, root_state}
use Rattle.pid_types.specs.Replay.{IsRun}
use Rattle.pid_types.specs.Sound.{IsSound, IsBelow}
use Rattle.kept_past.specs.Past.{Waiting}

-- what memory the history has beside its entries: for how many more there is room, and what was cut away and waits
pub record Memory : Type 0 where
  pub room : ℕ
  pub waits : Waiting

-- the configuration, whether it goes on from a saved table, the state before the kept entries, the ordinal of the first kept entry, how
-- many entries of each worker were cut away before it, the kept entries, the present state, how many calls were counted, and what memory
-- there is beside
pub record Chronicle : Type 0 where
  pub config : Settings
  pub is_resumed : Bool
  pub opening : State
  pub first_kept : ℕ
  pub cut : List ℕ
  pub entries : List Entry
  pub present : State
  pub booked : ℕ
  pub memory : Memory
  -- whether the opening moves on by calls, so that first entries are cut away: where it does not, all are cut at once
  pub by_steps : Bool

-- how many calls were recorded
abbrev pub total : Chronicle → ℕ
total c = c.first_kept + length c.entries

-- the stamp of the first kept entry
abbrev pub first_kept_stamp : Chronicle → ℕ
first_kept_stamp c = c.config.first_stamp + c.first_kept

-- the stamp of the next call
abbrev pub next_stamp : Chronicle → ℕ
next_stamp c = c.config.first_stamp + total c

-- how many of the entries are the worker's
abbrev pub by_worker : ℕ → List Entry → ℕ
by_worker worker entries = count_by (λ (e : Entry). e.worker == worker) entries

-- how many calls of the worker were recorded: those that were cut away, and those that are kept
abbrev pub recorded : Chronicle → ℕ → ℕ
recorded c worker = slice_index c.cut worker + by_worker worker c.entries

-- f of each number below n, added up
abbrev pub sum_to : ℕ → (ℕ → ℕ) → ℕ
sum_to zero f = 0
sum_to (suc n) f = sum_to n f + f n

-- the recorded calls of all workers
abbrev pub recorded_by_all : ℕ → Chronicle → ℕ
recorded_by_all workers c = sum_to workers (recorded c)

-- the kept entry with the ordinal
abbrev pub kept_entry : Chronicle → ℕ → Option Entry
kept_entry c ordinal = if nat_lt ordinal c.first_kept then None else slice_get c.entries (ordinal - c.first_kept)

-- the reply of the last kept entry
abbrev pub last_reply : Chronicle → Option Reply
last_reply c = option_map (λ (e : Entry). e.reply) (slice_get c.entries (length c.entries - 1))

-- the history replays, reply for reply, as one thread's, from the opening to the present state
pub record IsReplayed (c : Chronicle) : Type 0 where
  pub run : IsRun c.opening (first_kept_stamp c) c.entries c.present
  -- where it goes on from no saved table: until a checkpoint, the opening is the state with the root init alone
  pub starts : c.is_resumed ≡ false → c.first_kept ≡ 0 → c.opening ≡ root_state c.config.pid_max

-- each recorded call is counted, and for its worker
pub record IsCounted (workers : ℕ) (c : Chronicle) : Type 0 where
  pub booked : c.booked ≡ total c
  pub places : length c.cut ≡ workers
  pub cut : sum c.cut ≡ c.first_kept
  pub known : All (λ (e : Entry). e.worker < workers) c.entries
  pub fits : next_stamp c < 2 ^ 64

-- the opening is sound and has the configuration's bound, and the ids in it are below the stamps of the kept calls
pub record IsSoundlyOpened (c : Chronicle) : Type 0 where
  pub sound : IsSound c.opening
  pub below : IsBelow (first_kept_stamp c) c.opening
  pub bound : c.opening.pid_max ≡ c.config.pid_max

-- what the type keeps
pub record IsKept (workers : ℕ) (c : Chronicle) : Type 0 where
  pub replayed : IsReplayed c
  pub counted : IsCounted workers c
  pub opened : IsSoundlyOpened c
