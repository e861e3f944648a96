-- What a table is opened with, and what is held then.
use Rattle.std.specs.Prelude.{◌<◌, ◌≤◌, ◌==◌, ℕ, if◌then◌else◌}
use Rattle.pid_types.specs.Settings.{HasGoodPidMax}
use Rattle.pid_types.specs.State.{root_state}
use Rattle.kept_table.specs.Calls.{begun}
use Rattle.foreign_handles.specs.declared.held.Held.{Held}
use Rattle.foreign_handles.specs.declared.held.Held.TheVariants.{Bare, Recorded}
use Rattle.foreign_calls.specs.declared.table.TableSettings.{TableSettings}

-- how many workers a table has at most that keeps so much of its history: one without any
abbrev pub most_workers : ℕ → ℕ
most_workers keep = if keep == 0 then 1 else 16

-- what a table can be opened with that has so many workers at most
pub record CanBegin (pid_max first_stamp workers most : ℕ) : Type 0 where
  pub bound : HasGoodPidMax pid_max
  pub stamp : 0 < first_stamp
  pub some : 0 < workers
  pub few : workers ≤ most

abbrev pub CanOpen : TableSettings → Type 0
CanOpen s = CanBegin s.pid_max s.first_stamp s.workers (most_workers s.keep)

-- the root init alone, no call of any worker, and no history where none is to be kept
abbrev pub opened : TableSettings → Held
opened s =
    if s.keep == 0 then Bare (record { state = root_state s.pid_max; stamp = s.first_stamp })
    else Recorded (begun (record { pid_max = s.pid_max; first_stamp = s.first_stamp }) s.workers 0)
