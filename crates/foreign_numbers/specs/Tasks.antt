-- A task as numbers.
use Rattle.std.specs.Prelude.{ℕ, length, replicate, Result, Ok, Err}
use Rattle.pid_types.specs.declared.plain.TheConstants.{LEVELS}
use Rattle.pid_types.specs.declared.plain.Ended.TheVariants.{Exited, Killed}
use Rattle.pid_types.specs.declared.plain.Life.{Life}
use Rattle.pid_types.specs.declared.plain.Life.TheVariants.{Live, Zombie}
use Rattle.pid_types.specs.declared.reply.Refusal.{Refusal}
use Rattle.pid_types.specs.Refusals.{errno_entry, refusal_entry}
use Rattle.translate.specs.declared.stat.Stat.{Stat}
use Rattle.foreign_numbers.specs.declared.task.TaskNumbers.{TaskNumbers}
use Rattle.foreign_numbers.specs.CallNumbers.{switch_number}
use Rattle.foreign_numbers.specs.Numbers.{with_zeroes}

-- 0 while the task lives, 1 once it has ended
abbrev pub ended_number : Life → ℕ
ended_number Live = 0
ended_number (Zombie ended) = 1

-- the status that a wait tells of it: its own, 256 where it was killed, and 0 while it lives
abbrev pub status_number : Life → ℕ
status_number Live = 0
status_number (Zombie (Exited status)) = status
status_number (Zombie Killed) = 256

-- the task that was read
abbrev pub stat_numbers : Stat → TaskNumbers
stat_numbers stat = record {
  errno = 0;
  refusal = 0;
  count = length stat.numbers.items;
  parent = stat.parent;
  group = stat.group;
  session = stat.session;
  ended = ended_number stat.life;
  status = status_number stat.life;
  executed = switch_number stat.executed;
  subreaper = switch_number stat.subreaper;
  space = stat.space;
  control = stat.home;
  root = stat.root;
  levels = with_zeroes stat.numbers.items;
}

-- the error and the number of the refusal, and no task
abbrev pub no_stat_numbers : Refusal → TaskNumbers
no_stat_numbers refusal = record {
  errno = (errno_entry (refusal_entry refusal).error).value;
  refusal = (refusal_entry refusal).number;
  count = 0;
  parent = 0;
  group = 0;
  session = 0;
  ended = 0;
  status = 0;
  executed = 0;
  subreaper = 0;
  space = 0;
  control = 0;
  root = 0;
  levels = replicate LEVELS 0;
}

-- what is told of the task
abbrev pub task_numbers : Result Stat Refusal → TaskNumbers
task_numbers (Ok stat) = stat_numbers stat
task_numbers (Err refusal) = no_stat_numbers refusal
