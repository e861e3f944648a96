-- One read of a task as a namespace sees it.
use Rattle.std.specs.Prelude.{◌≡◌, ℕ, Bool, true, false, Some, Result, Ok, Err}
use Rattle.std.specs.Option.{option_map_or}
use Rattle.pid_types.specs.declared.plain.Life.{Life}
use Rattle.pid_types.specs.declared.plain.Life.TheVariants.{Live, Zombie}
use Rattle.pid_types.specs.declared.plain.Row.{Row}
use Rattle.pid_types.specs.declared.reply.Refusal.{Refusal}
use Rattle.pid_types.specs.declared.reply.Refusal.TheVariants.{NoTask, NoCaller}
use Rattle.pid_types.specs.Names.{number_or_zero, numbers_from, root_number, live_row}
use Rattle.pid_types.specs.Queries.{self_or_task}
use Rattle.pid_types.specs.Sight.{Glimpse, glimpse_of}
use Rattle.pid_types.specs.State.{State}
use Rattle.translate.specs.declared.stat.Stat.{Stat}

-- the parent's number in the namespace, 0 where there is none
abbrev pub seen_parent : State → ℕ → Row → ℕ
seen_parent state s row = option_map_or (λ parent. number_or_zero state.spaces parent s) row.parent 0

-- what is read of the task's row: its numbers are those that the namespace sees, all else is the row's own, and the root number too
abbrev pub stat_of : State → ℕ → Row → Stat
stat_of state s row = record {
  numbers = record { items = numbers_from state.spaces row.name s };
  root = root_number row.name;
  space = row.name.space;
  parent = seen_parent state s row;
  group = number_or_zero state.spaces row.group s;
  session = number_or_zero state.spaces row.session s;
  home = row.home;
  life = row.life;
  executed = row.executed;
  subreaper = row.subreaper;
}

-- the answer to the caller about the task with the number, where 0 is the caller: as getpgid(2) finds it
unfoldable pub stat_at : State → ℕ → ℕ → Result Stat Refusal
stat_at state n pid =
    option_map_or
    (λ caller. option_map_or (λ row. Ok (stat_of state caller.name.space row)) (self_or_task state caller pid) (Err NoTask))
    (live_row state.rows n) (Err NoCaller)

-- whether the task has not ended
abbrev pub still_lives : Life → Bool
still_lives Live = true
still_lives (Zombie ended) = false

-- what is seen of the task
abbrev pub glimpse_in : Stat → Glimpse
glimpse_in stat =
    record { numbers = stat.numbers.items; parent = stat.parent; group = stat.group; session = stat.session; live = still_lives stat.life }

-- this is what the caller's namespace sees of the task with the number
pub record IsSeen (state : State) (n pid : ℕ) (glimpse : Glimpse) : Type 0 where
  pub caller : Row
  pub row : Row
  pub by : live_row state.rows n ≡ Some caller
  pub there : self_or_task state caller pid ≡ Some row
  pub seen : glimpse ≡ glimpse_of state caller.name.space row
