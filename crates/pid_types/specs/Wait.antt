-- Wait: waitpid(2) with WNOHANG.
use Rattle.std.specs.Prelude.{ℕ, Bool, true, ◌&&◌, not, ◌==◌, nat_lt, List, [], ◌∷◌, Option, Some, None, if◌then◌else◌, filter, length}
use Rattle.std.specs.Option.{option_map_or}
use Rattle.pid_types.specs.declared.call.Which.{Which}
use Rattle.pid_types.specs.declared.call.Which.TheVariants.{Any, Pid, OwnGroup, Group}
use Rattle.pid_types.specs.declared.plain.Row.{Row}
use Rattle.pid_types.specs.declared.plain.Life.TheVariants.{Live, Zombie}
use Rattle.pid_types.specs.declared.plain.Ended.{Ended}
use Rattle.pid_types.specs.declared.plain.Ended.TheVariants.{Killed}
use Rattle.pid_types.specs.declared.reply.Reply.TheVariants.{Reaped, NoneYet}
use Rattle.pid_types.specs.declared.reply.Refusal.TheVariants.{NoChild}
use Rattle.pid_types.specs.State.{State}
use Rattle.pid_types.specs.Names.{number_or_zero, is_numbered, same_name, is_parent, is_live}
use Rattle.pid_types.specs.Outcome.{Outcome, answered, changed, refuse_if, by_caller}

-- whether the caller's wait selects the child
abbrev pub is_selected : State → Row → Which → Row → Bool
is_selected state caller Any row = true
is_selected state caller (Pid n) row = is_numbered state.spaces row.name caller.name.space n
is_selected state caller OwnGroup row = same_name row.group caller.group
is_selected state caller (Group n) row = is_numbered state.spaces row.group caller.name.space n

-- the caller's children that its wait selects
unfoldable pub matching : State → Row → Which → List Row
matching state caller which = filter (λ row. is_parent caller.name row && is_selected state caller which row) state.rows

-- the row with the least number in the namespace
abbrev pub least_row : State → ℕ → List Row → Option Row
least_row state s [] = None
least_row state s (row ∷ rows) =
    Some (option_map_or (λ other.
    if nat_lt (number_or_zero state.spaces other.name s) (number_or_zero state.spaces row.name s) then other else row)
    (least_row state s rows) row)

-- how a task ended
abbrev pub end_of : Row → Ended
end_of row = elim row.life [ Live ↦ Killed | Zombie ended ↦ ended ]

-- the state without the row
unfoldable pub without_row : State → Row → State
without_row state gone = record state { rows = filter (λ row. not (same_name row.name gone.name)) state.rows }

-- the selected children that have ended
abbrev pub ended_children : State → Row → Which → List Row
ended_children state caller which = filter (λ row. not (is_live row)) (matching state caller which)

-- of the selected children that have ended, the one with the least number is reaped: waitpid(2), WNOHANG
unfoldable pub wait : State → ℕ → Which → Outcome
wait state n which =
    by_caller state n (λ caller.
    refuse_if state (length (matching state caller which) == 0) NoChild
    (option_map_or (λ row. changed (without_row state row) (Reaped (number_or_zero state.spaces row.name caller.name.space) (end_of row)))
    (least_row state caller.name.space (ended_children state caller which))
    (answered state NoneYet)))
