-- The outcome of a wait that reaps a child.
use Rattle.std.proofs.Common.{◌≡◌, ℕ, ◌==◌, false, length, Some, refl}
use Rattle.pid_types.specs.declared.call.Which.{Which}
use Rattle.pid_types.specs.declared.plain.Row.{Row}
use Rattle.pid_types.specs.declared.reply.Reply.TheVariants.{Reaped}
use Rattle.pid_types.specs.State.{State}
use Rattle.pid_types.specs.Names.{number_or_zero}
use Rattle.pid_types.specs.Threads.{caller_of}
use Rattle.pid_types.specs.Outcome.{changed}
use Rattle.pid_types.specs.Wait.{matching, ended_children, least_row, end_of, without_row, wait}

pub wait-reaps : (state : State) (n : ℕ) (which : Which) (caller row : Row) → caller_of state n ≡ Some caller → (length (matching state caller which) == 0) ≡ false
    → least_row state caller.name.space (ended_children state caller which) ≡ Some row
    → wait state n which ≡ changed (without_row state row) (Reaped (number_or_zero state.spaces row.name caller.name.space) (end_of row))
unfolding wait
wait-reaps state n which caller row found some least = rw (found, some, least) refl
