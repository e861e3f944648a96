-- The live tasks directly in a control group, by their numbers in a namespace.
use Rattle.std.specs.Prelude.{◌≡◌, ℕ, Bool, ◌==◌, ◌&&◌, ◌+◌, List, length, filter, filter_map, Some, None}
use Rattle.pid_types.specs.declared.plain.Control.{Control}
use Rattle.pid_types.specs.declared.plain.Row.{Row}
use Rattle.pid_types.specs.declared.reply.Reply.{Reply}
use Rattle.pid_types.specs.declared.reply.Reply.TheVariants.{Counted, Refused}
use Rattle.pid_types.specs.declared.reply.Refusal.TheVariants.{NoCaller, NoControl}
use Rattle.pid_types.specs.Controls.{control_at}
use Rattle.pid_types.specs.Names.{number, is_live, live_row}
use Rattle.pid_types.specs.State.{State}
use Rattle.translate.specs.declared.residents.ControlPage.{ControlPage}
use Rattle.translate.specs.Pages.{with_front, AreLeastFrom}

-- whether a live task is directly in the control group with the id
abbrev pub resides : ℕ → Row → Bool
resides control row = (row.home == control) && is_live row

-- the numbers that such tasks have in the caller's namespace, those that are visible there: cgroup.procs of the cgroup-v2 document
abbrev pub residents_seen : State → ℕ → Row → List ℕ
residents_seen state control caller =
    filter_map (λ row. number state.spaces row.name caller.name.space) (filter (resides control) state.rows)

-- the list for the caller, of at most one more than the room takes, is in the room as far as it takes it, and its length is told; or else
-- that nobody calls, or that there is no such control group
pub record TellsControlTasks (state : State) (asked : ControlPage) (old new : List ℕ) (reply : Reply) : Type 0 where
  pub nobody : live_row state.rows asked.caller ≡ None → (reply ≡ Refused NoCaller) × (new ≡ old)
  pub nowhere : (caller : Row) → live_row state.rows asked.caller ≡ Some caller → control_at state.controls asked.control ≡ None
      → (reply ≡ Refused NoControl) × (new ≡ old)
  pub listed : (caller : Row) → live_row state.rows asked.caller ≡ Some caller
      → (control : Control) → control_at state.controls asked.control ≡ Some control → (listed : List ℕ)
      × AreLeastFrom (residents_seen state asked.control caller) asked.from (length old + 1) listed
      × (reply ≡ Counted (length listed)) × (new ≡ with_front listed old)
