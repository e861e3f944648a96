-- Forks that raise no count above its limit.
use Rattle.std.specs.Prelude.{◌≡◌, ℕ, ◌≤◌, List, Some}
use Rattle.pid_types.specs.declared.plain.Row.{Row}
use Rattle.pid_types.specs.declared.plain.Control.{Control}
use Rattle.pid_types.specs.declared.entry.Entry.{Entry}
use Rattle.pid_types.specs.declared.reply.Reply.{Reply}
use Rattle.pid_types.specs.declared.reply.Reply.TheVariants.{Forked}
use Rattle.pid_types.specs.Membership.{IsIn}
use Rattle.pid_types.specs.State.{State}
use Rattle.pid_types.specs.Names.{row_at}
use Rattle.pid_types.specs.Controls.{control_path, count}
use Rattle.pid_types.specs.Step.{step}
use Rattle.pid_types.specs.Replay.{Along}

-- no control group from the home to the root has more tasks than its limit: pids.max of the kernel's cgroup-v2 document
abbrev pub IsWithinLimits : State → ℕ → Type 0
IsWithinLimits state home =
    (c : Control) → IsIn c state.controls → IsIn c.id (control_path state.controls home) → (limit : ℕ) → c.limit ≡ Some limit
    → count state c.id ≤ limit

-- the new task that the reply tells of is there, and within the limits
abbrev pub ForkedWithinLimits : State → Reply → Type 0
ForkedWithinLimits state (Forked child root) = (row : Row) × (row_at state.rows root ≡ Some row) × IsWithinLimits state row.home
ForkedWithinLimits state _ = Unit {0}

-- the entry's call, if it is a fork that was made, raised no count above its limit
abbrev pub StaysWithinLimits : State → ℕ → Entry → Type 0
StaysWithinLimits state stamp e = ForkedWithinLimits (step state stamp e.call).state (step state stamp e.call).reply

-- no fork of the run raised a count above its limit
abbrev pub ForksStayWithinLimits : State → ℕ → List Entry → Type 0
ForksStayWithinLimits state stamp entries = Along StaysWithinLimits state stamp entries
