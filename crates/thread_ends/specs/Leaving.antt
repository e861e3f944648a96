-- What the leave of a thread comes to while another thread of its process runs.
use Rattle.std.specs.Prelude.{◌≡◌, ℕ, ◌==◌, Bool, true, not, Option, Some, None, MatchOption}
use Rattle.pid_types.specs.declared.plain.Row.{Row}
use Rattle.pid_types.specs.declared.reply.ShortReply.{ShortReply}
use Rattle.pid_types.specs.Short.{reply_of}
use Rattle.pid_types.specs.Leave.{leave}
use Rattle.pid_types.specs.Threads.{caller_of, running}
use Rattle.task_table.specs.Store.{Store}
use Rattle.thread_view.specs.declared.Calling.{Calling}
use Rattle.thread_view.specs.Full.{full_state}
use Rattle.thread_view.specs.Calling.{IsCallingBy}

-- whether another thread of the process runs than the one that calls
abbrev pub TellsBeside : Store → Calling → Bool → Type 0
TellsBeside s calling beside =
    (n : ℕ) (row : Row) → IsCallingBy s n calling → caller_of (full_state s) n ≡ Some row
    → (running (full_state s) row == 1) ≡ not beside

-- the caller is its process's last thread that runs
abbrev pub IsLast : Store → ℕ → Type 0
IsLast s n = (row : Row) × (caller_of (full_state s) n ≡ Some row) × ((running (full_state s) row == 1) ≡ true)

-- the last thread has not left; else the reply and the new state are those of a leave, whatever its status is
abbrev pub LeavesBeside : Store → Store → ℕ → Option ShortReply → Type 0
LeavesBeside old new n reply =
    MatchOption reply ((new ≡ old) × IsLast old n)
    (λ r. (status : ℕ) → (full_state new ≡ (leave (full_state old) n status).state)
    × (reply_of r ≡ (leave (full_state old) n status).reply))
