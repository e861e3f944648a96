-- The end of one thread.
use Rattle.std.specs.Prelude.{ℕ, not, ◌==◌, if◌then◌else◌, filter}
use Rattle.std.specs.Option.{option_map_or}
use Rattle.pid_types.specs.declared.plain.Row.{Row}
use Rattle.pid_types.specs.declared.reply.Reply.TheVariants.{Done}
use Rattle.pid_types.specs.State.{State}
use Rattle.pid_types.specs.Names.{root_number}
use Rattle.pid_types.specs.Threads.{thread_at, running}
use Rattle.pid_types.specs.Outcome.{Outcome, changed, by_caller}
use Rattle.pid_types.specs.Fork.{insert_by}
use Rattle.pid_types.specs.Exit.{ends}

-- the state without the thread
unfoldable pub without_thread : State → ℕ → State
without_thread state n = record state { threads = filter (λ t. not (root_number t.name == n)) state.threads }

-- the state without the first thread of the process, whose number stays taken
unfoldable pub without_first : State → Row → State
without_first state process = record state { left = insert_by root_number process.name state.left }

-- the state without the calling thread
abbrev pub without_caller : State → ℕ → Row → State
without_caller state n caller = option_map_or (λ t. without_thread state n) (thread_at state n) (without_first state caller)

-- the end of the calling thread, and of its process if no other thread runs: _exit(2) as the system call, which "terminates only the
-- calling thread"
unfoldable pub leave : State → ℕ → ℕ → Outcome
leave state n status =
    by_caller state n (λ caller.
    if running state caller == 1 then ends state status caller else changed (without_caller state n caller) Done)
