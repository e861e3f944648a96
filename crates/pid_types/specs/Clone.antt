-- A new thread: clone(2) with CLONE_THREAD.
use Rattle.std.specs.Prelude.{ℕ, not, ◌==◌, List}
use Rattle.pid_types.specs.declared.plain.Row.{Row}
use Rattle.pid_types.specs.declared.reply.Reply.TheVariants.{Forked}
use Rattle.pid_types.specs.declared.reply.Refusal.TheVariants.{Elsewhere}
use Rattle.pid_types.specs.declared.plain.Thread.{Thread}
use Rattle.pid_types.specs.State.{State}
use Rattle.pid_types.specs.Names.{path_up, root_number, number_or_zero}
use Rattle.pid_types.specs.Outcome.{Outcome, changed, refuse_if, unless_found, by_thread}
use Rattle.pid_types.specs.Fork.{insert_by, new_name, with_cursors, no_room}

-- the threads with one more, which stands by its root number
abbrev pub insert_thread : Thread → List Thread → List Thread
insert_thread new threads = insert_by (λ t. root_number t.name) new threads

-- the caller's new thread: it is in the caller's namespace, where its children go, and in its control group
abbrev pub thread_of : State → Row → Thread
thread_of state caller = record {
  name = new_name state caller.name.space;
  process = caller.name;
  home = caller.home;
  children_space = caller.name.space;
}

-- the state with the thread, whose numbers were drawn along the path
abbrev pub with_thread : State → Thread → List ℕ → State
with_thread state new path = record state { threads = insert_thread new state.threads; spaces = with_cursors state path }

-- the outcome with the caller's new thread
abbrev pub threaded : State → Row → Outcome
threaded state caller =
    let new = thread_of state caller in
    changed (with_thread state new (path_up state.spaces caller.name.space))
    (Forked (number_or_zero state.spaces new.name caller.name.space) (root_number new.name))

-- one more thread of the process: clone(2), EINVAL where the caller's children go into another namespace than its own
unfoldable pub thread : State → ℕ → Outcome
thread state n =
    by_thread state n (λ caller.
    refuse_if state (not (caller.children_space == caller.name.space)) Elsewhere
    (unless_found state (no_room state caller caller.name.space) (λ r. r) (threaded state caller)))
