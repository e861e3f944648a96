-- No fork and no new thread raises a count above its limit.
use Rattle.std.specs.Prelude.{◌≡◌, ℕ, Bool, false, List, Some}
use Rattle.pid_types.specs.declared.call.Call.TheVariants.{Fork}
use Rattle.pid_types.specs.declared.entry.Entry.{Entry}
use Rattle.pid_types.specs.declared.plain.Row.{Row}
use Rattle.pid_types.specs.declared.reply.Reply.TheVariants.{Forked}
use Rattle.pid_types.specs.State.{State}
use Rattle.pid_types.specs.Threads.{caller_of, as_thread}
use Rattle.pid_types.specs.Controls.{control_path, count, is_limited_below}
use Rattle.pid_types.specs.Step.{step}
use Rattle.pid_types.specs.declared.call.ThreadCall.TheVariants.{NewThread}
use Rattle.pid_types.specs.ThreadStep.{thread_step}
use Rattle.pid_types.specs.Limits.{ForksStayWithinLimits}
use Rattle.pid_types.specs.Membership.{IsIn}
use Rattle.pid_types.specs.Sound.{IsSound, IsBelow}

-- after a fork no control group from the new task's home, which is the calling thread's, to the root has more tasks than its limit
abbrev pub ForkKeepsLimits : Type 0
ForkKeepsLimits =
    (state : State) (stamp n : ℕ) (new_space : Bool) (caller : Row) (child root : ℕ)
    → caller_of state n ≡ Some caller → (step state stamp (Fork n new_space)).reply ≡ Forked child root
    → let after = (step state stamp (Fork n new_space)).state in
    (c : ℕ) → IsIn c (control_path after.controls (as_thread state n caller).home) → is_limited_below after (count after c) c ≡ false

-- so it is after a new thread
abbrev pub ThreadKeepsLimits : Type 0
ThreadKeepsLimits =
    (state : State) (n : ℕ) (caller : Row) (thread root : ℕ)
    → caller_of state n ≡ Some caller → (thread_step state (NewThread n)).reply ≡ Forked thread root
    → let after = (thread_step state (NewThread n)).state in
    (c : ℕ) → IsIn c (control_path after.controls (as_thread state n caller).home) → is_limited_below after (count after c) c ≡ false

-- in every run from a sound opening each fork leaves the counts from the new task's home to the root within their limits
abbrev pub RunsKeepLimits : Type 0
RunsKeepLimits =
    (opening : State) (first : ℕ) (entries : List Entry) → IsSound opening → IsBelow first opening
    → ForksStayWithinLimits opening first entries
