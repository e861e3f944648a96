-- What the fall of a namespace does to each task.
use Rattle.std.specs.Prelude.{◌≡◌, ◌↔◌, ℕ, true, false, Some}
use Rattle.pid_types.specs.declared.call.Call.TheVariants.{Exit}
use Rattle.pid_types.specs.declared.plain.Name.{Name}
use Rattle.pid_types.specs.declared.plain.Row.{Row}
use Rattle.pid_types.specs.declared.plain.Space.{Space}
use Rattle.pid_types.specs.declared.plain.Life.TheVariants.{Zombie}
use Rattle.pid_types.specs.declared.plain.Ended.TheVariants.{Exited, Killed}
use Rattle.pid_types.specs.declared.reply.Reply.TheVariants.{Done}
use Rattle.pid_types.specs.Membership.{IsIn}
use Rattle.pid_types.specs.declared.plain.Thread.{Thread}
use Rattle.pid_types.specs.State.{State}
use Rattle.pid_types.specs.Names.{number, path_up, is_live}
use Rattle.pid_types.specs.Threads.{caller_of}
use Rattle.pid_types.specs.Exit.{is_init}
use Rattle.pid_types.specs.Step.{step}
use Rattle.pid_types.specs.Sound.{IsSound}

-- the name has a number in the namespace
abbrev pub HasNumberIn : State → ℕ → Name → Type 0
HasNumberIn state s name = (n : ℕ) × (number state.spaces name s ≡ Some n)

-- the task is visible in the namespace
abbrev pub IsMember : State → ℕ → Row → Type 0
IsMember state s row = HasNumberIn state s row.name

-- its parent is
abbrev pub HasMemberParent : State → ℕ → Row → Type 0
HasMemberParent state s row = (parent : Row) × IsIn parent state.rows × (row.parent ≡ Some parent.name) × IsMember state s parent

-- another member than the init
abbrev pub IsOtherMember : State → Row → Row → Type 0
IsOtherMember state init row = IsIn row state.rows × (row.name ≡ init.name → ⊥) × IsMember state init.name.space row

-- what becomes of each task and each namespace when the init ends with the status: pid_namespaces(7), "the kernel terminates all of
-- the processes in the namespace via a SIGKILL signal"
pub record HasFallen (state after : State) (init : Row) (status : ℕ) : Type 0 where
  -- the init itself is a zombie that its parent waits for
  pub itself : IsIn (record init { life = Zombie (Exited status) }) after.rows
  -- nobody outside changes
  pub outside : (row : Row) → IsIn row state.rows → (IsMember state init.name.space row → ⊥) → IsIn row after.rows
  -- another member whose parent is a member is gone
  pub gone : (row : Row) → IsOtherMember state init row → HasMemberParent state init.name.space row → (r : Row) → IsIn r after.rows
      → r.name ≡ row.name → ⊥
  -- one whose parent is outside is killed, if it lived
  pub killed : (row : Row) → IsOtherMember state init row → (HasMemberParent state init.name.space row → ⊥) → is_live row ≡ true
      → IsIn (record row { life = Zombie Killed }) after.rows
  -- and keeps its own end, if it had ended
  pub ended : (row : Row) → IsOtherMember state init row → (HasMemberParent state init.name.space row → ⊥) → is_live row ≡ false
      → IsIn row after.rows
  -- a thread is there after just if it was there before and is no member
  pub threads : (t : Thread) → IsIn t after.threads ↔ (IsIn t state.threads × (HasNumberIn state init.name.space t.name → ⊥))
  -- and so is the mark of a process whose first thread has left
  pub left : (process : Name) → IsIn process after.left ↔ (IsIn process state.left × (HasNumberIn state init.name.space process → ⊥))
  -- nobody comes
  pub nobody_new : (r : Row) → IsIn r after.rows → (row : Row) × IsIn row state.rows × (row.name ≡ r.name)
  -- the namespace has fallen, with all below it
  pub below : (s t : Space) → IsIn s state.spaces → IsIn init.name.space (path_up state.spaces s.id) → IsIn t after.spaces → t.id ≡ s.id
      → t.fallen ≡ true
  -- every other namespace that stood stands
  pub standing : (s : Space) → IsIn s state.spaces → (IsIn init.name.space (path_up state.spaces s.id) → ⊥) → s.fallen ≡ false
      → IsIn s after.spaces
  -- no control group changes
  pub controls : after.controls ≡ state.controls

-- the exit of a namespace's init lets the namespace fall
abbrev pub ExitOfInitFalls : Type 0
ExitOfInitFalls =
    (state : State) (stamp n status : ℕ) (init : Row)
    → IsSound state → caller_of state n ≡ Some init → is_init state init ≡ true → (step state stamp (Exit n status)).reply ≡ Done
    → HasFallen state (step state stamp (Exit n status)).state init status
