-- What a fork comes to.
use Rattle.std.specs.Prelude.{◌≡◌, ◌≢◌, ℕ, Bool, not, ◌==◌, nat_le, Option, Some, None, MatchOption, if◌then◌else◌, Result, OnOk, OnErr, IfOk}
use Rattle.std.specs.Option.{option_map_or}
use Rattle.pid_types.specs.declared.plain.Row.{Row}
use Rattle.pid_types.specs.declared.reply.Refusal.{Refusal}
use Rattle.pid_types.specs.declared.reply.Reply.{Reply}
use Rattle.pid_types.specs.declared.reply.Reply.TheVariants.{Forked, Refused}
use Rattle.pid_types.specs.declared.reply.Refusal.TheVariants.{TooDeep, Elsewhere, SpaceFallen}
use Rattle.pid_types.specs.Bounds.{deepest_space}
use Rattle.pid_types.specs.State.{State}
use Rattle.pid_types.specs.Names.{level}
use Rattle.pid_types.specs.Outcome.{Outcome, unless_found}
use Rattle.pid_types.specs.Fork.{forked, no_room, is_gone, with_space}
use Rattle.pid_numbers.specs.Numbering.{Numbering, id_at}
use Rattle.task_tree.specs.declared.Task.{Task}
use Rattle.task_table.specs.Store.{Store}
use Rattle.task_table.specs.View.{row_of, state_of}
use Rattle.pid_types.specs.declared.reply.ShortReply.{ShortReply}
use Rattle.pid_types.specs.Short.{reply_of}

-- the caller's child in a namespace of the planned state, or why there can be none
abbrev pub forked_into : State → State → Row → ℕ → Outcome
forked_into state planned caller t = unless_found state (no_room planned caller t) (λ r. r) (forked planned caller t)

-- the task's child in the namespace for its children
abbrev pub child_there : Store → ℕ → Task → Outcome
child_there s key task = forked_into (state_of s) (state_of s) (row_of s key task) task.children_space

-- the task's child in a new namespace below it, whose id is the stamp
abbrev pub child_below : Store → ℕ → Task → ℕ → Outcome
child_below s key task stamp =
    forked_into (state_of s) (with_space (state_of s) task.children_space stamp) (row_of s key task) stamp

-- the store is as the outcome leaves it, unless memory was wanting
abbrev pub LeavesOutcome : {A E : Type 0} → Result A E → Store → Outcome → Type 0
LeavesOutcome result s outcome = OnOk result (state_of s ≡ outcome.state)

-- where memory was wanting the state is as it was
abbrev pub StaysSame : {A E : Type 0} → Result A E → Store → Store → Type 0
StaysSame result old new = OnErr result (state_of new ≡ state_of old)

-- the reply is the outcome's, unless memory was wanting
abbrev pub Replies : {E : Type 0} → Result ShortReply E → Outcome → Type 0
Replies result outcome = IfOk result (λ reply. reply_of reply ≡ outcome.reply)

-- the reply to a fork whose child gets these numbers, in the caller's namespace and in the root, where the limits do not refuse it
abbrev pub planned_reply : Option Refusal → ℕ → ℕ → Reply
planned_reply None child root = Forked child root
planned_reply (Some refusal) child root = Refused refusal

-- why a caller whose own namespace is the second one can have no new namespace below the first: it has the deepest level, or is not
-- the caller's own
abbrev pub nest_refusal : State → ℕ → ℕ → Option Refusal
nest_refusal state space own =
    if nat_le deepest_space (level state.spaces space) then Some TooDeep else (if not (space == own) then Some Elsewhere else None)

-- why the caller can have no child in the namespace for its children, or in a new one below it
abbrev pub space_refusal : State → Row → Bool → Option Refusal
space_refusal state caller new_space =
    option_map_or Some (if new_space then nest_refusal state caller.children_space caller.name.space else None)
    (if is_gone state caller.children_space then Some SpaceFallen else None)

-- the key of the namespace with the id, if there is one
abbrev pub IsKeyOf : Numbering → ℕ → Option ℕ → Type 0
IsKeyOf b id key = MatchOption key ((s : ℕ) → id_at b s ≢ Some id) (λ s. id_at b s ≡ Some id)
