-- Which group setpgid(2) puts a task into, or why none: the model's words, told by keys.
use Rattle.std.specs.Prelude.{ℕ, ℤ, pos, negsuc, Bool, ◌==◌, ◌&&◌, ◌||◌, not, List, Option, Some, None, Result, Err, option_map, ok_or, find, filter_map, if◌then◌else◌}
use Rattle.std.specs.Option.{option_map_or, option_eq}
use Rattle.pid_types.specs.declared.reply.Refusal.{Refusal}
use Rattle.pid_types.specs.declared.reply.Refusal.TheVariants.{BadGroup, NoTask, OtherSession, Executed, IsLeader, NoGroup}
use Rattle.pid_types.specs.Groups.{is_negative}
use Rattle.pid_numbers.specs.Numbering.{Numbering, number_of}
use Rattle.groups_sessions.specs.declared.ask.GroupAsk.{GroupAsk}
use Rattle.groups_sessions.specs.declared.ask.Target.{Target}
use Rattle.groups_sessions.specs.Membership.{Membership}

-- whether the identifier has the number in the namespace
abbrev pub has_number : Numbering → ℕ → ℕ → ℕ → Bool
has_number numbers ident space n = option_eq ◌==◌ (number_of numbers ident space) (Some n)

-- the group with the number in the namespace, if some task of the session is in it
unfoldable pub session_group_key : List (Option Membership) → Numbering → ℕ → ℕ → ℕ → Option ℕ
session_group_key members numbers session space n =
    option_map (λ m. m.group) (find (λ m. (m.session == session) && has_number numbers m.group space n) (filter_map (λ o. o) members))

-- the group that the number names for the target: 0 and the target's own number are its own identifier
abbrev pub group_key_for : List (Option Membership) → Numbering → GroupAsk → Target → ℤ → Option ℕ
group_key_for members numbers ask target (pos n) =
    if (n == 0) || has_number numbers target.ident ask.space n then Some target.ident
    else session_group_key members numbers ask.session ask.space n
group_key_for members numbers ask target (negsuc n) = None

-- the refusal where the test holds, else the other one
abbrev pub refusal_if : Bool → Refusal → Option Refusal → Option Refusal
refusal_if test refusal next = if test then Some refusal else next

-- the first refusal of setpgid(2) that comes from the target: EPERM for a child in another session, EACCES for one that executed,
-- ESRCH for who is neither the caller nor its child, EPERM for a session leader
abbrev pub target_refusal : GroupAsk → Target → Option Refusal
target_refusal ask target =
    refusal_if (target.is_child && not (target.session == ask.session)) OtherSession
    (refusal_if (target.is_child && target.executed) Executed
    (refusal_if (not (target.is_child || (target.ident == ask.caller))) NoTask
    (refusal_if (target.session == target.ident) IsLeader
    None)))

-- the group for the target, or the refusal: at last EPERM for a group that is not there
abbrev pub answer_for : List (Option Membership) → Numbering → GroupAsk → Target → Result ℕ Refusal
answer_for members numbers ask target =
    option_map_or Err (target_refusal ask target) (ok_or (group_key_for members numbers ask target ask.pgid) NoGroup)

-- the same from the start: EINVAL for a negative group, ESRCH where nobody is the target
abbrev pub setpgid_answer : List (Option Membership) → Numbering → GroupAsk → Result ℕ Refusal
setpgid_answer members numbers ask =
    if is_negative ask.pgid then Err BadGroup else option_map_or (answer_for members numbers ask) ask.target (Err NoTask)
