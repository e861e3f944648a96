-- A reply, read from its numbers. What the kind does not tell is not looked at.
use Rattle.std.specs.Prelude.{ℕ, ◌==◌, ◌^◌, List, [], ◌∷◌, take, find, Option, Some, None, option_map, option_and_then, nat_lt, nat_le, if◌then◌else◌}
use Rattle.pid_types.specs.declared.plain.TheConstants.{LEVELS}
use Rattle.pid_types.specs.declared.plain.Ended.{Ended}
use Rattle.pid_types.specs.declared.plain.Ended.TheVariants.{Exited, Killed}
use Rattle.pid_types.specs.declared.reply.Refusal.{Refusal}
use Rattle.pid_types.specs.declared.reply.Refusal.TheVariants.{NoCaller, NoTask, NoChild, NoNumber, PidsLimit, SpaceFallen, TooDeep, Elsewhere, BadGroup, OtherSession, IsLeader, NoGroup, Executed, RootInit, NoControl, ControlBusy, RootControl, BadLimit, ControlDepth}
use Rattle.pid_types.specs.declared.reply.Reply.{Reply}
use Rattle.pid_types.specs.declared.reply.Reply.TheVariants.{Forked, Done, Number, Levels, Reaped, NoneYet, Counted, Control, End, Refused}
use Rattle.pid_types.specs.Refusals.{refusal_entry}
use Rattle.saved_form.specs.declared.numbers.ReplyNumbers.{ReplyNumbers}

-- a number of 32 bits
abbrev pub short_of : ℕ → Option ℕ
short_of number = if nat_lt number (2 ^ 32) then Some number else None

-- the new task's numbers
abbrev pub forked_of : ℕ → ℕ → Option Reply
forked_of first second = option_and_then (λ child. option_map (λ root. Forked child root) (short_of second)) (short_of first)

-- a task's numbers: no more than there are levels
abbrev pub levels_told : ReplyNumbers → Option Reply
levels_told n = if nat_le n.count LEVELS then Some (Levels (record { items = take n.count n.levels })) else None

-- how a child ended: by an exit, or killed
abbrev pub ended_of : ℕ → Option Ended
ended_of second = if nat_lt second 256 then Some (Exited second) else (if second == 256 then Some Killed else None)

-- the child that was reaped, and how it ended
abbrev pub reaped_of : ℕ → ℕ → Option Reply
reaped_of first second = option_and_then (λ child. option_map (λ ended. Reaped child ended) (ended_of second)) (short_of first)

-- all refusals; those that have an id have this one
abbrev pub refusals_of : ℕ → List Refusal
refusals_of id =
    NoCaller ∷ NoTask ∷ NoChild ∷ NoNumber id ∷ PidsLimit id ∷ SpaceFallen ∷ TooDeep ∷ Elsewhere ∷ BadGroup
    ∷ OtherSession ∷ IsLeader ∷ NoGroup ∷ Executed ∷ RootInit ∷ NoControl ∷ ControlBusy ∷ RootControl ∷ BadLimit
    ∷ ControlDepth ∷ []

-- the refusal with the number
abbrev pub refusal_of : ℕ → ℕ → Option Refusal
refusal_of number id = find (λ r. (refusal_entry r).number == number) (refusals_of id)

-- the reply that the numbers tell
unfoldable pub reply_in : ReplyNumbers → Option Reply
reply_in n =
    if n.kind == 0 then forked_of n.first n.second
    else (if n.kind == 1 then Some Done
    else (if n.kind == 2 then option_map (λ number. Number number) (short_of n.first)
    else (if n.kind == 3 then levels_told n
    else (if n.kind == 4 then reaped_of n.first n.second
    else (if n.kind == 5 then Some NoneYet
    else (if n.kind == 6 then Some (Counted n.first)
    else (if n.kind == 7 then Some (Control n.first)
    else (if n.kind == 8 then Some End
    else (if n.kind == 9 then option_map (λ refusal. Refused refusal) (refusal_of n.refusal n.first)
    else None)))))))))
