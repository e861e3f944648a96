-- Calls and replies as numbers.
use Rattle.std.specs.Prelude.{ℕ, Bool, true, false, List, ◌++◌, length, drop, replicate, Option, Some, None, option_map, nat_lt, if◌then◌else◌, ◌==◌}
use Rattle.pid_types.specs.declared.call.Call.{Call}
use Rattle.pid_types.specs.declared.call.Call.TheVariants.{Fork, GetPid, NsPid, Exec, Exit, Wait, GetPpid, SetPgid, SetSid, MakeControl, RemoveControl, SetLimit, Move, Count, GetPgid, GetSid, Next, Join, SetSubreaper}
use Rattle.pid_types.specs.declared.call.Which.{Which}
use Rattle.pid_types.specs.declared.call.Which.TheVariants.{Any, Pid, OwnGroup, Group}
use Rattle.pid_types.specs.declared.call.Kind.{Kind}
use Rattle.pid_types.specs.declared.call.Kind.TheVariants as kind
use Rattle.pid_types.specs.declared.plain.TheConstants.{LEVELS}
use Rattle.pid_types.specs.declared.plain.Ended.TheVariants.{Exited, Killed}
use Rattle.pid_types.specs.declared.reply.Refusal.{Refusal}
use Rattle.pid_types.specs.declared.reply.Refusal.TheVariants.{NoNumber, PidsLimit}
use Rattle.pid_types.specs.declared.reply.Reply.{Reply}
use Rattle.pid_types.specs.declared.reply.Reply.TheVariants.{Forked, Done, Number, Levels, Reaped, NoneYet, Counted, Control, End, Refused}
use Rattle.pid_types.specs.Refusals.{errno_entry, refusal_entry}
use Rattle.saved_form.specs.declared.numbers.CallNumbers.{CallNumbers}
use Rattle.saved_form.specs.declared.numbers.ReplyNumbers.{ReplyNumbers}

-- off or on
abbrev pub switch_of : ℕ → Option Bool
switch_of choice = if choice == 0 then Some false else (if choice == 1 then Some true else None)

-- the children that a wait selects
abbrev pub which_of : ℕ → ℕ → Option Which
which_of choice number =
    if choice == 0 then Some Any
    else (if choice == 1 then Some (Pid number)
    else (if choice == 2 then Some OwnGroup
    else (if choice == 3 then Some (Group number) else None)))

-- what a number is in use as
abbrev pub kind_of : ℕ → Option Kind
kind_of choice =
    if choice == 0 then Some kind.Task
    else (if choice == 1 then Some kind.Group
    else (if choice == 2 then Some kind.Session else None))

-- no limit, or this one
abbrev pub limit_of : ℕ → ℕ → Option (Option ℕ)
limit_of choice number = if choice == 0 then Some None else (if choice == 1 then Some (Some number) else None)

-- an exit status
abbrev pub status_of : ℕ → Option ℕ
status_of number = if nat_lt number 256 then Some number else None

-- the call from operation 14 on
unfoldable pub later_call_of : CallNumbers → Option Call
later_call_of n =
    if n.operation == 14 then Some (GetPgid n.caller n.number)
    else (if n.operation == 15 then Some (GetSid n.caller n.number)
    else (if n.operation == 16 then option_map (λ kind. Next n.caller kind n.number) (kind_of n.choice)
    else (if n.operation == 17 then Some (Join n.caller n.number)
    else (if n.operation == 18 then option_map (λ on. SetSubreaper n.caller on) (switch_of n.choice)
    else None))))

-- the call from operation 9 on
unfoldable pub control_call_of : CallNumbers → Option Call
control_call_of n =
    if n.operation == 9 then Some (MakeControl n.id)
    else (if n.operation == 10 then Some (RemoveControl n.id)
    else (if n.operation == 11 then option_map (λ limit. SetLimit n.id limit) (limit_of n.choice n.number)
    else (if n.operation == 12 then Some (Move n.caller n.id)
    else (if n.operation == 13 then Some (Count n.id)
    else later_call_of n))))

-- the call that the numbers say
unfoldable pub call_of : CallNumbers → Option Call
call_of n =
    if n.operation == 0 then option_map (λ new_space. Fork n.caller new_space) (switch_of n.choice)
    else (if n.operation == 1 then Some (GetPid n.caller)
    else (if n.operation == 2 then Some (NsPid n.caller n.number)
    else (if n.operation == 3 then Some (Exec n.caller)
    else (if n.operation == 4 then option_map (λ status. Exit n.caller status) (status_of n.number)
    else (if n.operation == 5 then option_map (λ which. Wait n.caller which) (which_of n.choice n.number)
    else (if n.operation == 6 then Some (GetPpid n.caller)
    else (if n.operation == 7 then Some (SetPgid n.caller n.pid n.pgid)
    else (if n.operation == 8 then Some (SetSid n.caller)
    else control_call_of n))))))))

-- a reply of the kind that tells nothing else
abbrev pub blank_reply : ℕ → ReplyNumbers
blank_reply kind = record { kind = kind; errno = 0; refusal = 0; count = 0; first = 0; second = 0; levels = replicate LEVELS 0 }

-- the numbers, and zeroes behind them
abbrev pub with_zeroes : List ℕ → List ℕ
with_zeroes numbers = numbers ++ drop (length numbers) (replicate LEVELS 0)

-- the reply with a task's numbers
abbrev pub levels_numbers : List ℕ → ReplyNumbers
levels_numbers numbers = record (blank_reply 3) { count = length numbers; levels = with_zeroes numbers }

-- the id of what refused the call
abbrev pub refused_by : Refusal → ℕ
refused_by (NoNumber space) = space
refused_by (PidsLimit control) = control
refused_by _ = 0

-- the error of a refusal, and 0 of any other reply: errno(3)
abbrev pub errno_of : Reply → ℕ
errno_of (Refused refusal) = (errno_entry (refusal_entry refusal).error).value
errno_of _ = 0

-- the error and the number of the refusal, and the id of what refused
abbrev pub refusal_numbers : Refusal → ReplyNumbers
refusal_numbers refusal =
    record (blank_reply 9) {
      errno = errno_of (Refused refusal);
      refusal = (refusal_entry refusal).number;
      first = refused_by refusal;
    }

-- the reply as numbers
unfoldable pub numbers_of : Reply → ReplyNumbers
numbers_of (Forked child root) = record (blank_reply 0) { first = child; second = root }
numbers_of Done = blank_reply 1
numbers_of (Number number) = record (blank_reply 2) { first = number }
numbers_of (Levels numbers) = levels_numbers numbers.items
numbers_of (Reaped child (Exited status)) = record (blank_reply 4) { first = child; second = status }
numbers_of (Reaped child Killed) = record (blank_reply 4) { first = child; second = 256 }
numbers_of NoneYet = blank_reply 5
numbers_of (Counted count) = record (blank_reply 6) { first = count }
numbers_of (Control id) = record (blank_reply 7) { first = id }
numbers_of End = blank_reply 8
numbers_of (Refused refusal) = refusal_numbers refusal

-- the number that a reply tells, 0 where none follows; what tells none leaves the one before
abbrev pub number_or : ℕ → Reply → ℕ
number_or before (Number number) = number
number_or before (Counted count) = count
number_or before End = 0
number_or before _ = before
