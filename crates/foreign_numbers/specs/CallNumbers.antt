-- A call as numbers.
use Rattle.std.specs.Prelude.{pos, ℕ, Bool, Option, Some, None, if◌then◌else◌}
use Rattle.pid_types.specs.declared.call.Call.{Call}
use Rattle.pid_types.specs.declared.call.Call.TheVariants.{Fork, GetPid, NsPid, Exec, Exit, Wait, GetPpid, SetPgid}
use Rattle.pid_types.specs.declared.call.Call.TheVariants.{SetSid, MakeControl, RemoveControl, SetLimit, Move, Count}
use Rattle.pid_types.specs.declared.call.Call.TheVariants.{GetPgid, GetSid, Next, Join, SetSubreaper}
use Rattle.pid_types.specs.declared.call.Which.{Which}
use Rattle.pid_types.specs.declared.call.Which.TheVariants.{Any, Pid, OwnGroup, Group}
use Rattle.pid_types.specs.declared.call.Kind.{Kind}
use Rattle.pid_types.specs.declared.call.Kind.TheVariants as kind
use Rattle.saved_form.specs.declared.numbers.CallNumbers.{CallNumbers}

-- a call of the operation that takes nothing
abbrev pub call_blank : ℕ → ℕ → CallNumbers
call_blank operation caller = record {
  operation = operation;
  caller = caller;
  id = 0;
  number = 0;
  choice = 0;
  pid = pos 0;
  pgid = pos 0;
}

-- a switch as a number
abbrev pub switch_number : Bool → ℕ
switch_number on = if on then 1 else 0

-- a wait's selection as numbers
abbrev pub wait_numbers : ℕ → Which → CallNumbers
wait_numbers caller Any = call_blank 5 caller
wait_numbers caller (Pid number) = record (call_blank 5 caller) { choice = 1; number = number }
wait_numbers caller OwnGroup = record (call_blank 5 caller) { choice = 2 }
wait_numbers caller (Group number) = record (call_blank 5 caller) { choice = 3; number = number }

-- a kind as a number
abbrev pub kind_number : Kind → ℕ
kind_number kind.Task = 0
kind_number kind.Group = 1
kind_number kind.Session = 2

-- a limit as numbers
abbrev pub limit_numbers : ℕ → Option ℕ → CallNumbers
limit_numbers id None = record (call_blank 11 0) { id = id }
limit_numbers id (Some number) = record (call_blank 11 0) { id = id; choice = 1; number = number }

-- the call as numbers
unfoldable pub call_numbers : Call → CallNumbers
call_numbers (Fork caller new_space) = record (call_blank 0 caller) { choice = switch_number new_space }
call_numbers (GetPid caller) = call_blank 1 caller
call_numbers (NsPid caller target) = record (call_blank 2 caller) { number = target }
call_numbers (Exec caller) = call_blank 3 caller
call_numbers (Exit caller status) = record (call_blank 4 caller) { number = status }
call_numbers (Wait caller which) = wait_numbers caller which
call_numbers (GetPpid caller) = call_blank 6 caller
call_numbers (SetPgid caller pid pgid) = record (call_blank 7 caller) { pid = pid; pgid = pgid }
call_numbers (SetSid caller) = call_blank 8 caller
call_numbers (MakeControl parent) = record (call_blank 9 0) { id = parent }
call_numbers (RemoveControl id) = record (call_blank 10 0) { id = id }
call_numbers (SetLimit id limit) = limit_numbers id limit
call_numbers (Move task id) = record (call_blank 12 task) { id = id }
call_numbers (Count id) = record (call_blank 13 0) { id = id }
call_numbers (GetPgid caller pid) = record (call_blank 14 caller) { number = pid }
call_numbers (GetSid caller pid) = record (call_blank 15 caller) { number = pid }
call_numbers (Next caller what from) = record (call_blank 16 caller) { choice = kind_number what; number = from }
call_numbers (Join caller target) = record (call_blank 17 caller) { number = target }
call_numbers (SetSubreaper caller on) = record (call_blank 18 caller) { choice = switch_number on }
