-- Which call is answered by a list.
use Rattle.std.specs.Prelude.{Bool, true, false}
use Rattle.pid_types.specs.declared.call.Call.{Call}
use Rattle.pid_types.specs.declared.call.Call.TheVariants.{NsPid}

-- whether the reply to the call may be a list of numbers: NSpid of proc_pid_status(5)
abbrev pub answers_list : Call → Bool
answers_list (NsPid caller target) = true
answers_list _ = false
