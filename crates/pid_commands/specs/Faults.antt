-- What a command says of the faults of what it runs.
use Rattle.std.specs.Prelude.{ℕ, List, ◌++◌, codes, decimal, String, string_bytes}
use Rattle.std.specs.declared.alloc.Global.{Global}
use Rattle.pid_commands.specs.declared.fault.Fault.{Fault}
use Rattle.pid_commands.specs.declared.fault.Fault.TheVariants.{Unreadable, TooLong, BadLine, Read, Write, TooManyTurns, NoMemory, Start, Audit}
use Rattle.worker_jobs.specs.declared.fault.RunFault.{RunFault}
use Rattle.worker_jobs.specs.declared.fault.RunFault.TheVariants as run
use Rattle.script_session.specs.declared.job.JobFault.{JobFault}
use Rattle.script_session.specs.declared.job.JobFault.TheVariants as job
use Rattle.script_session.specs.declared.tally.RunScriptFault.{RunScriptFault}
use Rattle.script_session.specs.declared.tally.RunScriptFault.TheVariants as script

-- of a script
abbrev pub of_script : RunScriptFault → Fault
of_script script.NoMemory = NoMemory
of_script script.Read = Read
of_script script.Write = Write
of_script script.TooManyTurns = TooManyTurns

-- of a job file with the name
abbrev pub of_job : String Global → JobFault → Fault
of_job name job.Read = Unreadable name
of_job name job.TooLong = TooLong name
of_job name (job.BadLine line) = BadLine name line
of_job name job.NoMemory = NoMemory

-- of the workers
abbrev pub of_run : RunFault → Fault
of_run run.Start = Start
of_run run.NoMemory = NoMemory
of_run (run.Audit worker place) = Audit worker place

-- the line on standard error, without its newline
abbrev pub fault_line : Fault → List ℕ
fault_line (Unreadable file) = codes "pidtab: cannot read " ++ string_bytes file
fault_line (TooLong file) = codes "pidtab: " ++ string_bytes file ++ codes ": too long"
fault_line (BadLine file line) = codes "pidtab: " ++ string_bytes file ++ codes ": line " ++ decimal line ++ codes ": bad line"
fault_line Read = codes "pidtab: read fault"
fault_line Write = codes "pidtab: write fault"
fault_line TooManyTurns = codes "pidtab: too many turns"
fault_line NoMemory = codes "pidtab: no memory"
fault_line Start = codes "pidtab: cannot start a thread"
fault_line (Audit worker place) = codes "pidtab: audit " ++ decimal worker ++ codes " " ++ decimal place

-- the line that says how the program is called, without its newline
abbrev pub usage_line : List ℕ
usage_line = codes "pidtab: usage"
