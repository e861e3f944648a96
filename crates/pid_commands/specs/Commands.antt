-- What each command comes to: what it read, what it wrote, and how it ended.
use Rattle.std.specs.Prelude.{ℕ, ◌≡◌, ◌⊎◌, List, ◌∷◌, ◌++◌, Bool, length, Option, Result, Ok, Err, String, string_bytes, Vec}
use Rattle.std.specs.declared.alloc.Global.{Global}
use Rattle.std.specs.Io.KnownBytes.{Appends}
use Rattle.std.specs.List.{AllZip}
use Rattle.pid_types.specs.Settings.{Settings}
use Rattle.pid_types.specs.State.{State}
use Rattle.pid_types.specs.Step.{may_grow}
use Rattle.pid_types.specs.declared.call.Call.{Call}
use Rattle.pid_types.specs.declared.reply.Reply.{Reply}
use Rattle.script_session.specs.Job.{MeetsFault, Yields}
use Rattle.pid_script.specs.Script.{with_newline}
use Rattle.pid_workers.specs.Audits.{TellsAudit}
use Rattle.script_session.specs.Progress.{HasStopped, start_of}
use Rattle.script_session.specs.Session.{ended_at, Finishes, Leaves}
use Rattle.script_session.specs.declared.job.JobFault.{JobFault}
use Rattle.script_session.specs.declared.tally.RunScriptFault.{RunScriptFault}
use Rattle.script_session.specs.declared.tally.RunScriptFault.TheVariants as script
use Rattle.script_session.specs.declared.tally.Tally.{Tally}
use Rattle.worker_jobs.specs.declared.fault.RunFault.{RunFault}
use Rattle.pid_commands.specs.declared.asked.Command.{Command}
use Rattle.pid_commands.specs.declared.asked.Command.TheVariants as command
use Rattle.pid_commands.specs.declared.asked.WordsFault.{WordsFault}
use Rattle.pid_commands.specs.declared.asked.WordsFault.TheVariants as words
use Rattle.pid_commands.specs.declared.fault.Fault.{Fault}
use Rattle.pid_commands.specs.declared.fault.Fault.TheVariants.{NoMemory, Unreadable, Write}
use Rattle.pid_commands.specs.declared.status.Status.{Status}
use Rattle.pid_commands.specs.declared.status.Status.TheVariants.{Done, Failed, Misused}
use Rattle.pid_commands.specs.Faults.{of_script, of_job, of_run, fault_line, usage_line}
use Rattle.pid_commands.specs.Output.{ListsScript, FailsToList, ShowsRun}

-- what a command reads from and writes to, before and afterwards: the bytes that are still to be read, and whether a read has failed; the
-- bytes that were written, and whether a write has failed, or has taken nothing
pub record Streams : Type 0 where
  pub from : Option (List ℕ)
  pub to : Option (List ℕ)
  pub unread : Bool
  pub before : Option (List ℕ)
  pub after : Option (List ℕ)
  pub failed : Bool
  pub full : Bool

abbrev pub streams : Option (List ℕ) → Option (List ℕ) → Bool → Option (List ℕ) → Option (List ℕ) → Bool → Bool → Streams
streams from to unread before after failed full =
    record { from = from; to = to; unread = unread; before = before; after = after; failed = failed; full = full }

-- the source is at its end, and what was written is the meaning of its script
pub record RunsScript (settings : Settings) (s : Streams) : Type 0 where
  pub present : State
  pub stamp : ℕ
  pub tally : Tally
  pub text : List ℕ
  pub calls : List (Call × Reply)
  pub finished :
      Finishes may_grow (start_of settings) (ended_at present stamp tally text calls) s.from s.to s.before s.after

-- the script stopped short of its end, after at most so many reads; the writer is the reason only where it takes no more
pub record FailsToRun (turns : ℕ) (settings : Settings) (s : Streams) (fault : Fault) : Type 0 where
  pub cause : RunScriptFault
  pub is : fault ≡ of_script cause
  pub leaves : Leaves may_grow turns (start_of settings) s.from s.to s.before s.after s.unread cause
  pub stopped : cause ≡ script.Write → HasStopped s.failed s.full

-- the list of the table that the script leaves was written, once
abbrev pub WritesList : Settings → Streams → Type 0
WritesList settings s = (list : List ℕ) × ListsScript settings s.from s.to list × Appends s.before s.after list

-- it could not be written, since the writer takes no more
abbrev pub CannotWrite : Streams → Fault → Type 0
CannotWrite s fault = (fault ≡ Write) × HasStopped s.failed s.full

-- there was no list, and nothing was written; or it could not be written
abbrev pub FailsToWriteList : ℕ → Settings → Streams → Fault → Type 0
FailsToWriteList turns settings s fault =
    (FailsToList turns settings s.from s.to s.unread fault × (s.after ≡ s.before))
    ⊎ (CannotWrite s fault × ((list : List ℕ) × ListsScript settings s.from s.to list))

-- some file has these bytes, as far as they are known
abbrev pub IsSomeFile : {F : Type 0} → (F → Option (List ℕ)) → Option (List ℕ) → Type 0
IsSomeFile {F} remaining bytes = (file : F) × (remaining file ≡ bytes)

-- what the name opened held the job
abbrev pub IsReadFrom : (List ℕ → Option (List ℕ) → Type 0) → String Global → Vec Call Global → Type 0
IsReadFrom holds name job = (from to : Option (List ℕ)) × holds (string_bytes name) from × Yields from to job.items

-- there is a job for each name, in their order, and what the name opened held it
pub record AreRead (holds : List ℕ → Option (List ℕ) → Type 0) (names : List (String Global)) (jobs : List (Vec Call Global)) : Type 0 where
  pub many : length jobs ≡ length names
  pub each : AllZip (IsReadFrom holds) names jobs

-- the file of the name cannot be opened, or the fault is the first that is met in what the name opened
abbrev pub FailsToReadFile : (List ℕ → Option (List ℕ) → Type 0) → String Global → Fault → Type 0
FailsToReadFile holds name fault =
    (fault ≡ Unreadable name)
    ⊎ ((cause : JobFault) × (fault ≡ of_job name cause) × (from to : Option (List ℕ)) × (failed : Bool) × holds (string_bytes name) from
    × MeetsFault from to failed cause)

-- the fault is that of one of the files, and all before it were read
pub record FailsInFile (holds : List ℕ → Option (List ℕ) → Type 0) (names : List (String Global)) (fault : Fault) : Type 0 where
  pub before : List (String Global)
  pub name : String Global
  pub after : List (String Global)
  pub jobs : List (Vec Call Global)
  pub cut : names ≡ before ++ name ∷ after
  pub read : AllZip (IsReadFrom holds) before jobs
  pub fails : FailsToReadFile holds name fault

-- there was no memory for the jobs, or the first fault was met in one of the files
abbrev pub FailsToRead : (List ℕ → Option (List ℕ) → Type 0) → List (String Global) → Fault → Type 0
FailsToRead holds names fault = (fault ≡ NoMemory) ⊎ FailsInFile holds names fault

-- the jobs were read, and the text is what their workers had and the list of the table that they left
abbrev pub RunsFiles : (List ℕ → Option (List ℕ) → Type 0) → Settings → List (String Global) → List ℕ → Type 0
RunsFiles holds settings names text = (jobs : List (Vec Call Global)) × AreRead holds names jobs × ShowsRun settings jobs text

-- that text was written, once
abbrev pub WritesRun : (List ℕ → Option (List ℕ) → Type 0) → Settings → List (String Global) → Streams → Type 0
WritesRun holds settings names s = (text : List ℕ) × RunsFiles holds settings names text × Appends s.before s.after text

-- the jobs were read, and their workers met a fault: an audit only where what came of the jobs is at odds with the record
abbrev pub FailsToServe : (List ℕ → Option (List ℕ) → Type 0) → Settings → List (String Global) → Fault → Type 0
FailsToServe holds settings names fault =
    (jobs : List (Vec Call Global)) × AreRead holds names jobs
    × ((cause : RunFault) × (fault ≡ of_run cause) × TellsAudit settings jobs cause)

-- there was no such text, and nothing was written; or it could not be written
abbrev pub FailsToWriteRun : (List ℕ → Option (List ℕ) → Type 0) → Settings → List (String Global) → Streams → Fault → Type 0
FailsToWriteRun holds settings names s fault =
    ((FailsToRead holds names fault ⊎ FailsToServe holds settings names fault) × (s.after ≡ s.before))
    ⊎ (CannotWrite s fault × ((text : List ℕ) × RunsFiles holds settings names text))

-- the command did what it is for
abbrev pub Does : (List ℕ → Option (List ℕ) → Type 0) → Command → Streams → Type 0
Does holds (command.Run settings) s = RunsScript settings s
Does holds (command.List settings) s = WritesList settings s
Does holds (command.Work settings files) s = WritesRun holds settings files.names.items s

-- the command stopped with the fault
abbrev pub Stops : ℕ → (List ℕ → Option (List ℕ) → Type 0) → Command → Streams → Fault → Type 0
Stops turns holds (command.Run settings) s fault = FailsToRun turns settings s fault
Stops turns holds (command.List settings) s fault = FailsToWriteList turns settings s fault
Stops turns holds (command.Work settings files) s fault = FailsToWriteRun holds settings files.names.items s fault

-- why a run of words failed: there was no memory to read them, and nothing was written; or the command that they ask for stopped
abbrev pub FailsWords : ℕ → (List ℕ → Option (List ℕ) → Type 0) → Result Command WordsFault → Streams → Fault → Type 0
FailsWords turns holds answer s fault =
    ((answer ≡ Err words.NoMemory) × (fault ≡ NoMemory) × (s.after ≡ s.before))
    ⊎ ((asked : Command) × (answer ≡ Ok asked) × Stops turns holds asked s fault)

-- how words end that were read as this answer: the command is done, and nothing is said; or it failed, and the fault's line is said; or
-- the words are no command, nothing is written, and the usage line is said
abbrev pub Ends : ℕ → (List ℕ → Option (List ℕ) → Type 0) → Result Command WordsFault → Streams → Type 0 → (List ℕ → Type 0)
    → Status → Type 0
Ends turns holds answer s quiet says Done = (asked : Command) × (answer ≡ Ok asked) × Does holds asked s × quiet
Ends turns holds answer s quiet says Failed = (fault : Fault) × FailsWords turns holds answer s fault × says (fault_line fault)
Ends turns holds answer s quiet says Misused = (answer ≡ Err words.Usage) × (s.after ≡ s.before) × says usage_line

-- the line and its newline were written, or the writer takes no more
abbrev pub IsSaid : Option (List ℕ) → Option (List ℕ) → Bool → Bool → List ℕ → Type 0
IsSaid before after failed full line = Appends before after (with_newline line) ⊎ HasStopped failed full
