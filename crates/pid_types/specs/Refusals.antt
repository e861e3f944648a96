-- The numbers, the errors and the words of refusals.
use Rattle.std.specs.Prelude.{ℕ, List, codes}
use Rattle.pid_types.specs.declared.refusal.Errno.{Errno}
use Rattle.pid_types.specs.declared.refusal.Errno.TheVariants.{Eperm, Enoent, Esrch, Echild, Eagain, Enomem, Eacces, Ebusy, Einval, Enospc}
use Rattle.pid_types.specs.declared.reply.Refusal.{Refusal}
use Rattle.pid_types.specs.declared.reply.Refusal.TheVariants.{NoCaller, NoTask, NoChild, NoNumber, PidsLimit, SpaceFallen, TooDeep, Elsewhere, BadGroup, OtherSession, IsLeader, NoGroup, Executed, RootInit, NoControl, ControlBusy, RootControl, BadLimit, ControlDepth}

-- an error of the kernel: its name, and its value on x86-64
pub record ErrnoEntry : Type 0 where
  pub name : List ℕ
  pub value : ℕ

-- the kernel's errors: errno(3)
abbrev pub errno_entry : Errno → ErrnoEntry
errno_entry Eperm = record { name = codes "EPERM"; value = 1 }
errno_entry Enoent = record { name = codes "ENOENT"; value = 2 }
errno_entry Esrch = record { name = codes "ESRCH"; value = 3 }
errno_entry Echild = record { name = codes "ECHILD"; value = 10 }
errno_entry Eagain = record { name = codes "EAGAIN"; value = 11 }
errno_entry Enomem = record { name = codes "ENOMEM"; value = 12 }
errno_entry Eacces = record { name = codes "EACCES"; value = 13 }
errno_entry Ebusy = record { name = codes "EBUSY"; value = 16 }
errno_entry Einval = record { name = codes "EINVAL"; value = 22 }
errno_entry Enospc = record { name = codes "ENOSPC"; value = 28 }

-- a refusal: its fixed number, its error, and the word that says why
pub record RefusalEntry : Type 0 where
  pub number : ℕ
  pub error : Errno
  pub word : List ℕ

-- the refusals
abbrev pub refusal_entry : Refusal → RefusalEntry
refusal_entry NoCaller = record { number = 1; error = Esrch; word = codes "no-caller" }
refusal_entry NoTask = record { number = 2; error = Esrch; word = codes "no-task" }
refusal_entry NoChild = record { number = 3; error = Echild; word = codes "no-child" }
refusal_entry (NoNumber space) = record { number = 4; error = Eagain; word = codes "no-number" }
refusal_entry (PidsLimit control) = record { number = 5; error = Eagain; word = codes "pids-limit" }
refusal_entry SpaceFallen = record { number = 6; error = Enomem; word = codes "space-fallen" }
refusal_entry TooDeep = record { number = 7; error = Enospc; word = codes "too-deep" }
refusal_entry Elsewhere = record { number = 8; error = Einval; word = codes "elsewhere" }
refusal_entry BadGroup = record { number = 9; error = Einval; word = codes "bad-group" }
refusal_entry OtherSession = record { number = 10; error = Eperm; word = codes "other-session" }
refusal_entry IsLeader = record { number = 11; error = Eperm; word = codes "is-leader" }
refusal_entry NoGroup = record { number = 12; error = Eperm; word = codes "no-group" }
refusal_entry Executed = record { number = 13; error = Eacces; word = codes "executed" }
refusal_entry RootInit = record { number = 14; error = Ebusy; word = codes "root-init" }
refusal_entry NoControl = record { number = 15; error = Enoent; word = codes "no-control" }
refusal_entry ControlBusy = record { number = 16; error = Ebusy; word = codes "control-busy" }
refusal_entry RootControl = record { number = 17; error = Einval; word = codes "root-control" }
refusal_entry BadLimit = record { number = 18; error = Einval; word = codes "bad-limit" }
refusal_entry ControlDepth = record { number = 19; error = Eagain; word = codes "control-depth" }
