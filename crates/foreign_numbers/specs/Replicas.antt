-- What is told of a replica and of its log, as numbers.
use Rattle.std.specs.Prelude.{ℕ}
use Rattle.replica.specs.Log.{Log}
use Rattle.replica.specs.declared.outcome.Applied.{Applied}
use Rattle.replica.specs.declared.outcome.Outcome.{Outcome}
use Rattle.replica.specs.declared.outcome.Outcome.TheVariants.{Made, Repeated, Gone, Gap, Noted}
use Rattle.replica.specs.declared.outcome.ReplicaFault.{ReplicaFault}
use Rattle.replica.specs.declared.outcome.ReplicaFault.TheVariants.{NotRising, NoEntry, OtherSettings, Missing, Diverged, NoMemory, Torn}
use Rattle.replica.specs.declared.snapshot.HeadFault.{HeadFault}
use Rattle.replica.specs.declared.snapshot.HeadFault.TheVariants as head
use Rattle.foreign_numbers.specs.declared.replicas.AppliedNumbers.{AppliedNumbers}
use Rattle.foreign_numbers.specs.declared.replicas.LogNumbers.{LogNumbers}
use Rattle.foreign_numbers.specs.CallNumbers.{switch_number}
use Rattle.foreign_numbers.specs.declared.status.TheConstants.{BAD_TEXT, NOT_RISING, NO_ENTRY, OTHER_SETTINGS, MISSING, DIVERGED, NO_MEMORY, NOT_RECOVERABLE}

-- what became of an entry
abbrev pub outcome_number : Outcome → ℕ
outcome_number Noted = 0
outcome_number Made = 1
outcome_number Repeated = 2
outcome_number Gone = 3
outcome_number Gap = 4

-- an entry that was applied, whose answers have so many bytes
abbrev pub applied_numbers : Applied → ℕ → AppliedNumbers
applied_numbers a size =
    record { outcome = outcome_number a.outcome; session = a.session; sequence = a.sequence; size = size }

-- what is known of a log
abbrev pub log_numbers : Log → LogNumbers
log_numbers log = record {
  form = log.form;
  pid_max = log.pid_max;
  model = log.model;
  position = log.position;
  calls = log.calls;
  begun = switch_number log.begun;
  lost = switch_number log.torn;
}

-- the status of an entry that is not applied
abbrev pub fault_status : ReplicaFault → ℕ
fault_status NotRising = NOT_RISING
fault_status NoEntry = NO_ENTRY
fault_status OtherSettings = OTHER_SETTINGS
fault_status Missing = MISSING
fault_status Diverged = DIVERGED
fault_status NoMemory = NO_MEMORY
fault_status Torn = NOT_RECOVERABLE

-- the status of a head that is not read
abbrev pub head_status : HeadFault → ℕ
head_status head.NoSnapshot = BAD_TEXT
head_status head.OtherSettings = OTHER_SETTINGS
head_status head.NoMemory = NO_MEMORY
