-- What C's functions find and leave of a replica and its table.
use Rattle.std.specs.Prelude.{◌≡◌, ◌≢◌, ◌↔◌, ◌⊎◌, ◌==◌, ℕ, List, [], ◌∷◌, length, Option, Some, None, IsSome}
use Rattle.std.specs.Map.{lookup}
use Rattle.replica.specs.Applied.{Refuses}
use Rattle.replica.specs.Laws.{Applies}
use Rattle.replica.specs.Log.{Log, Hosted}
use Rattle.replica.specs.Replicas.{replica_of}
use Rattle.replica.specs.declared.outcome.Applied.{Applied}
use Rattle.replica.specs.Snapshots.{Restores, FailsAtHead}
use Rattle.replica.specs.declared.outcome.ReplicaFault.{ReplicaFault}
use Rattle.replica.specs.declared.snapshot.HeadFault.{HeadFault}
use Rattle.stamped_table.specs.Stamped.{Stamped}
use Rattle.foreign_numbers.specs.Replicas.{applied_numbers, fault_status, head_status}
use Rattle.foreign_numbers.specs.declared.replicas.AppliedNumbers.{AppliedNumbers}
use Rattle.foreign_numbers.specs.declared.status.TheConstants.{DONE, CLOSED, OUT_OF_RANGE, BAD_TEXT, NOT_RISING, NO_ENTRY, OTHER_SETTINGS, MISSING, DIVERGED, NO_MEMORY, NOT_RECOVERABLE}
use Rattle.foreign_handles.specs.declared.held.Held.{Held}
use Rattle.foreign_calls.specs.Held.{table_alone, history, IsDoneOr}
use Rattle.foreign_calls.specs.Records.{Has}

-- the entry was applied, and is told so
pub record IsApplied (position : ℕ) (bytes : List ℕ) (h : Hosted) (t : Stamped) (h' : Hosted) (t' : Stamped) (told : AppliedNumbers)
    : Type 0 where
  pub what : Applied
  pub applies : Applies position bytes (replica_of h.log t) [] (replica_of h'.log t') what h'.answers
  pub numbers : told ≡ applied_numbers what (length h'.answers)

-- the entry was refused for this reason, which has its status
pub record IsRefused (position : ℕ) (bytes : List ℕ) (h : Hosted) (t : Stamped) (h' : Hosted) (t' : Stamped) (status : ℕ) : Type 0 where
  pub fault : ReplicaFault
  pub status_is : status ≡ fault_status fault
  pub refuses : Refuses position bytes (replica_of h.log t) h.answers (replica_of h'.log t') h'.answers fault

-- the next entry of a log was applied to a replica and its table, or the status says why not
pub record AppliesEntry (position : ℕ) (bytes : List ℕ) (h : Hosted) (t : Stamped) (h' : Hosted) (t' : Stamped)
    (before after : AppliedNumbers) (status : ℕ) : Type 0 where
  pub done : status ≡ DONE → IsApplied position bytes h t h' t' after
  pub refused : status ≢ DONE → IsRefused position bytes h t h' t' status
  pub not_done : status ≢ DONE → after ≡ before

-- the same of what is held; a table with a history is no replica's
pub record AppliesHeld (position : ℕ) (bytes : List ℕ) (host : Option Hosted) (table : Option Held)
    (host' : Option Hosted) (table' : Option Held) (before after : AppliedNumbers) (status : ℕ) : Type 0 where
  pub applies : status ≢ CLOSED → status ≢ OUT_OF_RANGE
      → Has host (λ h. Has (table_alone table) (λ t. Has host' (λ h'. Has (table_alone table') (λ t'.
      AppliesEntry position bytes h t h' t' before after status))))
  pub closed : (status ≡ CLOSED) ↔ (host ≡ None) ⊎ (table ≡ None)
  pub kept : (status ≡ OUT_OF_RANGE) ↔ IsSome host × IsSome (history table)
  pub same : (status ≡ CLOSED) ⊎ (status ≡ OUT_OF_RANGE) → (host' ≡ host) × (table' ≡ table) × (after ≡ before)
  pub statuses : IsDoneOr status (CLOSED ∷ OUT_OF_RANGE ∷ NOT_RECOVERABLE ∷ NOT_RISING ∷ NO_ENTRY ∷ OTHER_SETTINGS ∷ MISSING ∷ DIVERGED
      ∷ NO_MEMORY ∷ [])

-- the digest behind the entry at a position, if it is kept; and the last number of a session, if it is open
abbrev pub digest_at : ℕ → Log → Option (List ℕ)
digest_at position log = lookup (λ p. position == p) log.kept

abbrev pub last_of : ℕ → Log → Option ℕ
last_of session log = lookup (λ s. session == s) log.sessions

-- what is there is told, or the status says that there is none
pub record TellsFound {X : Type 0} (found : Option X) (before after : X) (none status : ℕ) : Type 0 where
  pub done : status ≡ DONE → found ≡ Some after
  pub not_there : (status ≡ none) ↔ (found ≡ None)
  pub not_done : status ≢ DONE → after ≡ before

-- the same of what is held
pub record TellsOf {X : Type 0} (held : Option Hosted) (part : Log → Option X) (before after : X) (none status : ℕ) : Type 0 where
  pub told : status ≢ CLOSED → Has held (λ h. TellsFound (part h.log) before after none status)
  pub closed : status ≡ CLOSED → after ≡ before

-- a log was restored of the head at the front of the text, with the settings of before and no answers
pub record IsRestored (text : List ℕ) (h h' : Hosted) (used : ℕ) : Type 0 where
  pub restores : Restores text h.log.pid_max h.log.model h'.log used
  pub answers : h'.answers ≡ []

-- the head was refused for this reason, which has its status
pub record IsHeadRefused (text : List ℕ) (h : Hosted) (status : ℕ) : Type 0 where
  pub fault : HeadFault
  pub status_is : status ≡ head_status fault
  pub fails : FailsAtHead text h.log.pid_max h.log.model fault

-- a replica got what the head of a snapshot says, or the status says why not
pub record ReadsHead (text : List ℕ) (h h' : Hosted) (before used status : ℕ) : Type 0 where
  pub done : status ≡ DONE → IsRestored text h h' used
  pub unread : status ≢ DONE → IsHeadRefused text h status
  pub same : status ≢ DONE → (h' ≡ h) × (used ≡ before)

-- the same of what is held
pub record ReadsHeld (text : List ℕ) (host host' : Option Hosted) (before used status : ℕ) : Type 0 where
  pub reads : status ≢ CLOSED → Has host (λ h. Has host' (λ h'. ReadsHead text h h' before used status))
  pub closed : (status ≡ CLOSED) ↔ (host ≡ None)
  pub same : status ≡ CLOSED → (host' ≡ host) × (used ≡ before)
  pub statuses : IsDoneOr status (CLOSED ∷ BAD_TEXT ∷ OTHER_SETTINGS ∷ NO_MEMORY ∷ [])
