-- What is made of the bytes of an entry.
use Rattle.std.specs.Prelude.{ℕ, ◌≡◌, ◌≢◌, ◌⊎◌, ◌<◌, ◌≤◌, ◌++◌, true, false, Ok, Err, List, []}
use Rattle.replica.specs.Entries.{LogEntry, Opened, IsGood, entry_text}
use Rattle.replica.specs.declared.outcome.Outcome.{Outcome}
use Rattle.replica.specs.declared.outcome.ReplicaFault.{ReplicaFault}
use Rattle.replica.specs.declared.outcome.ReplicaFault.TheVariants.{NotRising, NoEntry, OtherSettings, Missing, Diverged, NoMemory, Torn}
use Rattle.replica.specs.Log.{Log}
use Rattle.replica.specs.Replicas.{Replica, MakesFront, answers_at, checked, entered, lines_at, may_come, outcome_at}

-- a log that has not begun
pub record IsNewLog (pid_max model : ℕ) (log : Log) : Type 0 where
  pub own_pid_max : log.pid_max ≡ pid_max
  pub own_model : log.model ≡ model
  pub form : log.form ≡ 0
  pub not_begun : log.begun ≡ false
  pub position : log.position ≡ 0
  pub sessions : log.sessions ≡ []
  pub kept : log.kept ≡ []
  pub calls : log.calls ≡ 0
  pub whole : log.torn ≡ false

-- an entry is looked at: there was memory for those before it, and its position rises
pub record IsLookedAt (position : ℕ) (old : Replica) : Type 0 where
  pub whole : old.log.torn ≡ false
  pub rises : old.log.position < position

-- the bytes are the text of the entry, which may be applied next: it is looked at, it may come, and the digest of its writer is the one
-- here
pub record IsNext (position : ℕ) (bytes : List ℕ) (old : Replica) (entry : LogEntry) : Type 0 where
  pub good : IsGood entry
  pub text : bytes ≡ entry_text entry
  pub looked : IsLookedAt position old
  pub comes : may_come old.log entry ≡ true
  pub agrees : checked old.log entry ≡ Ok tt

-- the entry has made this, with its outcome, and its answers are behind those before
pub record Enters (e : LogEntry) (position : ℕ) (old : Replica) (before : List ℕ) (new : Replica) (what : Outcome) (after : List ℕ)
    : Type 0 where
  pub made : new ≡ entered old position e
  pub outcome : what ≡ outcome_at old e
  pub answers : after ≡ before ++ answers_at old e

-- nothing has changed
pub record ChangesNothing (old : Replica) (before : List ℕ) (new : Replica) (after : List ℕ) : Type 0 where
  pub replica : new ≡ old
  pub answers : after ≡ before

-- there was no memory: nothing has changed of a session that was to open; or the replica is torn, and of the entry's lines some were made,
-- from the first on
abbrev pub StopsApplying : LogEntry → Replica → List ℕ → Replica → List ℕ → ReplicaFault → Type 0
StopsApplying e old before new after NoMemory = (e ≡ Opened) × ChangesNothing old before new after
StopsApplying e old before new after Torn = (new.log.torn ≡ true) × MakesFront (lines_at e) old.table new.table
StopsApplying e old before new after NotRising = ⊥
StopsApplying e old before new after NoEntry = ⊥
StopsApplying e old before new after OtherSettings = ⊥
StopsApplying e old before new after Missing = ⊥
StopsApplying e old before new after Diverged = ⊥

-- an entry that may come is not applied, since the digest of its writer is at no entry of the log, or is another one
abbrev pub IsAtOdds : List ℕ → Replica → ReplicaFault → Type 0
IsAtOdds bytes old fault =
    (e : LogEntry) × IsGood e × (bytes ≡ entry_text e) × (may_come old.log e ≡ true) × (checked old.log e ≡ Err fault)

-- when each fault comes, and what it leaves: they are looked for in this order, but for want of memory
abbrev pub Refuses : ℕ → List ℕ → Replica → List ℕ → Replica → List ℕ → ReplicaFault → Type 0
Refuses position bytes old before new after NotRising =
    (old.log.torn ≡ false) × (position ≤ old.log.position) × ChangesNothing old before new after
Refuses position bytes old before new after NoEntry =
    IsLookedAt position old × ((e : LogEntry) → IsGood e → bytes ≢ entry_text e) × ChangesNothing old before new after
Refuses position bytes old before new after OtherSettings =
    IsLookedAt position old × ((e : LogEntry) × IsGood e × (bytes ≡ entry_text e) × (may_come old.log e ≡ false))
    × ChangesNothing old before new after
Refuses position bytes old before new after Missing =
    IsLookedAt position old × IsAtOdds bytes old Missing × ChangesNothing old before new after
Refuses position bytes old before new after Diverged =
    IsLookedAt position old × IsAtOdds bytes old Diverged × ChangesNothing old before new after
Refuses position bytes old before new after NoMemory = IsNext position bytes old Opened × ChangesNothing old before new after
Refuses position bytes old before new after Torn =
    (old.log.torn ≡ true) × ChangesNothing old before new after
    ⊎ (new.log.torn ≡ true) × ((e : LogEntry) × IsNext position bytes old e × MakesFront (lines_at e) old.table new.table)
