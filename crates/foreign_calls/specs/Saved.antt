-- What C is told of a text that no table is loaded from, and what a record is that goes on from one.
use Rattle.std.specs.Prelude.{◌≡◌, ◌≢◌, ◌<◌, ◌≤◌, ℕ, Bool, true, false, List, length, sum, Option}
use Rattle.pid_types.specs.Sound.{IsBelow}
use Rattle.pid_types.specs.State.{State}
use Rattle.table_build.specs.Tables.{IsOfTables}
use Rattle.table_text.specs.Texts.{text_of}
use Rattle.table_text.specs.Ranges.{IsWord, IsStateOfWords}
use Rattle.table_text.specs.Reading.{IsHeldState, IsNoText}
use Rattle.table_load.specs.declared.fault.RestoreFault.{RestoreFault}
use Rattle.table_load.specs.declared.fault.RestoreFault.TheVariants as why
use Rattle.table_load.specs.Texts.{IsTextOfNoTable}
use Rattle.kept_table.specs.Calls.{resumed}
use Rattle.kept_table.specs.Chronicle.{Chronicle, next_stamp}
use Rattle.stamped_table.specs.Stamped.{Stamped, IsInOrder}
use Rattle.foreign_handles.specs.declared.held.Held.{Held}
use Rattle.foreign_numbers.specs.declared.status.TheConstants.{BAD_TEXT}
use Rattle.foreign_calls.specs.Held.{history, table_alone}
use Rattle.foreign_calls.specs.Records.{Has}
use Rattle.foreign_calls.specs.declared.saved_table.FaultNumbers.{FaultNumbers}

-- no fault of a text
abbrev pub no_fault : FaultNumbers
no_fault = record { line = 0; kind = 0 }

-- the line of the fault, and its kind, a number from 1 to 12 without 11, which once was a fault
abbrev pub fault_numbers : RestoreFault → FaultNumbers
fault_numbers why.NoMemory = no_fault
fault_numbers (why.BadLine n) = record { line = n; kind = 1 }
fault_numbers (why.WrongDigest n) = record { line = n; kind = 2 }
fault_numbers (why.BadSettings n) = record { line = n; kind = 3 }
fault_numbers (why.Unsorted n) = record { line = n; kind = 4 }
fault_numbers (why.UnknownParent n) = record { line = n; kind = 5 }
fault_numbers (why.UnknownNamespace n) = record { line = n; kind = 6 }
fault_numbers (why.UnknownGroup n) = record { line = n; kind = 7 }
fault_numbers (why.BadName n) = record { line = n; kind = 8 }
fault_numbers (why.TakenNumber n) = record { line = n; kind = 9 }
fault_numbers (why.NoInit n) = record { line = n; kind = 10 }
fault_numbers (why.Impossible n) = record { line = n; kind = 12 }

-- BAD_TEXT is told of no text of a table, with a kind of fault; kinds 1 and 2 are told of no text of a state at all; else there is no fault
pub record TellsFault (text : List ℕ) (fault : FaultNumbers) (status : ℕ) : Type 0 where
  pub bad_text : status ≡ BAD_TEXT → (1 ≤ fault.kind) × (fault.kind ≤ 12)
  pub refused : status ≡ BAD_TEXT → IsTextOfNoTable text
  pub form : status ≡ BAD_TEXT → fault.kind ≤ 2 → IsNoText text
  pub none : status ≢ BAD_TEXT → fault ≡ no_fault

-- the state and the stamp are those of a table, and all numbers of it have a place in a text
pub record IsLoadable (stamp : ℕ) (state : State) : Type 0 where
  pub word : IsWord stamp
  pub held : IsHeldState state
  pub table : IsOfTables state
  pub below : IsBelow stamp state

-- a text of such a state is not refused, and of it no other state is read
pub record Loads (stamp : ℕ) (state : State) (text : List ℕ) : Type 0 where
  pub taken : IsTextOfNoTable text → ⊥
  pub same : (stamp' : ℕ) (state' : State) → IsWord stamp' → IsStateOfWords state' → text ≡ text_of stamp' state'
      → (stamp' ≡ stamp) × (state' ≡ state)

-- a count for each worker of a record
pub record HasWorkers (counts : List ℕ) : Type 0 where
  pub some : 0 < length counts
  pub few : length counts ≤ 16

-- the text says a state and a stamp, and the counts add up to that stamp or more
abbrev pub HasTooManyCalls : List ℕ → List ℕ → Type 0
HasTooManyCalls text counts = (stamp : ℕ) × (state : State) × (text ≡ text_of stamp state) × (stamp ≤ sum counts)

-- the same of a state and a stamp whose numbers fit
abbrev pub TellsTooManyCalls : List ℕ → List ℕ → Type 0
TellsTooManyCalls text counts =
    (stamp : ℕ) × (state : State) × IsWord stamp × IsHeldState state × (text ≡ text_of stamp state) × (stamp ≤ sum counts)

-- the record goes on as the text says, behind so many calls of each worker; its opening is a second table, which moves on by calls
pub record IsResumed (text counts : List ℕ) (c : Chronicle) : Type 0 where
  pub says : text ≡ text_of (next_stamp c) c.present
  pub left : c ≡ record (resumed c.present (next_stamp c) counts c.memory.room) { by_steps = true }
  pub before : sum counts < next_stamp c

-- the table without a history is the one that the text says
pub record IsLoaded (text : List ℕ) (s : Stamped) : Type 0 where
  pub says : text ≡ text_of s.stamp s.state
  pub words : IsWord s.stamp × IsStateOfWords s.state
  pub sound : IsInOrder s

-- the same of what is held, with a history or without one
abbrev pub HasLoaded : List ℕ → List ℕ → Bool → Option Held → Type 0
HasLoaded text counts false held = Has (table_alone held) (λ s. IsLoaded text s)
HasLoaded text counts true held = Has (history held) (λ c. IsResumed text counts c)
