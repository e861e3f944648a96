-- A query whose number alone is told.
use Rattle.std.specs.Prelude.{◌≡◌, ◌⊎◌, ◌<◌, ℕ, Option, Some, None}
use Rattle.pid_types.specs.declared.call.Call.{Call}
use Rattle.stamped_table.specs.Stamped.{reply_to}
use Rattle.foreign_handles.specs.Held.{stamped, workers}
use Rattle.foreign_handles.specs.declared.held.Held.{Held}
use Rattle.foreign_handles.specs.declared.held.Held.TheVariants.{Bare, Recorded}
use Rattle.foreign_numbers.specs.Numbers.{errno_of, number_or}
use Rattle.foreign_numbers.specs.declared.status.TheConstants.{CLOSED, OUT_OF_RANGE, SPENT, NO_MEMORY}
use Rattle.foreign_calls.specs.Calls.{HasMade, visible}
use Rattle.foreign_calls.specs.Made.{IsSpent}

-- no room is left for an entry of the history
abbrev pub HasNoEntryRoom : Held → Type 0
HasNoEntryRoom (Bare s) = ⊥
HasNoEntryRoom (Recorded c) = c.memory.room ≡ 0

-- the query was made as worker 0's, once: the status is the error of its reply, and its number is told
pub record HasNumber (h : Held) (query : Call) (before number status : ℕ) (new : Held) : Type 0 where
  pub place : ℕ
  pub made : HasMade h 0 query place place new
  pub error : status ≡ errno_of (reply_to (stamped h) query)
  pub told : number ≡ number_or before (reply_to (stamped h) query)

-- its entry found no memory, and nothing shows of it
pub record FindsNoRoom (h : Held) (before number status : ℕ) (new : Held) : Type 0 where
  pub full : HasNoEntryRoom h
  pub error : status ≡ NO_MEMORY
  pub same : (number ≡ before) × (visible new ≡ visible h)

-- where no stamp is left all stays as it was
pub record TellsNumber (h : Held) (query : Call) (before number status : ℕ) (new : Held) : Type 0 where
  pub unmanned : workers h ≡ 0 → (status ≡ OUT_OF_RANGE) × (number ≡ before) × (new ≡ h)
  pub spent : 0 < workers h → IsSpent (stamped h).stamp → (status ≡ SPENT) × (number ≡ before) × (visible new ≡ visible h)
  pub made : 0 < workers h → (IsSpent (stamped h).stamp → ⊥)
      → HasNumber h query before number status new ⊎ FindsNoRoom h before number status new

-- the same of what is held; where that is nothing, all stays as it was
pub record TellsNumberOf (old : Option Held) (query : Call) (before number status : ℕ) (new : Option Held) : Type 0 where
  pub closed : old ≡ None → (status ≡ CLOSED) × (number ≡ before) × (new ≡ None)
  pub told : (h : Held) → old ≡ Some h → (h' : Held) × (new ≡ Some h') × TellsNumber h query before number status h'

-- no call is made of a kind that is none, and all stays as it was
pub record RefusesKind (old : Option Held) (before number status : ℕ) (new : Option Held) : Type 0 where
  pub closed : old ≡ None → status ≡ CLOSED
  pub out_of_range : (h : Held) → old ≡ Some h → status ≡ OUT_OF_RANGE
  pub same : (number ≡ before) × (new ≡ old)
