-- What a worker's call does with what is held.
use Rattle.std.specs.Prelude.{◌≡◌, ◌≢◌, ◌↔◌, ◌<◌, ◌≤◌, ◌⊎◌, ℕ, [], ◌∷◌, Option, Some, None, IsSome, IsTrue, option_map}
use Rattle.pid_types.specs.declared.call.Call.{Call}
use Rattle.pid_types.specs.Step.{may_grow}
use Rattle.saved_form.specs.declared.numbers.ReplyNumbers.{ReplyNumbers}
use Rattle.stamped_table.specs.Stamped.{after_call, reply_to}
use Rattle.foreign_handles.specs.Held.{stamped, workers}
use Rattle.foreign_handles.specs.declared.held.Held.{Held}
use Rattle.foreign_handles.specs.declared.held.Held.TheVariants.{Bare, Recorded}
use Rattle.foreign_numbers.specs.Numbers.{numbers_of}
use Rattle.foreign_numbers.specs.declared.status.TheConstants.{DONE, OUT_OF_RANGE, SPENT, NO_MEMORY}
use Rattle.foreign_calls.specs.Held.{history, IsDoneOr, NeedsOpen}
use Rattle.foreign_calls.specs.Made.{IsSpent}
use Rattle.foreign_calls.specs.Records.{Has, roomless, IsRecorded, IsRecordedKeeping}

-- the call was made, once; where there is a history it was recorded for the worker, at this place of it
abbrev pub HasMade : Held → ℕ → Call → ℕ → ℕ → Held → Type 0
HasMade (Bare s) worker call before ordinal new = (new ≡ Bare (after_call s call)) × (ordinal ≡ before)
HasMade (Recorded c) worker call before ordinal new = IsRecorded c worker call ordinal (history (Some new))

-- the same, and then first entries of the history were cut away, where more than so many are kept
abbrev pub HasMadeKeeping : ℕ → Held → ℕ → Call → ℕ → ℕ → Held → Type 0
HasMadeKeeping keep (Bare s) worker call before ordinal new = HasMade (Bare s) worker call before ordinal new
HasMadeKeeping keep (Recorded c) worker call before ordinal new =
    Has (history (Some new)) (λ d. IsRecordedKeeping keep c worker call ordinal d)

-- what shows: all but the room for entries
abbrev pub visible : Held → Held
visible (Bare s) = Bare s
visible (Recorded c) = Recorded (roomless c)

-- the same of what is held
abbrev pub visible_held : Option Held → Option Held
visible_held held = option_map visible held

-- there is room for an entry, or none is made
abbrev pub HasEntryRoom : Held → Type 0
HasEntryRoom (Bare s) = Unit {0}
HasEntryRoom (Recorded c) = 0 < c.memory.room

-- a worker's call is made, unless there is no such worker, no stamp is left for it, or no memory for what it makes or for its entry
pub record IsWorkerStatus (h : Held) (worker : ℕ) (call : Call) (status : ℕ) : Type 0 where
  pub out_of_range : (status ≡ OUT_OF_RANGE) ↔ (workers h ≤ worker)
  pub spent : (status ≡ SPENT) ↔ (worker < workers h) × IsSpent (stamped h).stamp
  pub no_memory : status ≡ NO_MEMORY → HasEntryRoom h → IsTrue (may_grow call)
  pub statuses : IsDoneOr status (OUT_OF_RANGE ∷ SPENT ∷ NO_MEMORY ∷ [])

-- the worker's call was made, or the status says why not, and nothing shows of it
pub record MakesCall (h : Held) (worker : ℕ) (call : Call) (before ordinal status : ℕ) (new : Held) : Type 0 where
  pub done : status ≡ DONE → HasMade h worker call before ordinal new
  pub not_done : status ≢ DONE → (visible new ≡ visible h) × (ordinal ≡ before)
  pub why : IsWorkerStatus h worker call status

-- a call that numbers say is made on what is held, unless nothing is held, they say none, or a worker's call is not made
pub record IsSaidStatus (held : Option Held) (worker : ℕ) (said : Option Call) (status : ℕ) : Type 0 where
  pub out_of_range : (status ≡ OUT_OF_RANGE) ↔ Has held (λ h. (said ≡ None) ⊎ (workers h ≤ worker))
  pub spent : (status ≡ SPENT) ↔ IsSome said × Has held (λ h. (worker < workers h) × IsSpent (stamped h).stamp)
  pub no_memory : status ≡ NO_MEMORY
      → (made : Call) × (said ≡ Some made) × Has held (λ h. HasEntryRoom h → IsTrue (may_grow made))
  pub needs_open : NeedsOpen held status (OUT_OF_RANGE ∷ SPENT ∷ NO_MEMORY ∷ [])

-- the worker's call that numbers say was made, and its reply is told; or the status says why not, and nothing shows of it
pub record MakesSaid (h : Held) (worker : ℕ) (said : Option Call) (old new : ReplyNumbers)
    (before ordinal status : ℕ) (h' : Held) : Type 0 where
  pub done : status ≡ DONE → (made : Call) × (said ≡ Some made)
      × HasMade h worker made before ordinal h' × (new ≡ numbers_of (reply_to (stamped h) made))
  pub not_done : status ≢ DONE → (visible h' ≡ visible h) × (new ≡ old) × (ordinal ≡ before)
  pub why : IsSaidStatus (Some h) worker said status
