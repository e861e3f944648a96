-- What a call did to others, as numbers.
use Rattle.std.specs.Prelude.{◌≡◌, ◌≢◌, ◌↔◌, ◌<◌, ◌≤◌, ◌⊎◌, [], ◌∷◌, ℕ, IsTrue, List, length, map}
use Rattle.pid_types.specs.declared.call.Call.{Call}
use Rattle.pid_types.specs.State.{State}
use Rattle.pid_types.specs.Step.{may_grow}
use Rattle.translate.specs.Pages.{with_front}
use Rattle.call_effects.specs.Effects.{AreEffects}
use Rattle.call_effects.specs.Reckoned.{Reckons}
use Rattle.call_effects.specs.Touched.{is_touching, most_in, most_of, Watching}
use Rattle.call_effects.specs.declared.effect.Effect.{Effect}
use Rattle.foreign_numbers.specs.Effects.{effect_numbers}
use Rattle.foreign_numbers.specs.declared.effects.EffectNumbers.{EffectNumbers}
use Rattle.foreign_numbers.specs.declared.status.TheConstants.{DONE, OUT_OF_RANGE, SPENT, NO_MEMORY, NO_ROOM}
use Rattle.foreign_calls.specs.Held.{IsDoneOr}
use Rattle.foreign_calls.specs.Made.{IsSpent}
use Rattle.foreign_calls.specs.Calls.{visible, HasEntryRoom, HasMade}
use Rattle.foreign_handles.specs.Held.{stamped, workers}
use Rattle.foreign_handles.specs.declared.held.Held.{Held}

-- what the way from the one state to the other did is at the front of the room, all of it, and how much it is is told
pub record PutsEffects (old new : State) (before after : List EffectNumbers) (count : ℕ) : Type 0 where
  pub effects : List Effect
  pub are : AreEffects old new effects
  pub put : after ≡ with_front (map effect_numbers effects) before
  pub counted : count ≡ length effects
  pub fits : length effects ≤ length before

-- so it is where the call was made; else the room stays as it was, and the count too where that is not what is short
pub record TellsEffects (old new : State) (before after : List EffectNumbers) (count_before count status : ℕ) : Type 0 where
  pub done : status ≡ DONE → PutsEffects old new before after count
  pub not_done : status ≢ DONE → after ≡ before
  pub counted : status ≢ DONE → status ≢ NO_ROOM → count ≡ count_before

-- the room may be too short for a call that may touch a task; the count says which would do, and is a function of the state and the call:
-- what can become of all that it may touch
pub record WantsRoom (state : State) (stamp : ℕ) (call : Call) (room count : ℕ) : Type 0 where
  pub short : room < count
  pub touched : Watching
  pub reckoned : Reckons state stamp call touched
  pub enough : count ≡ most_of touched
  pub most : count ≤ most_in state
  pub touching : IsTrue (is_touching call)

-- the call makes something, or may touch a task, so that it may want memory
abbrev pub MayWant : Call → Type 0
MayWant call = IsTrue (may_grow call) ⊎ IsTrue (is_touching call)

-- a worker's call is made, unless there is no such worker, no stamp, no memory for what it makes, its entry or its effects, or no room
pub record IsToldStatus (h : Held) (worker : ℕ) (call : Call) (status : ℕ) : Type 0 where
  pub out_of_range : (status ≡ OUT_OF_RANGE) ↔ (workers h ≤ worker)
  pub spent : (status ≡ SPENT) ↔ (worker < workers h) × IsSpent (stamped h).stamp
  pub no_memory : status ≡ NO_MEMORY → HasEntryRoom h → MayWant call
  pub statuses : IsDoneOr status (OUT_OF_RANGE ∷ SPENT ∷ NO_MEMORY ∷ NO_ROOM ∷ [])

-- the worker's call was made, or the status says why not, and nothing shows of it
pub record MakesTold (h : Held) (worker : ℕ) (call : Call) (before ordinal status : ℕ) (new : Held) : Type 0 where
  pub done : status ≡ DONE → HasMade h worker call before ordinal new
  pub not_done : status ≢ DONE → (visible new ≡ visible h) × (ordinal ≡ before)
  pub why : IsToldStatus h worker call status
