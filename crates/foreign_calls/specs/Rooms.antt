-- A text in the room that a caller gives for it. A text comes with its size: `before` is what stood there.
use Rattle.std.specs.Prelude.{◌≡◌, ◌≢◌, ◌↔◌, ◌⊎◌, ◌<◌, ◌≤◌, ℕ, List, [], ◌∷◌, length, take, drop, Option, Some, None}
use Rattle.foreign_numbers.specs.declared.status.TheConstants.{DONE, CLOSED, NO_ROOM, NO_MEMORY, OUT_OF_RANGE}
use Rattle.foreign_calls.specs.Held.{IsDoneOr}
use Rattle.foreign_calls.specs.Records.{Has}

-- what was put is within the room, and what is behind it stays; unless the status is DONE, the whole room stays
pub record KeepsRoom (old new : List ℕ) (size status : ℕ) : Type 0 where
  pub fits : status ≡ DONE → size ≤ length new
  pub behind : status ≡ DONE → drop size new ≡ drop size old
  pub not_done : status ≢ DONE → new ≡ old

-- the text of what is held is at the front of the room, or the status says why not; a text that is too long tells its size
pub record PutsText {X : Type 0} (held : Option X) (text : X → List ℕ) (old new : List ℕ) (before size status : ℕ) : Type 0 where
  pub done : status ≡ DONE → Has held (λ x. take size new ≡ text x)
  pub room : KeepsRoom old new size status
  pub size_is : (status ≡ DONE) ⊎ (status ≡ NO_ROOM) → Has held (λ x. size ≡ length (text x))
  pub same_size : (status ≡ CLOSED) ⊎ (status ≡ NO_MEMORY) → size ≡ before
  pub no_room : status ≡ NO_ROOM → length old < size

-- the same of what numbers say, where they say anything
pub record PutsLine {X : Type 0} (said : Option X) (text : X → List ℕ) (old new : List ℕ) (before size status : ℕ) : Type 0 where
  pub done : status ≡ DONE → (x : X) × (said ≡ Some x) × (take size new ≡ text x)
  pub room : KeepsRoom old new size status
  pub out_of_range : (status ≡ OUT_OF_RANGE) ↔ (said ≡ None)
  pub no_room : status ≡ NO_ROOM → (x : X) × (said ≡ Some x) × (size ≡ length (text x)) × (length old < size)
  pub same_size : status ≡ OUT_OF_RANGE → size ≡ before
  pub statuses : IsDoneOr status (OUT_OF_RANGE ∷ NO_ROOM ∷ [])
