-- What a function does with what is held, and what its status says of that.
use Rattle.std.specs.Prelude.{◌≡◌, ◌≢◌, ◌↔◌, ◌⊎◌, ℕ, List, [], ◌∷◌, Option, Some, None, IsSome, IfSome}
use Rattle.kept_table.specs.Chronicle.{Chronicle}
use Rattle.stamped_table.specs.Stamped.{Stamped}
use Rattle.foreign_handles.specs.declared.held.Held.{Held}
use Rattle.foreign_handles.specs.declared.held.Held.TheVariants.{Bare, Recorded}
use Rattle.foreign_numbers.specs.declared.status.TheConstants.{DONE, CLOSED, BUSY, NO_HISTORY}

-- the history, if one is kept
abbrev pub history : Option Held → Option Chronicle
history None = None
history (Some (Bare s)) = None
history (Some (Recorded c)) = Some c

-- the table, if it keeps no history
abbrev pub table_alone : Option Held → Option Stamped
table_alone None = None
table_alone (Some (Bare s)) = Some s
table_alone (Some (Recorded c)) = None

-- the status is this one, or one of the others
abbrev pub IsEither : ℕ → ℕ → List ℕ → Type 0
IsEither status one [] = status ≡ one
IsEither status one (other ∷ others) = (status ≡ one) ⊎ IsEither status other others

-- the status is DONE, or one of these
abbrev pub IsDoneOr : ℕ → List ℕ → Type 0
IsDoneOr status others = IsEither status DONE others

-- the status is CLOSED where nothing is held, and only there; else it is DONE, or one of these
pub record NeedsOpen {X : Type 0} (held : Option X) (status : ℕ) (others : List ℕ) : Type 0 where
  pub closed : (status ≡ CLOSED) ↔ (held ≡ None)
  pub statuses : IsDoneOr status (CLOSED ∷ others)

-- what is held stays as it was, whatever the status
pub record OnlyReads {X : Type 0} (old new : Option X) (status : ℕ) (others : List ℕ) : Type 0 where
  pub same : new ≡ old
  pub needs_open : NeedsOpen old status others

-- what is held stays as it was, unless the status is DONE
pub record ChangesIfDone {X : Type 0} (old new : Option X) (status : ℕ) (others : List ℕ) : Type 0 where
  pub not_done : status ≢ DONE → new ≡ old
  pub needs_open : NeedsOpen old status others

-- the status is CLOSED where nothing is held, NO_HISTORY where no history is, and else DONE, or one of these
pub record NeedsHistory (held : Option Held) (status : ℕ) (others : List ℕ) : Type 0 where
  pub closed : (status ≡ CLOSED) ↔ (held ≡ None)
  pub bare : (status ≡ NO_HISTORY) ↔ IsSome (table_alone held)
  pub statuses : IsDoneOr status (CLOSED ∷ NO_HISTORY ∷ others)

-- the history is read, and what is held stays as it was, whatever the status
pub record ReadsHistory (old new : Option Held) (status : ℕ) (others : List ℕ) : Type 0 where
  pub same : new ≡ old
  pub needs_history : NeedsHistory old status others

-- what is held stays as it was, unless the status is DONE
pub record ChangesHistory (old new : Option Held) (status : ℕ) (others : List ℕ) : Type 0 where
  pub not_done : status ≢ DONE → new ≡ old
  pub needs_history : NeedsHistory old status others

-- the same where it has to be nothing: the status is BUSY where something is held, and only there; else it is DONE, or one of these
pub record Opens {X : Type 0} (old new : Option X) (status : ℕ) (others : List ℕ) : Type 0 where
  pub not_done : status ≢ DONE → new ≡ old
  pub busy : (status ≡ BUSY) ↔ IsSome old
  pub statuses : IsDoneOr status (BUSY ∷ others)

-- what was held is taken out, if there was something, and nothing is held then
pub record Takes {B X : Type 0} (taken : Option B) (value : B → X) (old new : Option X) : Type 0 where
  pub held : IfSome taken (λ b. old ≡ Some (value b))
  pub none : taken ≡ None → old ≡ None
  pub none_left : new ≡ None
