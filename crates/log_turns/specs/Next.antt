-- When each step is asked for.
use Rattle.std.specs.Prelude.{◌≡◌, ◌⊎◌, ℕ, ◌+◌, ◌-◌, ◌<◌, ◌≤◌, min, true, false, if◌then◌else◌}
use Rattle.log_turns.specs.declared.turns.TheConstants.{MOST_UNSYNCED}
use Rattle.log_turns.specs.declared.step.Step.{Step}
use Rattle.log_turns.specs.declared.step.Step.TheVariants.{Rest, Wait, Lost, Ended, Cut, Write, Sync, Answer, Close, Begin, Undo}
use Rattle.log_turns.specs.declared.turns.Turns.{Turns}

-- no sync has failed, and what else has failed is tried again
pub record IsFree (t : Turns) : Type 0 where
  pub not_lost : t.is_lost ≡ false
  pub not_stuck : t.is_stuck ≡ false

-- the log has what is written and nothing else, and no other log is there in its place
pub record HasWholeLog (t : Turns) : Type 0 where
  pub free : IsFree t
  pub not_torn : t.is_torn ≡ false
  pub not_undoing : t.is_undoing ≡ false

-- all that was taken may be answered
pub record IsSaved (t : Turns) : Type 0 where
  pub written : t.end ≤ t.written
  pub synced : t.is_always ≡ true → t.end ≤ t.synced

-- all that was taken is answered
pub record HasAnsweredAll (t : Turns) : Type 0 where
  pub whole : HasWholeLog t
  pub saved : IsSaved t
  pub answered : t.taken ≤ t.answered

-- so many bytes may be written: all that are not, or, where each call is synced, no more than may be unsynced
abbrev pub IsPiece : Turns → ℕ → Type 0
IsPiece t size = size ≡ (if t.is_always then min (t.end - t.written) (MOST_UNSYNCED - (t.written - t.synced)) else t.end - t.written)

-- so many bytes may be written there
pub record IsNextWrite (t : Turns) (at size : ℕ) : Type 0 where
  pub whole : HasWholeLog t
  pub behind : at ≡ t.written - t.start
  pub some : 0 < size
  pub taken : size ≤ t.end - t.written
  pub few : t.is_always ≡ true → (t.written - t.synced) + size ≤ MOST_UNSYNCED

pub record IsNextSync (t : Turns) : Type 0 where
  pub whole : HasWholeLog t
  pub always : t.is_always ≡ true
  pub unsynced : t.synced < t.end
  pub due : (t.end ≤ t.written) ⊎ (MOST_UNSYNCED ≤ t.written - t.synced)

pub record IsNextAnswer (t : Turns) (calls : ℕ) : Type 0 where
  pub whole : HasWholeLog t
  pub saved : IsSaved t
  pub all : calls ≡ t.taken
  pub some : t.answered < t.taken

-- the step is what is to be done next
abbrev pub IsNextStep : Turns → Step → Type 0
IsNextStep t Lost = t.is_lost ≡ true
IsNextStep t Wait = (t.is_lost ≡ false) × (t.is_stuck ≡ true)
IsNextStep t (Cut to) = IsFree t × (t.is_torn ≡ true) × (to ≡ t.written - t.start)
IsNextStep t Undo = IsFree t × (t.is_torn ≡ false) × (t.is_undoing ≡ true)
IsNextStep t (Write at size) = IsNextWrite t at size
IsNextStep t Sync = IsNextSync t
IsNextStep t (Answer calls) = IsNextAnswer t calls
IsNextStep t Close = HasAnsweredAll t × ((t.is_turning ≡ true) ⊎ (t.is_stopping ≡ true)) × (t.is_closed ≡ false)
IsNextStep t (Begin first) = HasAnsweredAll t × (t.is_turning ≡ true) × (t.is_closed ≡ true) × (first ≡ t.taken)
IsNextStep t Ended = HasAnsweredAll t × (t.is_turning ≡ false) × (t.is_stopping ≡ true) × (t.is_closed ≡ true)
IsNextStep t Rest = HasAnsweredAll t × (t.is_turning ≡ false) × (t.is_stopping ≡ false)
