-- Laws of a log, over all its entries.
use Rattle.std.specs.Prelude.{ℕ, ◌≡◌, ◌+◌, ◌<◌, ◌==◌, List, [], ◌∷◌, ◌++◌, if◌then◌else◌}
use Rattle.replica.specs.Entries.{LogEntry, Calls}
use Rattle.replica.specs.declared.outcome.Applied.{Applied}
use Rattle.replica.specs.declared.outcome.Outcome.{Outcome}
use Rattle.replica.specs.declared.outcome.Outcome.TheVariants as outcome
use Rattle.replica.specs.Applied.{IsNext}
use Rattle.replica.specs.Replicas.{Replica, applied, outcome_at, applied_of, answers_at, at}

-- the text at the position was applied: it is that of the next entry. What that has made is there, it is said what became of it, and its
-- answers are behind those before
pub record Applies (position : ℕ) (bytes : List ℕ) (old : Replica) (before : List ℕ) (new : Replica) (what : Applied) (after : List ℕ)
    : Type 0 where
  pub entry : LogEntry
  pub next : IsNext position bytes old entry
  pub made : new ≡ applied old position entry
  pub said : what ≡ applied_of old entry
  pub answers : after ≡ before ++ answers_at old entry

-- the texts of a log were applied, one after the other
abbrev pub Runs : List (ℕ × List ℕ) → Replica → List ℕ → Replica → List ℕ → Type 0
Runs [] old before new after = (new ≡ old) × (after ≡ before)
Runs (one ∷ log) old before new after =
    (next : Replica) × (what : Applied) × (answers : List ℕ)
    × Applies one.0 one.1 old before next what answers × Runs log next answers new after

-- two replicas that were given one log are one, and have given the same answers
abbrev pub OneLogIsOneReplica : Type 0
OneLogIsOneReplica =
    (log : List (ℕ × List ℕ)) (old a b : Replica) (before after_a after_b : List ℕ)
    → Runs log old before a after_a → Runs log old before b after_b → (a ≡ b) × (after_a ≡ after_b)

-- the numbers of a session's entries that are made
abbrev pub made_in_session : ℕ → LogEntry → Outcome → List ℕ
made_in_session session (Calls s sequence position digest lines) outcome.Made = if session == s then sequence ∷ [] else []
made_in_session session e what = []

abbrev pub made_in : ℕ → Replica → List (ℕ × LogEntry) → List ℕ
made_in session r [] = []
made_in session r (one ∷ log) = made_in_session session one.1 (outcome_at r one.1) ++ made_in session (applied r one.0 one.1) log

-- the positions rise
abbrev pub HasRisingPositions : ℕ → List (ℕ × LogEntry) → Type 0
HasRisingPositions position [] = Unit {0}
HasRisingPositions position (one ∷ log) = (position < one.0) × HasRisingPositions one.0 log

-- each number is one more than the one before
abbrev pub Follow : ℕ → List ℕ → Type 0
Follow last [] = Unit {0}
Follow last (n ∷ ns) = (n ≡ last + 1) × Follow n ns

-- whatever entries come, in whatever order and how often: what is made of a session has the numbers 1, 2, 3, and so on, each once
abbrev pub EachIsMadeOnce : Type 0
EachIsMadeOnce =
    (r : Replica) (log : List (ℕ × LogEntry)) (session : ℕ) → r.log.sessions ≡ [] → HasRisingPositions r.log.position log
    → Follow 0 (made_in session r log)

-- an entry that is put again is a repeat, and changes nothing but the position, at which the digest is kept
abbrev pub RepeatsChangeNothing : Type 0
RepeatsChangeNothing =
    (r : Replica) (position again : ℕ) (e : LogEntry) → outcome_at r e ≡ outcome.Made
    → (outcome_at (applied r position e) e ≡ outcome.Repeated) × (applied (applied r position e) again e ≡ at again (applied r position e))
