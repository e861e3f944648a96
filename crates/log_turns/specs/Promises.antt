-- What holds whenever, after whatever has happened since a start.
use Rattle.std.specs.Prelude.{◌≡◌, ℕ, ◌≤◌, List, ◌∷◌, Bool, true, IsSomeAnd}
use Rattle.log_turns.specs.Disk.{Disk, start_takes, IsLeft, NamesLog, AreInOrder}
use Rattle.log_turns.specs.World.{World, Happening, calls_to, EndUpTo, started, AllMayHappen, after}

-- these may happen after a start that has found these calls, and come to this
pub record IsComeTo (w : World) : Type 0 where
  pub ends : List ℕ
  pub size : ℕ
  pub is_always : Bool
  pub is_named : Bool
  pub events : List Happening
  pub found : EndUpTo size ends
  pub may_happen : AllMayHappen (started ends size is_always is_named) events
  pub now : w ≡ after (started ends size is_always is_named) events

-- where each call is synced before it is answered: so many calls as are answered lie in what is synced
abbrev pub AnswersWhatIsSynced : World → Type 0
AnswersWhatIsSynced w = w.turns.is_always ≡ true → w.turns.answered ≤ calls_to w.turns.synced w.ends

-- the logs have each byte of the calls once, in order
abbrev pub HasEachCallOnce : World → Type 0
HasEachCallOnce w = AreInOrder (w.disk.log ∷ w.disk.older)

-- after a sync that has failed nobody is answered any more, whatever happens
abbrev pub AnswersNoMore : World → Type 0
AnswersNoMore w =
    w.turns.is_lost ≡ true → (events : List Happening) → AllMayHappen w events → (after w events).turns.answered ≡ w.turns.answered

-- a start after the process was killed takes the first calls, and all that were answered
abbrev pub KeepsIfKilled : World → Type 0
KeepsIfKilled w = IsSomeAnd (start_takes w.disk) (λ at. w.turns.answered ≤ calls_to at w.ends)

-- a start after a loss of power takes the first calls: all that was synced, and so, where that comes first, all that were answered
abbrev pub KeepsWithoutPower : World → Type 0
KeepsWithoutPower w =
    (left : Disk) → IsLeft w.disk left
    → IsSomeAnd (start_takes left) (λ at. (w.turns.synced ≤ at) × (w.turns.is_always ≡ true → w.turns.answered ≤ calls_to at w.ends))

-- `current` names a log that is there, then too
abbrev pub NamesWhatIsThere : World → Type 0
NamesWhatIsThere w = NamesLog w.disk × ((left : Disk) → IsLeft w.disk left → NamesLog left)
