-- Laws of the form.
use Rattle.std.specs.Prelude.{◌≡◌, ℕ}
use Rattle.pid_types.specs.declared.plain.Plain.{Plain}
use Rattle.pid_types.specs.State.{State}
use Rattle.pid_types.specs.Shown.{Shows}
use Rattle.table_text.specs.Texts.{text_of, state_shown}
use Rattle.table_text.specs.Ranges.{IsWord, IsStateOfWords}
use Rattle.table_text.specs.Reading.{IsHeldState}

-- a snapshot has the state that it shows
abbrev pub SnapshotsHaveTheirState : Type 0
SnapshotsHaveTheirState = (state : State) (plain : Plain) → Shows state plain → state_shown plain ≡ state

-- equal texts are of one state, sound or not, with one stamp
abbrev pub TextsTellStates : Type 0
TextsTellStates =
    (m n : ℕ) (a b : State) → IsWord m → IsWord n → IsStateOfWords a → IsStateOfWords b
    → text_of m a ≡ text_of n b → (m ≡ n) × (a ≡ b)

-- numbers that fit are words
abbrev pub WhatFitsIsOfWords : Type 0
WhatFitsIsOfWords = (state : State) → IsHeldState state → IsStateOfWords state
