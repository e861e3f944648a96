-- Texts that no table wrote.
use Rattle.std.specs.Prelude.{◌≡◌, ℕ, List}
use Rattle.pid_types.specs.Sound.{IsBelow}
use Rattle.pid_types.specs.State.{State}
use Rattle.table_build.specs.Tables.{IsOfTables}
use Rattle.table_text.specs.Ranges.{IsWord}
use Rattle.table_text.specs.Reading.{IsHeldState}
use Rattle.table_text.specs.Texts.{text_of}

-- the text is that of no state that a table has, with all its ids below the stamp
abbrev pub IsTextOfNoTable : List ℕ → Type 0
IsTextOfNoTable text =
    (stamp : ℕ) (state : State) → IsWord stamp → IsHeldState state → IsOfTables state → IsBelow stamp state → text ≡ text_of stamp state → ⊥
