-- What a line of the script language says.
use Rattle.std.specs.Prelude.{◌≡◌, ◌≢◌, ◌↔◌, ◌<◌, ℕ, List, length, Option, IsSome}
use Rattle.pid_script.specs.declared.answer.TheConstants.{LONGEST_ANSWER}
use Rattle.pid_script.specs.declared.line.Line.{Line}
use Rattle.pid_script.specs.declared.line.Line.TheVariants.{Call, Empty, Bad}
use Rattle.pid_script.specs.Reading.{parsed}
use Rattle.foreign_numbers.specs.declared.status.TheConstants.{DONE, EMPTY_LINE, BAD_LINE, NO_ROOM}

-- the line says a call
abbrev pub IsCall : Line → Type 0
IsCall (Call call) = Unit {0}
IsCall Empty = ⊥
IsCall Bad = ⊥

-- the line says no call, or the room is shorter than the longest answer, and only then the size is told without one
pub record RefusesLine {X : Type 0} (held : Option X) (line room : List ℕ) (before size status : ℕ) : Type 0 where
  pub empty : (status ≡ EMPTY_LINE) ↔ IsSome held × (parsed line ≡ Empty)
  pub bad : (status ≡ BAD_LINE) ↔ IsSome held × (parsed line ≡ Bad)
  pub no_room : (status ≡ NO_ROOM) ↔ IsSome held × IsCall (parsed line) × (length room < LONGEST_ANSWER)
  pub longest : status ≡ NO_ROOM → size ≡ LONGEST_ANSWER
  pub same_size : status ≢ DONE → status ≢ NO_ROOM → size ≡ before
