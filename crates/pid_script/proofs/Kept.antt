-- No call is written on a line that is not kept.
use Rattle.std.proofs.Common.{◌≡◌, ℕ, ◌<◌, Bool, true, false, cond, leb, List, [], ◌∷◌, length, Option, Some, None, refl, arith, leb-false}
use Rattle.pid_types.specs.declared.call.Call.{Call}
use Rattle.pid_script.specs.declared.line.Line.{Line}
use Rattle.pid_script.specs.declared.line.Line.TheVariants as says
use Rattle.pid_script.specs.Reading.{call_read, call_or_bad, parsed}
use Rattle.pid_script.specs.Script.{kept_line, said_line}
use Rattle.pid_script.proofs.Read.{line_of-parsed}

not_empty : (o : Option Call) → call_or_bad o ≡ says.Empty → ⊥
not_empty None is = cc
not_empty (Some c) is = cc

-- a longer line is bad
long_is_bad : (line : List ℕ) (l : Line) → 200 < length line → parsed line ≡ l → says.Bad ≡ l
long_is_bad [] says.Empty long is = absurd (omega arith)
long_is_bad (b ∷ bs) says.Empty long is = absurd (not_empty (call_read (b ∷ bs)) is)
long_is_bad line (says.Call c) long is = let short = (line_of-parsed line c is).1 in absurd (omega arith)
long_is_bad line says.Bad long is = refl

-- what was kept of a line says what the line says
pub said_by_kept : (line : List ℕ) → said_line (kept_line line) ≡ parsed line
said_by_kept line = at (leb (length line) 200) refl
  where
    at : (t : Bool) → leb (length line) 200 ≡ t → said_line (cond t (Some line) None) ≡ parsed line
    at true short = refl
    at false long = long_is_bad line (parsed line) (leb-false _ _ long) refl
