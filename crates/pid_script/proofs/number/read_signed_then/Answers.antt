-- Without a minus the number is read as one with no sign
use Rattle.std.proofs.Common.{◌∷◌, sym, ◌∙◌, ap, arith}
use Rattle.std.proofs.lemmas.Slice.{between_to_end}
use Rattle.pid_script.specs.Reading.{signed_then, IsUnsigned}
use Rattle.pid_script.proofs.Signed.{minus_first}
use Rattle.pid_script.proofs.number.read_signed_then.Goals as goal
use Rattle.pid_script.proofs.number.read_signed_then.Goals.{in_default-via-then-words-lt1, in_default-via-else-words-lt1+in_default-1}

pub returns-in-45 : goal.returns-in-45
returns-in-45 c =
    let words = c.args.words.now in
    c.read_negative_then.ensures ∙ ap (λ digits. signed_then (45 ∷ digits)) (between_to_end words 1 _ (omega arith))
    ∙ ap signed_then (sym (minus_first words (omega arith) (omega arith)))

pub returns-in_default : goal.returns-in_default
returns-in_default c =
    let plain : IsUnsigned c.args.words.now = elim c.in_default.branch [
      | in_default-via-then-words-lt1 w ↦ λ long. absurd (grind arith)
      | in_default-via-else-words-lt1+in_default-1 w ↦ λ long minus. absurd (grind arith)
    ] in
    c.read_unsigned_then.ensures plain
