use Rattle.std.proofs.Common.{sym, ◌∙◌, arith, ap}
use Rattle.std.proofs.lemmas.Slice.{between_to_end}
use Rattle.pid_script.specs.Reading.{negative_of}
use Rattle.pid_script.proofs.Numbers.{signed_of-minus}
use Rattle.pid_script.proofs.number.read_i32.Goals as goal

pub returns-in-45 : goal.returns-in-45
returns-in-45 c =
    c.read_negative.ensures ∙ ap negative_of (between_to_end c.args.word.now 1 _ (omega arith))
    ∙ sym (signed_of-minus c.args.word.now (omega arith) (omega arith))
