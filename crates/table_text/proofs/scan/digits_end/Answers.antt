use Rattle.std.proofs.Common.{arith}
use Rattle.std.proofs.lemmas.Grind.{common_steps}
use Rattle.table_text.proofs.Scanned.{digits_more}
use Rattle.table_text.proofs.scan.digits_end.Goals as goal

pub returns-then-not-is_ascii_digit-clause-stops : goal.returns-then-not-is_ascii_digit-clause-stops
returns-then-not-is_ascii_digit-clause-stops c = grind (arith, common_steps)

pub loop-index-preserved : goal.loop-index-preserved
loop-index-preserved c =
    digits_more c.args.text.now c.args.at c.loop-index.index (omega arith) (omega arith) c.loop-index.invariant c.if-not-is_ascii_digit.ensures.bound
