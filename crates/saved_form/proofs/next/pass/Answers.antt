use Rattle.std.proofs.Common.{length, arith}
use Rattle.std.proofs.lemmas.Slice.{between_to_end}
use Rattle.saved_form.proofs.next.pass.Goals as goal

pub returns-clause-other : goal.returns-clause-other
returns-clause-other c = λ some.
    let behind = between_to_end c.args.bytes.now c.args.from (length c.args.bytes.now) (omega arith) in cc
