use Rattle.std.proofs.Common.{rules}
use Rattle.foreign_numbers.proofs.numbers.put_refusal.Goals as goal

pub returns : goal.returns
returns c = search rules
