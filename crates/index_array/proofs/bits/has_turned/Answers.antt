use Rattle.std.proofs.Common.{rules}
use Rattle.index_array.proofs.WordBits.{kept_alike}
use Rattle.index_array.proofs.bits.has_turned.Goals as goal

pub returns : goal.returns
returns c = λ same. kept_alike c.args.old c.args.new (search rules) (search rules) same
