use Rattle.std.proofs.Common.{rules}
use Rattle.index_array.proofs.WordBits.{kept_less}
use Rattle.index_array.proofs.bits.loses_all.Goals as goal

pub returns : goal.returns
returns c = λ more new off others. kept_less c.args.word c.args.k (search rules) c.requires (search rules) new off others
