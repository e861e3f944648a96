use Rattle.std.proofs.Common.{arith}
use Rattle.table_text.proofs.Each.{Each-fits}
use Rattle.table_text.proofs.fits.numbers_fit.Goals as goal

pub returns : goal.returns
returns c = Each-fits c.args._numbers.now (λ i. omega (arith, c.type_inv._numbers i))
