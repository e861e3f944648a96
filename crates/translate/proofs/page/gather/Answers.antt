use Rattle.std.proofs.Common.{rules}
use Rattle.translate.proofs.page.gather.Goals as goal

pub loop-key-preserved-in-Some-number_in : goal.loop-key-preserved-in-Some-number_in
loop-key-preserved-in-Some-number_in c = search rules
