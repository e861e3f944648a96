use Rattle.std.proofs.Common.{rules}
use Rattle.translate.proofs.inside.gather_spaces.Goals as goal

pub loop-key-preserved-in-Some-id : goal.loop-key-preserved-in-Some-id
loop-key-preserved-in-Some-id c = search rules
