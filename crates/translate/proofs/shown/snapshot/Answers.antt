use Rattle.std.proofs.Common.{rules}
use Rattle.translate.proofs.shown.snapshot.Goals as goal

pub returns : goal.returns
returns c = search rules
