use Rattle.std.proofs.Common.{rules}
use Rattle.saved_form.proofs.take.is_block.Goals as goal

pub returns : goal.returns
returns c = search rules
