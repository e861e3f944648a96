use Rattle.std.proofs.Common.{rules}
use Rattle.saved_form.specs.Form.{first_block, asked}
use Rattle.saved_form.proofs.layout.first_block.Goals as goal

pub returns : goal.returns
unfolding first_block asked
returns c = search rules
