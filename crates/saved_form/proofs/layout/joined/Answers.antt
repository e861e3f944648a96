use Rattle.std.proofs.Common.{rules}
use Rattle.saved_form.proofs.Eights.{five_eights}
use Rattle.saved_form.proofs.layout.joined.Goals as goal

pub returns : goal.returns
returns c = five_eights c.args.a c.args.b c.args.c c.args.d c.args.e (search rules) (search rules) (search rules) (search rules) (search rules)
