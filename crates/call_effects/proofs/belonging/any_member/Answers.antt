use Rattle.std.proofs.Common.{◌∙◌, ap}
use Rattle.call_effects.specs.Whom.{is_number}
use Rattle.call_effects.proofs.Seen.{members_asked}
use Rattle.call_effects.proofs.belonging.any_member.Goals as goal

pub returns : goal.returns
returns c = c.is_number.ensures ∙ ap (is_number c.args.number) (c.ask.ensures 0) ∙ members_asked c.args.table.now 0 c.args.number c.args.kind c.laws.ensures c.no_threads.ensures.threads c.no_threads.ensures.left
