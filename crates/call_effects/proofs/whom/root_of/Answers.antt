use Rattle.std.proofs.Common.{◌∙◌, sym, ap}
use Rattle.call_effects.proofs.Seen.{root_told, seen_root}
use Rattle.call_effects.proofs.whom.root_of.Goals as goal

pub returns-in-Ok : goal.returns-in-Ok
returns-in-Ok c = ap root_told (sym c.in-Ok.is ∙ c.stat.ensures.told) ∙ seen_root c.args.table.now c.args.caller c.args.number

pub returns-in-Err : goal.returns-in-Err
returns-in-Err c = ap root_told (sym c.in-Err.is ∙ c.stat.ensures.told) ∙ seen_root c.args.table.now c.args.caller c.args.number
