use Rattle.std.proofs.Common.{◌∙◌, ap}
use Rattle.call_effects.specs.Whom.{is_number}
use Rattle.task_table.proofs.Alone.{caller-live}
use Rattle.call_effects.proofs.Seen.{own_init}
use Rattle.call_effects.proofs.whom.is_own_init.Goals as goal

pub returns : goal.returns
returns c row at = c.is_number.ensures ∙ ap (is_number 1) (c.ask.ensures 0) ∙ own_init c.args.table.now 0 c.args.caller row (caller-live c.args.table.now c.no_threads.ensures.threads c.no_threads.ensures.left c.args.caller ∙ at)
