use Rattle.kept_table.proofs.Bounds.{kept-behind}
use Rattle.kept_table.proofs.Waits.{fewer_after}
use Rattle.kept_table.proofs.kept.Kept.make_call_keeping.Goals as goal

pub returns-clause-cut : goal.returns-clause-cut
returns-clause-cut c = kept-behind c.args.self.now c.make_call.new.self _ c.args.worker c.args.call c.args.keep c.in_ok-make_call.ensures.others c.in_ok-make_call.ensures.history c.in_ok-make_call.ensures.step c.keep_at_most.ensures.cut

pub returns-clause-fewer : goal.returns-clause-fewer
returns-clause-fewer c = fewer_after _ _ _ c.in_ok-make_call.ensures.moved c.keep_at_most.ensures.moved
