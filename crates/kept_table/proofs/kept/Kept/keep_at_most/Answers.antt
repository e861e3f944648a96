use Rattle.std.proofs.Common.{subst}
use Rattle.kept_table.specs.Calls.{IsWithoutFirst}
use Rattle.kept_table.proofs.Bounds.{in_two}
use Rattle.kept_table.proofs.Cuts.{without-then}
use Rattle.kept_table.proofs.Waits.{fewer_by_two}
use Rattle.kept_table.proofs.kept.Kept.keep_at_most.Goals as goal

pub returns-clause-cut : goal.returns-clause-cut
returns-clause-cut c =
    subst (λ n. IsWithoutFirst n c.args.self.now c.cut_to-2.new.self) (in_two _ _ c.args.keep c.cut_to.ensures.cut) (without-then _ _ _ _ _ c.cut_to.ensures.cut c.cut_to-2.ensures.cut)

pub returns-clause-moved : goal.returns-clause-moved
returns-clause-moved c = fewer_by_two _ _ _ c.cut_to.ensures.moved c.cut_to-2.ensures.moved
