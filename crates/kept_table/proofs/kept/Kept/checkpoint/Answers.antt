use Rattle.std.proofs.Common.{rules}
use Rattle.kept_table.proofs.Cuts.{whole-all}
use Rattle.kept_table.proofs.kept.Kept.checkpoint.Goals as goal

-- the present state becomes the opening
pub invariant_of-self-2 : goal.invariant_of-self-2
invariant_of-self-2 c =
    whole-all c.soundness_is_kept.ensures.run c.bound_stays.ensures c.self.inside.history c.cut_all.new.self _ _ _ _ _ _ _ _ _ _ _ _ c.self.invariant c.in_ok-cut_all.ensures.ok
    (search rules)
    (search rules)
    (search rules)

pub returns-clause-ok : goal.returns-clause-ok
returns-clause-ok c = search rules
