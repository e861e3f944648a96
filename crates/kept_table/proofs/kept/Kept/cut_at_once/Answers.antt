use Rattle.std.proofs.Common.{rules}
use Rattle.kept_table.proofs.Cuts.{whole-bare}
use Rattle.kept_table.proofs.kept.Kept.cut_at_once.Goals as goal

-- the present state becomes the opening as it is
pub invariant_of-self : goal.invariant_of-self
invariant_of-self c =
    whole-bare c.soundness_is_kept.ensures.run c.bound_stays.ensures c.self.inside.history c.forget.new.self _ _ _ _ _ _ _ _ _ _ _ c.self.invariant c.forget.ensures
    (search rules)
    (search rules)
    (search rules)
