use Rattle.std.proofs.Common.{rules}
use Rattle.kept_table.proofs.Counts.{whole-resumed}
use Rattle.kept_table.proofs.kept.Kept.resume.Goals as goal

-- the table's state is the opening as it is
pub invariant_of-kept : goal.invariant_of-kept
invariant_of-kept c =
    whole-resumed _ _ c.args.stamp _ c.args.counts.now _ _ _ c.laws.ensures c.requires.below c.requires.fits
    (search rules)
    (search rules)
    (search rules)
    (c.added-before.ensures.exact (search rules))
    (c.in_ok-cut.ensures.items_if_clones_equal (λ x y same. same))
    (c.in_ok-calls.ensures.items_if_clones_equal (λ x y same. same))
    (search rules)

pub returns : goal.returns
returns c = search rules
