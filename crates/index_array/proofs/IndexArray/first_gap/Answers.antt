use Rattle.std.proofs.Common.{ap, not}
use Rattle.index_array.proofs.IndexArray.first_gap.Goals as goal

pub returns-then-gap-last : goal.returns-then-gap-last
returns-then-gap-last c =
    (c.gap_from-gap.ensures.above, rw (← c.min-last.ensures) c.if-gap-last.true, ap not c.gap_from-gap.ensures.absent, λ k low high. ap not (c.gap_from-gap.ensures.least k low high))
