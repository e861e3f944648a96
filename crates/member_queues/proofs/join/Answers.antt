use Rattle.std.proofs.Common.{sym, ◌∙◌, arith}
use Rattle.member_queues.proofs.Trees as trees
use Rattle.member_queues.proofs.join.Goals as goal

pub cut-requires-clause-owned : goal.cut-requires-clause-owned
cut-requires-clause-owned c z = c.requires.owned (sym c.requires.same ∙ z)

pub sink-requires : goal.sink-requires
sink-requires c = grind (arith, trees.same_member, trees.fits_behind)

pub set_level-requires-clause-at : goal.set_level-requires-clause-at
set_level-requires-clause-at c given = grind (arith, trees.within)

pub returns : goal.returns
returns c = grind arith
