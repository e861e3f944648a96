use Rattle.index_array.proofs.Exchanges.{swaps_past}
use Rattle.index_array.proofs.root.exchange_in.Goals as goal

pub returns-else-i-span-clause-swaps : goal.returns-else-i-span-clause-swaps
returns-else-i-span-clause-swaps g c = swaps_past _ c.requires.top.low _ _ c.args.i c.requires.top.whole (rw (← c.span.ensures) c.if-i-span.false) c.requires.room
