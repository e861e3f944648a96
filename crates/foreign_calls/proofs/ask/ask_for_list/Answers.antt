use Rattle.std.proofs.Common.{arith}
use Rattle.foreign_calls.proofs.ask.ask_for_list.Goals as goal

pub put_told-requires-clause-fits : goal.put_told-requires-clause-fits
put_told-requires-clause-fits c = omega (arith, (c.ns_pid-told.ensures.reply 0).fits)
