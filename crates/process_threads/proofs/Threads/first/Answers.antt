use Rattle.std.proofs.Common.{arith}
use Rattle.process_threads.proofs.Told as told
use Rattle.process_threads.proofs.Threads.first.Goals as goal

pub first-requires : goal.first-requires
first-requires c = let rooms = told.rooms _ _ _ _ c.self.view_is c.self.invariant.rooms in let low = c.requires in omega (arith, rooms, low)

pub returns : goal.returns
returns c = told.first_told _ _ _ _ c.self.view_is c.self.invariant.rooms c.args.process c.first.result c.first.ensures
