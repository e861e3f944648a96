use Rattle.std.proofs.Common.{arith}
use Rattle.process_threads.proofs.Told as told
use Rattle.process_threads.proofs.Threads.members.Goals as goal

pub members-requires : goal.members-requires
members-requires c = let rooms = told.rooms _ _ _ _ c.self.view_is c.self.invariant.rooms in let low = c.requires in omega (arith, rooms, low)

pub returns : goal.returns
returns c = rw (told.processes_are _ _ _ _ c.self.view_is c.self.invariant.rooms) c.members.ensures
