use Rattle.std.proofs.Common.{arith}
use Rattle.pids_charge.proofs.room.make_room.Goals as goal

pub returns-clause-key : goal.returns-clause-key
returns-clause-key c = grind arith

pub returns-clause-reserved : goal.returns-clause-reserved
returns-clause-reserved c = grind arith
