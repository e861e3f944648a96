use Rattle.std.proofs.Common.{arith}
use Rattle.pid_script.proofs.Room.{room}
use Rattle.pid_script.proofs.answer.push_labelled.Goals as goal

pub push_number-requires : goal.push_number-requires
push_number-requires c = grind (arith, room)

pub returns-clause-len : goal.returns-clause-len
returns-clause-len c = grind (arith, room)
