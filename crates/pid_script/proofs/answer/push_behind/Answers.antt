use Rattle.std.proofs.Common.{arith}
use Rattle.std.proofs.lemmas.Grind.{common_steps}
use Rattle.pid_script.proofs.Room.{room}
use Rattle.pid_script.proofs.answer.push_behind.Goals as goal

pub returns-clause-items : goal.returns-clause-items
returns-clause-items c = grind (arith, common_steps)

pub push_number-requires : goal.push_number-requires
push_number-requires c = grind (arith, room)

pub returns-clause-len : goal.returns-clause-len
returns-clause-len c = grind (arith, room)
