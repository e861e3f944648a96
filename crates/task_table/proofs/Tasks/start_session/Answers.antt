use Rattle.std.proofs.Common.{arith}
use Rattle.std.proofs.lemmas.Grind.{common_steps}
use Rattle.task_table.proofs.Tasks.start_session.Goals as goal

pub move_to-requires-clause-room : goal.move_to-requires-clause-room
move_to-requires-clause-room c = grind (arith, common_steps)

pub move_to-requires-clause-session_room : goal.move_to-requires-clause-session_room
move_to-requires-clause-session_room c = grind (arith, common_steps)
