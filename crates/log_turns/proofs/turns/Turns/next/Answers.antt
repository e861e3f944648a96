-- Each is proved at once, and so it is refused at once where a wrong body breaks it.
use Rattle.std.proofs.Common.{rules}
use Rattle.log_turns.proofs.turns.Turns.next.Goals as goal

pub returns-then-size-gt0 : goal.returns-then-size-gt0
returns-then-size-gt0 c = search rules

pub returns-then-self-4 : goal.returns-then-self-4
returns-then-self-4 c = search rules

pub returns-then-self-6 : goal.returns-then-self-6
returns-then-self-6 c = search rules

pub returns-then-self-10 : goal.returns-then-self-10
returns-then-self-10 c = search rules
