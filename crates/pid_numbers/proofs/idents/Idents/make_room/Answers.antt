use Rattle.std.proofs.Common.{arith}
use Rattle.std.proofs.lemmas.Grind.{common_steps}
use Rattle.pid_numbers.proofs.idents.Idents.make_room.Goals as goal

pub invariant_of-self-in-Continue-branch-3 : goal.invariant_of-self-in-Continue-branch-3
invariant_of-self-in-Continue-branch-3 c = grind arith

pub invariant_of-self-in_err-try_reserve-2 : goal.invariant_of-self-in_err-try_reserve-2
invariant_of-self-in_err-try_reserve-2 c = grind arith

pub returns-in_ok-try_reserve-2-clause-room : goal.returns-in_ok-try_reserve-2-clause-room
returns-in_ok-try_reserve-2-clause-room c = grind (arith, common_steps)

pub returns-in_ok-try_reserve-2-clause-key : goal.returns-in_ok-try_reserve-2-clause-key
returns-in_ok-try_reserve-2-clause-key c = grind arith

pub invariant_of-self : goal.invariant_of-self
invariant_of-self c = grind arith
