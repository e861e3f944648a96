use Rattle.std.proofs.Common.{arith}
use Rattle.std.proofs.lemmas.Grind.{common_steps}
use Rattle.table_build.proofs.settle.adopt.Goals as goal

pub adopt-requires-clause-live : goal.adopt-requires-clause-live
adopt-requires-clause-live c = grind arith

pub returns-clause-parent : goal.returns-clause-parent
returns-clause-parent c = grind arith

pub parent-requires : goal.parent-requires
parent-requires c = grind (arith, common_steps)

pub adopt-requires-clause-parent : goal.adopt-requires-clause-parent
adopt-requires-clause-parent c = grind arith

pub returns-clause-parents : goal.returns-clause-parents
returns-clause-parents c = grind arith

pub returns-then-not-is_live-clause-refused : goal.returns-then-not-is_live-clause-refused
returns-then-not-is_live-clause-refused c = grind arith

pub returns-clause-adopted : goal.returns-clause-adopted
returns-clause-adopted c = grind arith

pub adopt-requires-clause-orphan : goal.adopt-requires-clause-orphan
adopt-requires-clause-orphan c = grind arith

pub returns-clause-rest : goal.returns-clause-rest
returns-clause-rest c = grind arith
