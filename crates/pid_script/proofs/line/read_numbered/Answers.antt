use Rattle.std.proofs.Common.{arith}
use Rattle.std.proofs.lemmas.Grind.{common_steps}
use Rattle.pid_script.specs.Reading.{numbered_of}
use Rattle.pid_script.proofs.line.read_numbered.Goals as goal

pub bounds-selector-2 : goal.bounds-selector-2
bounds-selector-2 c = grind arith

pub bounds-selector-0 : goal.bounds-selector-0
bounds-selector-0 c = grind arith

pub bounds-selector-4 : goal.bounds-selector-4
bounds-selector-4 c = grind arith

pub returns-in-group : goal.returns-in-group
unfolding numbered_of
returns-in-group c = grind (arith, common_steps)

pub bounds-selector-0-then-selector-lt6 : goal.bounds-selector-0-then-selector-lt6
bounds-selector-0-then-selector-lt6 c = grind arith

pub returns-in-pid : goal.returns-in-pid
unfolding numbered_of
returns-in-pid c = grind (arith, common_steps)

pub bounds-selector-2-in-114-1 : goal.bounds-selector-2-in-114-1
bounds-selector-2-in-114-1 c = grind arith

pub bounds-selector-1 : goal.bounds-selector-1
bounds-selector-1 c = grind arith

pub bounds-selector-3 : goal.bounds-selector-3
bounds-selector-3 c = grind arith

pub bounds-selector-1-in-103-1 : goal.bounds-selector-1-in-103-1
bounds-selector-1-in-103-1 c = grind arith
