use Rattle.std.proofs.Common.{refl, arith}
use Rattle.table_build.specs.declared.fault.BuildFault.TheVariants.{NoMemory}
use Rattle.task_table.proofs.Results.{if_err}
use Rattle.table_build.proofs.falls.add_flag.Goals as goal

pub returns-else-space-clause-added : goal.returns-else-space-clause-added
returns-else-space-clause-added c = grind arith

pub returns-in_ok-set_flag-clause-few : goal.returns-in_ok-set_flag-clause-few
returns-in_ok-set_flag-clause-few c = grind arith

pub returns-in_default-clause-refused : goal.returns-in_default-clause-refused
returns-in_default-clause-refused c = grind arith

pub returns-in_ok-set_flag-clause-added : goal.returns-in_ok-set_flag-clause-added
returns-in_ok-set_flag-clause-added c = grind arith

pub returns-in_err-set_flag-clause-refused : goal.returns-in_err-set_flag-clause-refused
returns-in_err-set_flag-clause-refused c = if_err c.from_residual.result _ NoMemory c.from_residual.ensures.1 (λ not. absurd (not refl))
