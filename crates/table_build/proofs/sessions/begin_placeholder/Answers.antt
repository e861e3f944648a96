use Rattle.std.proofs.Common.{refl, arith}
use Rattle.table_build.specs.declared.fault.BuildFault.TheVariants.{NoMemory}
use Rattle.task_table.proofs.Results.{if_err}
use Rattle.table_build.proofs.sessions.begin_placeholder.Goals as goal

pub returns-in_err-add_placeholder-clause-refused : goal.returns-in_err-add_placeholder-clause-refused
returns-in_err-add_placeholder-clause-refused c = if_err c.from_residual-in_err-add_placeholder.result _ NoMemory c.from_residual-in_err-add_placeholder.ensures.1 (λ not. absurd (not refl))

pub returns-clause-held : goal.returns-clause-held
returns-clause-held c = grind arith

pub returns-clause-put : goal.returns-clause-put
returns-clause-put c = grind arith

pub returns-in_err-key-clause-refused : goal.returns-in_err-key-clause-refused
returns-in_err-key-clause-refused c = if_err c.from_residual.result _ c.in_err-key.field-0.0 c.from_residual.ensures.1 (λ not there may. c.in_err-key.ensures.refused not may)
