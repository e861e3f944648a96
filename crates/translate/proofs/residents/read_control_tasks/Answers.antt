use Rattle.std.proofs.Common.{rules}
use Rattle.translate.proofs.residents.read_control_tasks.Goals as goal

pub returns-in_default-find-clause-told : goal.returns-in_default-find-clause-told
returns-in_default-find-clause-told c = search rules

pub returns-clause-told : goal.returns-clause-told
returns-clause-told c = search rules
