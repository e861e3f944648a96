use Rattle.std.proofs.Common.{rules}
use Rattle.pid_types.specs.Changes.{set_subreaper}
use Rattle.plain_table.proofs.table.PlainTable.set_subreaper.Goals as goal

pub returns-clause-state : goal.returns-clause-state
unfolding set_subreaper
returns-clause-state c = search rules
