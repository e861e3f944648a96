use Rattle.std.proofs.Common.{rules}
use Rattle.locked_table.proofs.record.Record.act.Goals as goal

pub returns-in_err-make_call-clause-err : goal.returns-in_err-make_call-clause-err
returns-in_err-make_call-clause-err g c = search rules

pub returns-clause-history : goal.returns-clause-history
returns-clause-history g c = search rules

pub returns-clause-others : goal.returns-clause-others
returns-clause-others g c = search rules
