use Rattle.std.proofs.Common.{rules}
use Rattle.plain_table.proofs.table.PlainTable.carry_out.Goals as goal

pub returns-in_err-try_reserve-3-clause-err : goal.returns-in_err-try_reserve-3-clause-err
returns-in_err-try_reserve-3-clause-err c = search rules
