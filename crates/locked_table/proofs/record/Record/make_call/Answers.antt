use Rattle.std.proofs.Common.{rules}
use Rattle.locked_table.proofs.record.Record.make_call.Goals as goal

pub book_call-requires : goal.book_call-requires
book_call-requires g c = search rules

pub returns-in_err-make_call-clause-err_seat : goal.returns-in_err-make_call-clause-err_seat
returns-in_err-make_call-clause-err_seat g c = search rules

pub invariant_of-self : goal.invariant_of-self
invariant_of-self g c = search rules
