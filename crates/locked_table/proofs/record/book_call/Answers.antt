use Rattle.std.proofs.Common.{rules}
use Rattle.locked_table.proofs.record.book_call.Goals as goal

pub invariant_of-seat : goal.invariant_of-seat
invariant_of-seat g c = search rules

pub returns-clause-book : goal.returns-clause-book
returns-clause-book g c = search rules
