use Rattle.std.proofs.Common.{rules}
use Rattle.std.proofs.lemmas.Result.{IfOk-weaker}
use Rattle.locked_table.proofs.Seats.{of_new}
use Rattle.locked_table.proofs.record.Record.new.Goals as goal

pub returns-clause-seats : goal.returns-clause-seats
returns-clause-seats g c = IfOk-weaker c.with_seats.result _ _ (λ r. of_new g.row.N _ _ _ r.1.items c.in_ok-new.ensures) c.with_seats.ensures.seats

pub returns-clause-record : goal.returns-clause-record
returns-clause-record g c = search rules
