use Rattle.std.proofs.lemmas.Result.{IfOk-weaker}
use Rattle.locked_table.proofs.Seats.{of_resumed}
use Rattle.locked_table.proofs.record.Record.resume.Goals as goal

pub returns-clause-seats : goal.returns-clause-seats
returns-clause-seats g c = IfOk-weaker c.with_seats.result _ _ (λ r. of_resumed g.row.N _ _ _ _ _ r.1.items c.in_ok-resume.ensures) c.with_seats.ensures.seats
