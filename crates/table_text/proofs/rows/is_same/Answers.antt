use Rattle.std.proofs.lemmas.Bool.{eqb-true}
use Rattle.table_text.proofs.rows.is_same.Goals as goal

pub returns : goal.returns
returns c = λ is i. record { space = c.if-place-other.false i; start = c.if-place-other-2.false i; count = eqb-true c.args.place.count c.args.other.count is i }
