use Rattle.std.proofs.Common.{Some, ap, sym, ◌∙◌}
use Rattle.table_text.proofs.rows.is_same_parent.Goals as goal

pub returns-in-Some-Some : goal.returns-in-Some-Some
returns-in-Some-Some c = λ is. c.in-Some-Some.is-0 ∙ ap Some (c.is_same.ensures is) ∙ sym c.in-Some-Some.is-1
