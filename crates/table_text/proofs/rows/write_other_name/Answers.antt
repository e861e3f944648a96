use Rattle.std.proofs.Common.{ap, refl, sym, ◌∙◌}
use Rattle.table_text.specs.Rows.{name_in}
use Rattle.table_text.proofs.rows.write_other_name.Goals as goal

pub returns-then-is_same : goal.returns-then-is_same
returns-then-is_same c = c.requires.before ∙ ap (name_in c.args.numbers.now) (sym (c.if-is_same.ensures refl))
