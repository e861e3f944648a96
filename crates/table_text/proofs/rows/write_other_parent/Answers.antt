use Rattle.std.proofs.Common.{ap, option_map, refl, sym, ◌∙◌}
use Rattle.table_text.specs.Rows.{name_in}
use Rattle.table_text.proofs.rows.write_other_parent.Goals as goal

pub returns-then-is_same_parent : goal.returns-then-is_same_parent
returns-then-is_same_parent c = c.requires.before ∙ ap (option_map (name_in c.args.numbers.now)) (sym (c.if-is_same_parent.ensures refl))
