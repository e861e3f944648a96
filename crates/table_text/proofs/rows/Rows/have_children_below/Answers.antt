use Rattle.std.proofs.Common.{◌∙◌, sym, ap}
use Rattle.std.specs.Prelude.{nat_lt}
use Rattle.std.proofs.lemmas.List.Folds.{list_all-map}
use Rattle.std.specs.List.{list_all}
use Rattle.pid_types.specs.declared.plain.Row.{Row}
use Rattle.table_text.specs.Rows.{row_in}
use Rattle.table_text.specs.declared.rows.Line.{Line}
use Rattle.table_text.proofs.rows.Rows.have_children_below.Goals as goal

pub returns : goal.returns
returns c =
    c.are_children_below.ensures ∙ ap (list_all (λ (l : Line). nat_lt l.children_space c.args.stamp)) c.deref.ensures.value
    ∙ sym (list_all-map (λ (r : Row). nat_lt r.children_space c.args.stamp) (row_in c.self.inside.numbers.items) c.self.inside.lines.items)
    ∙ ap (list_all (λ (r : Row). nat_lt r.children_space c.args.stamp)) c.self.view_is
