use Rattle.std.proofs.Common.{◌∙◌, sym, ap, subst, length, Some, arith}
use Rattle.std.proofs.lemmas.Grind.{common_steps}
use Rattle.std.specs.Prelude.{slice_get}
use Rattle.table_text.specs.Rows.{IsLineWithin, row_in}
use Rattle.table_text.proofs.Standing.{inside, line_at, row_at}
use Rattle.table_text.proofs.rows.Rows.write.Goals as goal

pub write_row-requires : goal.write_row-requires
write_row-requires c =
    let lt = inside c.self.inside.numbers.items c.self.inside.lines.items c.args.index c.args.self.now c.self.view_is c.requires in
    subst (λ ns. IsLineWithin (length ns) c.index.result.now) (sym c.as_slice.ensures.value)
    (line_at (length c.self.inside.numbers.items) c.self.inside.lines.items c.args.index c.index.result.now c.self.invariant lt c.index.ensures)

pub index-requires : goal.index-requires
index-requires c = grind (arith, common_steps)

pub returns : goal.returns
returns c =
    let lt = inside c.self.inside.numbers.items c.self.inside.lines.items c.args.index c.args.self.now c.self.view_is c.requires in
    ap (λ rows. slice_get rows c.args.index) (sym c.self.view_is)
    ∙ row_at c.self.inside.numbers.items c.self.inside.lines.items c.args.index c.index.result.now lt c.index.ensures
    ∙ ap Some (ap (λ ns. row_in ns c.index.result.now) (sym c.as_slice.ensures.value) ∙ sym c.write_row.ensures)
