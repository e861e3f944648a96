use Rattle.std.proofs.Common.{◌≡◌, ◌∙◌, ◌<◌, ◌-◌, sym, ap, subst, length, Some, arith}
use Rattle.std.proofs.lemmas.Grind.{common_steps}
use Rattle.std.specs.Prelude.{slice_get}
use Rattle.table_text.specs.Rows.{IsLineWithin, row_in}
use Rattle.table_text.proofs.Standing.{inside, line_at, row_at}
use Rattle.table_text.proofs.rows.Rows.write_next.Goals as goal

pub returns-then-index-eq0 : goal.returns-then-index-eq0
returns-then-index-eq0 c = grind (arith, common_steps)

pub write_row-requires : goal.write_row-requires
write_row-requires c =
    let lt = inside c.self.inside.numbers.items c.self.inside.lines.items c.args.index c.args.self.now c.self.view_is c.requires.index in
    subst (λ ns. IsLineWithin (length ns) c.index.result.now) (sym c.as_slice-numbers.ensures.value)
    (line_at (length c.self.inside.numbers.items) c.self.inside.lines.items c.args.index c.index.result.now c.self.invariant lt c.index.ensures)

pub index-requires-2 : goal.index-requires-2
index-requires-2 c = grind (arith, common_steps)

pub write_other_row-requires-clause-within : goal.write_other_row-requires-clause-within
write_other_row-requires-clause-within c =
    let lt = inside c.self.inside.numbers.items c.self.inside.lines.items c.args.index c.args.self.now c.self.view_is c.requires.index in
    subst (λ ns. IsLineWithin (length ns) c.index-2.result.now) (sym c.as_slice-numbers.ensures.value)
    (line_at (length c.self.inside.numbers.items) c.self.inside.lines.items c.args.index c.index-2.result.now c.self.invariant lt c.index-2.ensures)

pub index-requires : goal.index-requires
index-requires c = grind (arith, common_steps)

pub write_other_row-requires-clause-before : goal.write_other_row-requires-clause-before
write_other_row-requires-clause-before c =
    let ns = c.self.inside.numbers.items in
    let ls = c.self.inside.lines.items in
    let line = c.index-3.result.now in
    let lt = inside ns ls c.args.index c.args.self.now c.self.view_is c.requires.index in
    let not = c.if-index-eq0.false in
    let some : 0 < c.args.index = omega (arith, not) in
    let before : c.args.index - 1 < length ls = omega (arith, lt) in
    let z : Some c.args.row.now ≡ Some (row_in ns line) =
    sym (c.requires.before some) ∙ ap (λ rows. slice_get rows (c.args.index - 1)) (sym c.self.view_is) ∙ row_at ns ls (c.args.index - 1) line before c.index-3.ensures in
    let same : c.args.row.now ≡ row_in ns line = cc in
    same ∙ ap (λ ms. row_in ms line) (sym c.as_slice-numbers.ensures.value)

pub returns : goal.returns
returns c =
    let lt = inside c.self.inside.numbers.items c.self.inside.lines.items c.args.index c.args.self.now c.self.view_is c.requires.index in
    ap (λ rows. slice_get rows c.args.index) (sym c.self.view_is)
    ∙ row_at c.self.inside.numbers.items c.self.inside.lines.items c.args.index c.index-2.result.now lt c.index-2.ensures
    ∙ ap Some (ap (λ ns. row_in ns c.index-2.result.now) (sym c.as_slice-numbers.ensures.value) ∙ sym c.write_other_row.ensures)

pub index-requires-3 : goal.index-requires-3
index-requires-3 c = grind (arith, common_steps)
