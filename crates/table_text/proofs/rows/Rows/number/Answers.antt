use Rattle.std.proofs.Common.{◌≡◌, ◌∙◌, sym, subst, ap, length, slice_get, arith}
use Rattle.std.proofs.lemmas.Grind.{common_steps}
use Rattle.table_text.specs.Rows.{IsWithin, name_in}
use Rattle.table_text.proofs.Standing.{inside, line_at, row_at, some_at}
use Rattle.table_text.proofs.rows.Rows.number.Goals as goal

pub numbers_at-requires : goal.numbers_at-requires
numbers_at-requires c =
    let lt = inside c.self.inside.numbers.items c.self.inside.lines.items c.args.index c.args.self.now c.self.view_is c.requires in
    subst (λ ns. IsWithin (length ns) c.index.result.now.name) (sym c.as_slice.ensures.value)
    (line_at (length c.self.inside.numbers.items) c.self.inside.lines.items c.args.index c.index.result.now c.self.invariant lt c.index.ensures).name

pub returns : goal.returns
returns c =
    let lt = inside c.self.inside.numbers.items c.self.inside.lines.items c.args.index c.args.self.now c.self.view_is c.requires in
    let here = ap (λ rows. slice_get rows c.args.index) (sym c.self.view_is) ∙ row_at c.self.inside.numbers.items c.self.inside.lines.items c.args.index c.index.result.now lt c.index.ensures in
    let first = c.copied.ensures ∙ c.first.ensures.value
    ∙ ap (λ ns. slice_get ns 0) (c.numbers_at.ensures ∙ ap (λ ns. (name_in ns c.index.result.now.name).numbers.items) c.as_slice.ensures.value) in
    some_at c.args.self.now c.args.index _ (λ row. c.copied.result ≡ slice_get row.name.numbers.items 0) here first

pub index-requires : goal.index-requires
index-requires c = grind (arith, common_steps)
