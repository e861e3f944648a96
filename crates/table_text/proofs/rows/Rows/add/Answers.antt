use Rattle.std.proofs.Common.{◌≡◌, ◌∙◌, sym, ap, subst, length, ◌∷◌, [], ◌++◌, arith}
use Rattle.table_text.specs.Rows.{rows_in, AreWithin}
use Rattle.table_text.proofs.Standing.{all_within, rows_kept, rows_more, more_within}
use Rattle.table_text.proofs.rows.Rows.add.Goals as goal

pub line_of-requires : goal.line_of-requires
line_of-requires c = c.last_line-last.ensures (length c.self.inside.numbers.items) (subst (λ ls. AreWithin (length c.self.inside.numbers.items) ls) (sym c.deref.ensures.value) c.self.invariant)

pub invariant_of-self : goal.invariant_of-self
invariant_of-self c = all_within c.self.inside.numbers.items c.line_of.new.numbers.items c.self.inside.lines.items c.in_err-line.ensures.grown c.self.invariant

kept : (c : goal.After-from_residual) → rows_in c.line_of.new.numbers.items c.self.inside.lines.items ≡ c.args.self.now
kept c = rows_kept c.self.inside.numbers.items c.line_of.new.numbers.items c.self.inside.lines.items c.in_err-line.ensures.grown c.self.invariant ∙ c.self.view_is

pub returns-in_err-line-clause-same : goal.returns-in_err-line-clause-same
returns-in_err-line-clause-same c = let same = kept c in grind (arith, same)

pub invariant_of-self-in_err-push : goal.invariant_of-self-in_err-push
invariant_of-self-in_err-push c =
    subst (λ ls. AreWithin (length c.line_of.new.numbers.items) ls) (sym c.in_err-push.ensures.items)
    (all_within c.self.inside.numbers.items c.line_of.new.numbers.items c.self.inside.lines.items c.in_ok-line.ensures.grown c.self.invariant)

pub returns-in_err-push-clause-same : goal.returns-in_err-push-clause-same
returns-in_err-push-clause-same c =
    let all = rows_kept c.self.inside.numbers.items c.line_of.new.numbers.items c.self.inside.lines.items c.in_ok-line.ensures.grown c.self.invariant ∙ c.self.view_is in
    let same = ap (rows_in c.line_of.new.numbers.items) c.in_err-push.ensures.items ∙ all in
    grind (arith, same)

pub invariant_of-self-2 : goal.invariant_of-self-2
invariant_of-self-2 c =
    subst (λ ls. AreWithin (length c.line_of.new.numbers.items) ls) (sym c.in_ok-push.ensures.items)
    (more_within c.self.inside.numbers.items c.line_of.new.numbers.items c.self.inside.lines.items c.in_ok-line.line c.in_ok-line.ensures.grown c.self.invariant c.in_ok-line.ensures.within)

pub returns-clause-added : goal.returns-clause-added
returns-clause-added c =
    ap (rows_in c.line_of.new.numbers.items) c.in_ok-push.ensures.items
    ∙ rows_more c.self.inside.numbers.items c.line_of.new.numbers.items c.self.inside.lines.items c.in_ok-line.line c.args.row.now c.in_ok-line.ensures.grown c.self.invariant c.in_ok-line.ensures.row
    ∙ ap (λ rows. rows ++ c.args.row.now ∷ []) c.self.view_is
