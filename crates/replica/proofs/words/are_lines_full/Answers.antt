use Rattle.std.proofs.Common.{◌≡◌, ◌<◌, ◌&&◌, arith, ap, length, rules, sym, ◌∙◌}
use Rattle.replica.specs.Reading.{are_full, lines_in}
use Rattle.replica.proofs.Parted.{empty_line, full_line, full_more}
use Rattle.replica.proofs.words.are_lines_full.Goals as goal

pub returns-then-is_empty : goal.returns-then-is_empty
returns-then-is_empty c =
    let empty : length c.in-Some.line.now ≡ 0 = search rules in
    ap (λ b. b && are_full (lines_in c.in-Some.after.now)) (sym (empty_line c.in-Some.line.now empty))
    ∙ sym (full_more c.loop-line.rest.now c.in-Some.line.now c.in-Some.after.now c.in-Some.ensures) ∙ c.loop-line.invariant

pub loop-line-preserved : goal.loop-line-preserved
loop-line-preserved c =
    let some : 0 < length c.in-Some.line.now = search (rules, arith) in
    ap (λ b. b && are_full (lines_in c.in-Some.after.now)) (sym (full_line c.in-Some.line.now some))
    ∙ sym (full_more c.loop-line.rest.now c.in-Some.line.now c.in-Some.after.now c.in-Some.ensures) ∙ c.loop-line.invariant
