use Rattle.std.proofs.Common.{◌≡◌, ◌∙◌, ap, arith, ◌++◌, ◌∷◌, ◌-◌, [], length, slice_set}
use Rattle.std.proofs.lemmas.List.{set_at, length-append}
use Rattle.translate.proofs.shown.push_row.Goals as goal

pub returns : goal.returns
returns c =
    let rows = c.args.rows.now.items in
    let all = c.in_ok-push.ensures.items in
    let count = c.len-last.ensures in
    let long = ap length all ∙ length-append rows (c.blank_row.result ∷ []) in
    let place : length rows ≡ c.len-last.result - 1 = omega (arith, count, long) in
    ap (λ items. slice_set items (c.len-last.result - 1) c.write_row.new.row) all
    ∙ set_at rows c.blank_row.result [] c.write_row.new.row (c.len-last.result - 1) place
    ∙ ap (λ r. rows ++ r ∷ []) c.write_row.ensures
