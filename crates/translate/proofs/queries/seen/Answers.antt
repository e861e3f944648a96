use Rattle.std.proofs.Common.{◌∙◌, sym, ap}
use Rattle.std.specs.Prelude.{unwrap_or}
use Rattle.pid_types.proofs.General.{held}
use Rattle.pid_numbers.specs.Numbering.{identifier_at, number_of}
use Rattle.task_table.proofs.LookUps as look_ups
use Rattle.translate.proofs.queries.seen.Goals as goal

pub returns : goal.returns
returns c i at =
    let s = c.args.store.now in
    let u = held (identifier_at s.numbering c.args.key) c.requires in
    c.unwrap_or.ensures ∙ ap (λ o. unwrap_or o 0) (c.number_in.ensures ∙ ap (λ b. number_of b c.args.key c.args.space) c.numbers.ensures)
    ∙ sym (look_ups.seen s c.laws.ensures c.args.space i c.args.key u.0 at u.1)
