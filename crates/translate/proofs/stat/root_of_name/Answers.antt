use Rattle.std.proofs.Common.{◌∙◌, ap}
use Rattle.std.specs.Prelude.{unwrap_or}
use Rattle.pid_numbers.specs.Numbering.{identifier_at, number_of}
use Rattle.pid_types.proofs.General.{held}
use Rattle.task_table.proofs.LookUps.{root-number}
use Rattle.translate.proofs.stat.root_of_name.Goals as goal

pub returns : goal.returns
returns c =
    let s = c.args.store.now in
    let u = held (identifier_at s.numbering c.args.key) c.requires in
    c.unwrap_or.ensures ∙ ap (λ o. unwrap_or o 0) (c.number_in.ensures ∙ ap (λ b. number_of b c.args.key 0) c.numbers.ensures
    ∙ root-number s c.laws.ensures c.args.key u.0 u.1)
