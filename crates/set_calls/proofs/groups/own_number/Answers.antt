use Rattle.std.proofs.Common.{◌∙◌, sym, ap}
use Rattle.std.specs.Prelude.{unwrap_or}
use Rattle.pid_numbers.specs.Numbering.{number_of}
use Rattle.task_table.specs.View.{name_at}
use Rattle.task_table.proofs.LookUps.{named, seen}
use Rattle.set_calls.proofs.groups.own_number.Goals as goal

pub returns : goal.returns
returns c =
    let s = c.args.store.now in
    let found = c.args.found.now in
    let u = named s c.laws.ensures found.key found.task c.requires.there in
    c.unwrap_or.ensures ∙ ap (λ o. unwrap_or o 0) (c.number_in.ensures ∙ ap (λ b. number_of b found.key found.space) c.numbers.ensures)
    ∙ sym (seen s c.laws.ensures found.space (name_at s.numbering found.key).space found.key u.0 c.requires.own u.1)
