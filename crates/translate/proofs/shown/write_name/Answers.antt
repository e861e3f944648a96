use Rattle.std.proofs.Common.{◌∙◌, sym, ap, subst, IsSome}
use Rattle.pid_numbers.specs.Numbering.{identifier_at}
use Rattle.task_table.specs.View.{name_at}
use Rattle.translate.proofs.Parts.{name-is}
use Rattle.translate.proofs.shown.write_name.Goals as goal

pub returns : goal.returns
returns c =
    name-is c.numbers.result.now c.args.key c.write_name.new.name (subst (λ b. IsSome (identifier_at b c.args.key)) (sym c.numbers.ensures) c.requires) c.write_name.ensures.space c.write_name.ensures.numbers
    ∙ ap (λ b. name_at b c.args.key) c.numbers.ensures
