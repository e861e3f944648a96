use Rattle.std.proofs.Common.{◌∙◌, refl, sym, ap}
use Rattle.pid_numbers.specs.Numbering.{Numbering, has_fallen_at}
use Rattle.fork_calls.proofs.Places.{gone-is}
use Rattle.fork_calls.proofs.standing.Goals as goal

pub returns-then-is_fallen-clause-err : goal.returns-then-is_fallen-clause-err
returns-then-is_fallen-clause-err c =
    (refl, λ id at. gone-is c.args.store.now c.laws.ensures id c.args.space at ∙ ap (λ (b : Numbering). has_fallen_at b c.args.space) (sym c.numbers.ensures) ∙ sym c.is_fallen.ensures ∙ c.if-is_fallen.true)

pub returns-clause-ok : goal.returns-clause-ok
returns-clause-ok c =
    (refl, λ id at. gone-is c.args.store.now c.laws.ensures id c.args.space at ∙ ap (λ (b : Numbering). has_fallen_at b c.args.space) (sym c.numbers.ensures) ∙ sym c.is_fallen.ensures ∙ c.if-is_fallen.false)
