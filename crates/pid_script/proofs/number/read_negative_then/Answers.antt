use Rattle.std.proofs.Common.{sym, ◌∙◌, Some, None, rules}
use Rattle.pid_script.specs.Reading.{negative_of}
use Rattle.pid_script.proofs.Numbers.{negative_of-missing}
use Rattle.pid_script.proofs.Signed.{minus, missed, found}
use Rattle.pid_script.proofs.number.read_negative_then.Goals as goal

pub returns-in_err-magnitude : goal.returns-in_err-magnitude
returns-in_err-magnitude c =
    let digits = c.args.digits.now in
    rw c.from_residual.ensures (sym (minus digits ∙ missed digits negative_of (λ p cuts none. negative_of-missing p.0 none) (sym c.in_err-magnitude.ensures)))

pub returns-in_err-negated : goal.returns-in_err-negated
returns-in_err-negated c =
    let digits = c.args.digits.now in
    rw c.from_residual-in_err-negated.ensures
    (found digits negative_of c.in_ok-magnitude.magnitude c.in_ok-magnitude.rest.now None (sym c.in_ok-magnitude.ensures) c.in_err-negated.ensures ∙ sym (minus digits))

pub returns : goal.returns
returns c =
    let digits = c.args.digits.now in
    let e = found digits negative_of c.in_ok-magnitude.magnitude c.in_ok-magnitude.rest.now (Some c.in_ok-negated.field-0) (sym c.in_ok-magnitude.ensures) c.in_ok-negated.ensures
    ∙ sym (minus digits) in
    search (rules, e)
