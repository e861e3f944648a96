use Rattle.std.proofs.Common.{sym, Some, None, rules}
use Rattle.pid_script.specs.Reading.{signed_of}
use Rattle.pid_script.proofs.Signed.{unsigned_missed, found}
use Rattle.pid_script.proofs.number.read_unsigned_then.Goals as goal

pub returns-in_err-number : goal.returns-in_err-number
returns-in_err-number c = λ plain. rw c.from_residual.ensures (sym (unsigned_missed c.args.words.now plain (sym c.in_err-number.ensures)))

pub returns-in_err-unsigned : goal.returns-in_err-unsigned
returns-in_err-unsigned c = λ plain.
    rw c.from_residual-in_err-unsigned.ensures
    (found c.args.words.now signed_of c.in_ok-number.number c.in_ok-number.rest.now None (sym c.in_ok-number.ensures) c.in_err-unsigned.ensures)

pub returns : goal.returns
returns c = λ plain.
    let e = found c.args.words.now signed_of c.in_ok-number.number c.in_ok-number.rest.now (Some c.in_ok-unsigned.field-0) (sym c.in_ok-number.ensures) c.in_ok-unsigned.ensures in
    search (rules, e)
