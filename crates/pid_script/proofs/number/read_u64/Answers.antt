use Rattle.std.proofs.Common.{sym, rules}
use Rattle.pid_script.specs.Reading.{IsPlain}
use Rattle.pid_script.proofs.Numbers.{number_below-not_plain, read_plain}
use Rattle.pid_script.proofs.number.read_u64.Goals as goal

pub returns-then-not-is_plain : goal.returns-then-not-is_plain
returns-then-not-is_plain c =
    sym (number_below-not_plain c.args.word.now (λ plain. let no = c.if-not-is_plain.ensures.1 plain in cc))

pub returns : goal.returns
returns c =
    let plain : IsPlain c.args.word.now = c.if-not-is_plain.ensures.0 (search rules) in
    read_plain c.args.word.now c.read_digits.result plain c.read_digits.ensures.some c.read_digits.ensures.none c.read_digits.ensures.small
