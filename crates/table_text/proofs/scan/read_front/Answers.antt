use Rattle.std.proofs.Common.{◌≡◌, ◌+◌, ◌<◌, ◌-◌, ◌^◌, drop, get_or, arith, length-drop}
use Rattle.std.proofs.lemmas.Grind.{common_steps}
use Rattle.std.specs.Char.{digit_value}
use Rattle.std.proofs.lemmas.Str.{digit_value_digit}
use Rattle.std.proofs.lemmas.Str.Parse.{digit_from_value}
use Rattle.pid_script.proofs.Numbers.{front_fits}
use Rattle.table_text.proofs.Scanned.{digits_more, value_more}
use Rattle.table_text.proofs.scan.read_front.Goals as goal

pub overflow_mul-number : goal.overflow_mul-number
overflow_mul-number c =
    let loop = c.loop-index in
    let long = length-drop c.args.at c.args.text.now in
    let small : loop.number < 10 ^ 8 = front_fits (drop c.args.at c.args.text.now) (loop.index - c.args.at) loop.number (omega arith) (omega (arith, long)) loop.invariant.digits loop.invariant.value in
    omega arith

pub returns-clause-stops : goal.returns-clause-stops
returns-clause-stops c = grind (arith, common_steps)

pub overflow_add-number : goal.overflow_add-number
overflow_add-number c =
    let loop = c.loop-index in
    let long = length-drop c.args.at c.args.text.now in
    let small : loop.number < 10 ^ 8 = front_fits (drop c.args.at c.args.text.now) (loop.index - c.args.at) loop.number (omega arith) (omega (arith, long)) loop.invariant.digits loop.invariant.value in
    omega arith

pub loop-index-preserved : goal.loop-index-preserved
loop-index-preserved c =
    let loop = c.loop-index in
    let byte = get_or c.args.text.now loop.index 0 in
    let digit : digit_value byte + 48 ≡ byte = digit_value_digit byte (digit_from_value byte c.if-not-is_ascii_digit.ensures.bound) in
    record {
      digits = digits_more c.args.text.now c.args.at loop.index (omega arith) (omega arith) loop.invariant.digits c.if-not-is_ascii_digit.ensures.bound;
      value = omega (arith, value_more c.args.text.now c.args.at loop.index (omega arith) (omega arith), loop.invariant.value, digit, c.from.ensures);
    }

pub returns-then-not-is_ascii_digit-clause-stops : goal.returns-then-not-is_ascii_digit-clause-stops
returns-then-not-is_ascii_digit-clause-stops c = grind (arith, common_steps)
