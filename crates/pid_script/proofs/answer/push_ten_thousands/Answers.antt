use Rattle.std.proofs.Common.{rules, ◌%◌, ◌++◌, decimal, arith, ap, ◌∙◌}
use Rattle.pid_script.proofs.Digits.{length_one, length_more, length_all, shown_more}
use Rattle.pid_script.proofs.answer.push_ten_thousands.Goals as goal

pub push_ones-requires : goal.push_ones-requires
push_ones-requires g c = (search rules, (c.if-number-lt10.true, omega (arith, length_one c.args.number c.if-number-lt10.true)))

pub returns-then-number-lt10 : goal.returns-then-number-lt10
returns-then-number-lt10 g c = record { items = c.push_ones.ensures.items }

pub push_thousands-requires : goal.push_thousands-requires
push_thousands-requires g c = (search rules, (omega arith, omega (arith, length_more c.args.number c.if-number-lt10.false (omega arith))))

pub push_ones-requires-2 : goal.push_ones-requires-2
push_ones-requires-2 g c = (
  search rules,
  (omega arith, omega (arith, length_all _ c.args.text.now.items c.args.number c.push_thousands.ensures.items c.if-number-lt10.false (omega arith))),
)

pub returns : goal.returns
returns g c = record {
  items =
      c.push_ones-2.ensures.items
      ∙ ap (λ text. text ++ decimal (c.args.number % 10)) c.push_thousands.ensures.items
      ∙ shown_more c.args.text.now.items c.args.number c.if-number-lt10.false (omega arith);
}
