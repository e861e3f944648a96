use Rattle.std.proofs.Common.{◌≡◌, ◌++◌, ℕ, List, [], length, ◌+◌, Err, ap, sym, inl, subst, ◌∙◌, arith}
use Rattle.saved_form.specs.declared.take.EntryFault.TheVariants.{Torn}
use Rattle.saved_form.specs.Taking.{IsTorn, IsWrongAt}
use Rattle.saved_form.specs.Ends.{IsOpen, IsTornEnd}
use Rattle.saved_form.specs.Ends.IsOpen.{within_entry}
use Rattle.saved_form.proofs.Ends.{from_passed, from_wrong, none_before, wrong_there, torn_short}
use Rattle.saved_form.proofs.Ends.{passes_no_entry, passes_wrong, passes_torn, passes_end, passes_open}
use Rattle.saved_form.proofs.next.read_on.Goals as goal

pub returns-then-passed-ne0-clause-open : goal.returns-then-passed-ne0-clause-open
returns-then-passed-ne0-clause-open c =
    passes_open c.args.sum c.args.passed 0 c.args.bytes.now c.args.is_end c.pass.result
    (from_passed c.args.sum c.args.passed c.args.bytes.now c.if-passed-ne0.true)
    (record { zeroes = c.pass.ensures.zeroes; other = c.pass.ensures.other })

pub returns-then-passed-ne0-clause-end : goal.returns-then-passed-ne0-clause-end
returns-then-passed-ne0-clause-end c =
    passes_end c.args.sum c.args.passed 0 c.args.bytes.now c.args.is_end c.pass.result
    (from_passed c.args.sum c.args.passed c.args.bytes.now c.if-passed-ne0.true)
    (record { zeroes = c.pass.ensures.zeroes; other = c.pass.ensures.other })

pub returns-then-passed-ne0-clause-wrong : goal.returns-then-passed-ne0-clause-wrong
returns-then-passed-ne0-clause-wrong c =
    passes_wrong c.args.sum c.args.passed 0 c.args.bytes.now c.args.is_end c.pass.result
    (from_passed c.args.sum c.args.passed c.args.bytes.now c.if-passed-ne0.true)
    (record { zeroes = c.pass.ensures.zeroes; other = c.pass.ensures.other })

pub returns-then-passed-ne0-clause-torn_is_left_out : goal.returns-then-passed-ne0-clause-torn_is_left_out
returns-then-passed-ne0-clause-torn_is_left_out c =
    passes_torn c.args.sum c.args.passed 0 c.args.bytes.now c.args.is_end c.pass.result
    (from_passed c.args.sum c.args.passed c.args.bytes.now c.if-passed-ne0.true)
    (record { zeroes = c.pass.ensures.zeroes; other = c.pass.ensures.other })

pub returns-in-Err-Torn-clause-end : goal.returns-in-Err-Torn-clause-end
returns-in-Err-Torn-clause-end c count is = (
  c.if-is_end.true,
  λ before passed few.
      let bytes : List ℕ = c.args.bytes.now in
      let wanted : ℕ = c.in-Err-Torn.field-0-0 in
      let none : before ≡ [] = none_before c.args.sum c.args.passed before c.if-passed-ne0.false passed in
      let torn : IsTorn c.args.sum bytes wanted = (c.take_entry.ensures.torn wanted).0 (c.in-Err-Torn.is ∙ ap Err c.in-Err-Torn.field-0-is) in
      subst (λ front. (count ≡ length (front ++ bytes)) × IsTornEnd c.args.sum (front ++ bytes)) (sym none) (cc, inl (wanted, torn)),
)

pub returns-in-Err-Torn-2-clause-open : goal.returns-in-Err-Torn-2-clause-open
returns-in-Err-Torn-2-clause-open c count is = (
  c.if-is_end.false,
  λ before passed few.
      let bytes : List ℕ = c.args.bytes.now in
      let wanted : ℕ = c.in-Err-Torn-2.field-0-0 in
      let none : before ≡ [] = none_before c.args.sum c.args.passed before c.if-passed-ne0.false passed in
      let fault : c.take_entry.result ≡ Err (Torn wanted) = cc in
      let torn : IsTorn c.args.sum bytes wanted = (c.take_entry.ensures.torn wanted).0 fault in
      let zero : 0 ≡ count = cc in
      subst (IsOpen c.args.sum before bytes) zero (within_entry wanted none torn (torn_short c.args.sum wanted bytes torn)),
)

pub overflow_add-place : goal.overflow_add-place
overflow_add-place c =
    let wrong : IsWrongAt c.args.sum c.args.bytes.now c.in-Err-WrongByte.place =
    c.take_entry.ensures.wrong c.in-Err-WrongByte.place (c.in-Err-WrongByte.is ∙ ap Err c.in-Err-WrongByte.field-0-is) in
    omega (arith, wrong_there c.args.sum c.in-Err-WrongByte.place c.args.bytes.now wrong)

pub pass-requires-in-Err-WrongByte : goal.pass-requires-in-Err-WrongByte
pass-requires-in-Err-WrongByte c =
    let wrong : IsWrongAt c.args.sum c.args.bytes.now c.in-Err-WrongByte.place =
    c.take_entry.ensures.wrong c.in-Err-WrongByte.place (c.in-Err-WrongByte.is ∙ ap Err c.in-Err-WrongByte.field-0-is) in
    omega (arith, wrong_there c.args.sum c.in-Err-WrongByte.place c.args.bytes.now wrong)

pub returns-in-Err-WrongByte-clause-entry : goal.returns-in-Err-WrongByte-clause-entry
returns-in-Err-WrongByte-clause-entry c taken is =
    absurd (passes_no_entry c.args.passed (c.in-Err-WrongByte.place + 40) c.args.bytes.now c.args.is_end c.pass-in-Err-WrongByte.result
    (record { zeroes = c.pass-in-Err-WrongByte.ensures.zeroes; other = c.pass-in-Err-WrongByte.ensures.other }) taken is)

pub returns-in-Err-WrongByte-clause-open : goal.returns-in-Err-WrongByte-clause-open
returns-in-Err-WrongByte-clause-open c =
    let place : ℕ = c.in-Err-WrongByte.place in
    let wrong : IsWrongAt c.args.sum c.args.bytes.now place =
    c.take_entry.ensures.wrong place (c.in-Err-WrongByte.is ∙ ap Err c.in-Err-WrongByte.field-0-is) in
    passes_open c.args.sum c.args.passed (place + 40) c.args.bytes.now c.args.is_end c.pass-in-Err-WrongByte.result
    (from_wrong c.args.sum c.args.passed place c.args.bytes.now c.if-passed-ne0.false wrong)
    (record { zeroes = c.pass-in-Err-WrongByte.ensures.zeroes; other = c.pass-in-Err-WrongByte.ensures.other })

pub returns-in-Err-WrongByte-clause-end : goal.returns-in-Err-WrongByte-clause-end
returns-in-Err-WrongByte-clause-end c =
    let place : ℕ = c.in-Err-WrongByte.place in
    let wrong : IsWrongAt c.args.sum c.args.bytes.now place =
    c.take_entry.ensures.wrong place (c.in-Err-WrongByte.is ∙ ap Err c.in-Err-WrongByte.field-0-is) in
    passes_end c.args.sum c.args.passed (place + 40) c.args.bytes.now c.args.is_end c.pass-in-Err-WrongByte.result
    (from_wrong c.args.sum c.args.passed place c.args.bytes.now c.if-passed-ne0.false wrong)
    (record { zeroes = c.pass-in-Err-WrongByte.ensures.zeroes; other = c.pass-in-Err-WrongByte.ensures.other })

pub returns-in-Err-WrongByte-clause-wrong : goal.returns-in-Err-WrongByte-clause-wrong
returns-in-Err-WrongByte-clause-wrong c =
    let place : ℕ = c.in-Err-WrongByte.place in
    let wrong : IsWrongAt c.args.sum c.args.bytes.now place =
    c.take_entry.ensures.wrong place (c.in-Err-WrongByte.is ∙ ap Err c.in-Err-WrongByte.field-0-is) in
    passes_wrong c.args.sum c.args.passed (place + 40) c.args.bytes.now c.args.is_end c.pass-in-Err-WrongByte.result
    (from_wrong c.args.sum c.args.passed place c.args.bytes.now c.if-passed-ne0.false wrong)
    (record { zeroes = c.pass-in-Err-WrongByte.ensures.zeroes; other = c.pass-in-Err-WrongByte.ensures.other })

pub returns-in-Err-WrongByte-clause-torn_is_left_out : goal.returns-in-Err-WrongByte-clause-torn_is_left_out
returns-in-Err-WrongByte-clause-torn_is_left_out c =
    let place : ℕ = c.in-Err-WrongByte.place in
    let wrong : IsWrongAt c.args.sum c.args.bytes.now place =
    c.take_entry.ensures.wrong place (c.in-Err-WrongByte.is ∙ ap Err c.in-Err-WrongByte.field-0-is) in
    passes_torn c.args.sum c.args.passed (place + 40) c.args.bytes.now c.args.is_end c.pass-in-Err-WrongByte.result
    (from_wrong c.args.sum c.args.passed place c.args.bytes.now c.if-passed-ne0.false wrong)
    (record { zeroes = c.pass-in-Err-WrongByte.ensures.zeroes; other = c.pass-in-Err-WrongByte.ensures.other })
