use Rattle.std.proofs.Common.{◌≡◌, ℕ, ◌+◌, ◌-◌, ◌*◌, List, subst, arith, rules}
use Rattle.saved_form.specs.Taking.{IsWrongAt, blocks_said, AreRight}
use Rattle.saved_form.proofs.Whole.{right_front}
use Rattle.saved_form.proofs.take.find_blocks.Goals as goal

pub returns-in-Err-clause-wrong : goal.returns-in-Err-clause-wrong
returns-in-Err-clause-wrong c place is =
    let at : 48 * c.in-Err.place ≡ place = cc in
    subst (IsWrongAt c.args.sum c.args.bytes.now) at
    (IsWrongAt.by_sum c.in-Err.place (record {
      of_entry = omega (arith, c.in-Err.ensures.wrong.0);
      there = omega (arith, c.in-Err.ensures.wrong.0);
      before = c.in-Err.ensures.wrong.1;
      wrong = c.in-Err.ensures.wrong.2;
    }))

pub returns-in-Ok-clause-wrong : goal.returns-in-Ok-clause-wrong
returns-in-Ok-clause-wrong c place is =
    let at : 0 ≡ place = cc in
    subst (IsWrongAt c.args.sum c.args.bytes.now) at (IsWrongAt.too_many_levels (omega arith) (omega arith))

pub returns-in-Err-clause-lacking : goal.returns-in-Err-clause-lacking
returns-in-Err-clause-lacking c whole =
    let bytes : List ℕ = c.args.bytes.now in
    let next : ℕ = c.in-Err.place + 1 in
    let split : blocks_said bytes ≡ next + (blocks_said bytes - next) = omega (arith, c.in-Err.ensures.wrong.0) in
    c.in-Err.ensures.wrong.2 (right_front next (blocks_said bytes - next) c.args.sum bytes (subst (λ n. AreRight n c.args.sum bytes) split whole.right))

pub returns-in-Ok-3-clause-found : goal.returns-in-Ok-3-clause-found
returns-in-Ok-3-clause-found c = search rules
