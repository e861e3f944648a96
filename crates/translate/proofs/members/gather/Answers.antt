use Rattle.std.proofs.Common.{inl, inr, sym, subst, arith, ◌≡◌, ◌≤◌, ◌+◌, ◌∙◌, length}
use Rattle.std.proofs.lemmas.Bool.{eq-eqb, eqb-true}
use Rattle.translate.specs.Passed.{ArePassed}
use Rattle.translate.proofs.Passed.{one-passed, all-passed, added-length}
use Rattle.translate.proofs.members.gather.Goals as goal
use Rattle.translate.proofs.members.gather.Goals.{else-is_own-2-via-then-is_own-2+else-len-room, else-is_own-2-via-else-is_own-2}

pub loop-number-preserved : goal.loop-number-preserved
loop-number-preserved c =
    let s = c.args.store.now in
    let asked = c.args.asked.now in
    let next = rw c.numbers-in-loop-number.ensures at c.in-Some.ensures in
    let used = next.1 in
    record {
      passed = subst (ArePassed s asked (c.in-Some.number + 1)) (sym (c.in_ok-pass.ensures used.key used.has))
          (one-passed s c.laws.ensures asked c.loop-number.at c.in-Some.number used.key c.loop-number.numbers.items c.loop-number.invariant.passed next.0 used.has used next.2);
      few = λ own. elim c.else-is_own-2.branch [
        | else-is_own-2-via-then-is_own-2+else-len-room w ↦
            let few = w.if-len-room.false in
            let is : w.len.result ≡ length c.pass.new.numbers.items = w.len.ensures ∙ c.pass.new.numbers.ok.0 in
            omega (arith, few, is)
        | else-is_own-2-via-else-is_own-2 w ↦ absurd (w.if-is_own-2.false (eqb-true asked.viewer asked.space own))
      ];
    }

pub returns : goal.returns
returns c =
    let none = rw c.numbers-in-loop-number.ensures at c.in_default.ensures in
    inl (all-passed c.args.store.now c.laws.ensures c.args.asked.now c.loop-number.at c.loop-number.numbers.items c.loop-number.invariant.passed none)

pub returns-then-len-room : goal.returns-then-len-room
returns-then-len-room c =
    let s = c.args.store.now in
    let asked = c.args.asked.now in
    let xs = c.loop-number.numbers.items in
    let next = rw c.numbers-in-loop-number.ensures at c.in-Some.ensures in
    let used = next.1 in
    let same = c.if-is_own-2.true in
    let added = c.in_ok-pass.ensures used.key used.has in
    let few : length c.pass.new.numbers.items ≤ c.args.room + 1 = subst (λ ys. length ys ≤ c.args.room + 1) (sym added)
    (added-length s c.laws.ensures asked used.key c.args.room xs (c.loop-number.invariant.few (eq-eqb asked.viewer asked.space same))) in
    let long = c.if-len-room.true in
    let is : c.len.result ≡ length c.pass.new.numbers.items = c.len.ensures ∙ c.pass.new.numbers.ok.0 in
    inr (
      same,
      omega (arith, few, long, is),
      (
        c.in-Some.number + 1,
        subst (ArePassed s asked (c.in-Some.number + 1)) (sym added)
            (one-passed s c.laws.ensures asked c.loop-number.at c.in-Some.number used.key xs c.loop-number.invariant.passed next.0 used.has used next.2),
      ),
    )
