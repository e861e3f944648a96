use Rattle.std.proofs.Common.{◌-◌, arith}
use Rattle.std.proofs.lemmas.Grind.{common_steps}
use Rattle.table_build.proofs.PartSteps.{rows-rise_at}
use Rattle.table_build.proofs.Places.{at-some, number-is}
use Rattle.table_build.proofs.begin.is_unsorted.Goals as goal

pub returns-in_default-2-clause-sorted : goal.returns-in_default-2-clause-sorted
returns-in_default-2-clause-sorted c = grind (arith, common_steps)

pub returns-clause-sorted : goal.returns-clause-sorted
returns-clause-sorted c = grind (arith, common_steps)

pub returns-clause-unsorted : goal.returns-clause-unsorted
returns-clause-unsorted c = λ test rise.
    let rows = c.args.saved.now.rows in
    let lt = c.requires in
    let not = c.if-index-eq0.false in
    let before = at-some rows (c.args.index - 1) (omega (arith, lt)) in
    let here = at-some rows c.args.index lt in
    let up = rows-rise_at rows (c.args.index - 1) c.args.index before.0 here.0 rise before.1 here.1 (omega (arith, not)) in
    let one = number-is rows (c.args.index - 1) before.0 c.number.result c.in-Some-Some.before before.1 c.number.ensures c.in-Some-Some.is-0 in
    let two = number-is rows c.args.index here.0 c.number-2.result c.in-Some-Some.number here.1 c.number-2.ensures c.in-Some-Some.is-1 in
    grind (arith, test, up, one, two)

pub returns-in_default-clause-sorted : goal.returns-in_default-clause-sorted
returns-in_default-clause-sorted c = grind (arith, common_steps)

pub returns-then-index-eq0-clause-sorted : goal.returns-then-index-eq0-clause-sorted
returns-then-index-eq0-clause-sorted c = grind arith
