use Rattle.std.proofs.Common.{ap, arith, length}
use Rattle.pid_numbers.proofs.Views as views
use Rattle.pid_numbers.proofs.Numbers.plan_new.Goals as goal

pub returns-then-levels-gt-DEEPEST_SPACE-clause-err : goal.returns-then-levels-gt-DEEPEST_SPACE-clause-err
returns-then-levels-gt-DEEPEST_SPACE-clause-err c =
    let levels = c.levels.ensures.value in
    let many = c.if-levels-gt-DEEPEST_SPACE.true in
    let len = ap length (views.path-of c.self.inside c.self.view_is c.args.parent) in
    omega (arith, levels, many, len)

pub plan_new_into-requires : goal.plan_new_into-requires
plan_new_into-requires c =
    let levels = c.levels.ensures.value in
    let few = c.if-levels-gt-DEEPEST_SPACE.false in
    let len = ap length (views.path-of c.self.inside c.self.view_is c.args.parent) in
    omega (arith, levels, few, len)

pub returns-in-Ok-clause-ok : goal.returns-in-Ok-clause-ok
returns-in-Ok-clause-ok c =
    let levels = c.levels.ensures.value in
    let few = c.if-levels-gt-DEEPEST_SPACE.false in
    let len = ap length (views.path-of c.self.inside c.self.view_is c.args.parent) in
    (omega (arith, levels, few, len), c.in-Ok.ensures.ok.0, c.in-Ok.ensures.ok.1)

pub returns-in-Err-clause-err : goal.returns-in-Err-clause-err
returns-in-Err-clause-err c =
    let levels = c.levels.ensures.value in
    let few = c.if-levels-gt-DEEPEST_SPACE.false in
    let len = ap length (views.path-of c.self.inside c.self.view_is c.args.parent) in
    (omega (arith, levels, few, len), c.in-Err.ensures.err)
