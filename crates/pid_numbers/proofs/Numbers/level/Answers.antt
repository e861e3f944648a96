use Rattle.std.proofs.Common.{ap, arith, length}
use Rattle.pid_numbers.proofs.Views as views
use Rattle.pid_numbers.proofs.Numbers.level.Goals as goal

pub overflow_sub-result : goal.overflow_sub-result
overflow_sub-result c =
    let some = c.self.invariant.some c.args.space (views.there c.self.inside c.self.view_is c.args.space c.requires) in
    let len = c.levels.ensures.value in
    omega (arith, some, len)

pub returns : goal.returns
returns c =
    let some = c.self.invariant.some c.args.space (views.there c.self.inside c.self.view_is c.args.space c.requires) in
    let len = c.levels.ensures.value in
    let path = ap length (views.path-of c.self.inside c.self.view_is c.args.space) in
    omega (arith, some, len, path)
