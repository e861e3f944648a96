use Rattle.std.proofs.Common.{◌<◌, None, arith}
use Rattle.task_tree.specs.Tree.{is_subreaper}
use Rattle.task_tree.proofs.Counts.{some-counted}
use Rattle.task_tree.proofs.cells.Cells.any_subreaper.Goals as goal

pub returns-clause-some : goal.returns-clause-some
returns-clause-some c some =
    let above : 0 < c.self.inside.subreapers = grind (arith, some) in
    let is = c.self.invariant in
    rw (← c.self.view_is) (some-counted is_subreaper c.self.inside.cells None (omega (arith, above, is)))
