use Rattle.std.proofs.Common.{arith}
use Rattle.pid_numbers.proofs.Views as views
use Rattle.pid_numbers.proofs.Numbers.find_in_root.Goals as goal

pub returns : goal.returns
returns c = rw (← c.self.view_is) (views.looked_up c.self.inside.pid_max c.self.inside.tree c.self.inside.ids.items c.self.inside.idents c.self.invariant.whole.numbering 0 c.args.n c.look_in_root.result c.look_in_root.ensures)

-- the root namespace is on its own path, and each on a path has numbers
pub look_in_root-requires : goal.look_in_root-requires
look_in_root-requires c =
    let in-way = views.path_in c.self.inside.pid_max c.self.inside.tree c.self.inside.ids.items c.self.inside.idents c.self.invariant.whole.numbering c.self.invariant.count 0 in
    (rw c.self.invariant.whole.numbering.tree.root at in-way) 0 (omega arith)
