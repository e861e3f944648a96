use Rattle.std.proofs.Common.{arith}
use Rattle.cyclic_ids.proofs.Beside.{some_in_leaf, empty_beside}
use Rattle.cyclic_ids.proofs.CyclicIds.is_empty.Goals as goal

pub returns-in-Some : goal.returns-in-Some
returns-in-Some c =
    let found = rw c.in-Some.is at c.next.ensures in
    rw (← c.self.view_is) (some_in_leaf c.self.inside.is_ready c.self.inside.block c.self.inside.leaf.places c.self.inside.ids _ found.1 found.2)

pub returns-in-None : goal.returns-in-None
returns-in-None c =
    let none = rw c.in-None.is at c.next.ensures in
    rw (← c.self.view_is) (empty_beside c.self.inside.is_ready c.self.inside.block c.self.inside.leaf.places c.self.inside.ids c.is_empty.result (λ k below. none k (omega arith) below) c.self.invariant.apart c.is_empty.ensures)
