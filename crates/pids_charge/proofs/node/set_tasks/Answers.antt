-- What was read at the key is the node that stood there
use Rattle.pids_charge.proofs.Words.{◌≡◌, ◌∙◌, subst, Some, Node, Updates, Updates-with_value}
use Rattle.slab.specs.Slab.{with_value}
use Rattle.pids_charge.proofs.node.set_tasks.Goals as goal

pub returns : goal.returns
returns c n is =
    let some : Some c.in-Some.place.now ≡ Some n = c.in-Some.ensures.value ∙ is in
    let same : c.in-Some.place.now ≡ n = cc in
    let written = record c.in-Some.place.now { live = c.args.live; zombies = c.args.zombies } in
    subst (λ (m : Node). Updates c.args.nodes.now (with_value c.args.nodes.now c.args.key written) c.args.key
    (Some (record m { live = c.args.live; zombies = c.args.zombies }))) same
    (Updates-with_value c.args.nodes.now c.args.key written c.requires)
