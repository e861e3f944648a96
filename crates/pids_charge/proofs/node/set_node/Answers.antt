use Rattle.pids_charge.proofs.Words.{Updates-with_value}
use Rattle.pids_charge.proofs.node.set_node.Goals as goal

pub returns : goal.returns
returns c = Updates-with_value c.args.nodes.now c.args.key c.args.node c.requires
