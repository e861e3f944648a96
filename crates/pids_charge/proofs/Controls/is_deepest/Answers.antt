-- The level of a group is how many are around it
use Rattle.pids_charge.proofs.Words.{arith, length, suc, ◌∙◌, ap, ◌≡◌, control_path, home_id, Node}
use Rattle.pids_charge.proofs.Views as views
use Rattle.pids_charge.proofs.Made as made
use Rattle.pids_charge.proofs.Controls.is_deepest.Goals as goal
use Rattle.pids_charge.proofs.Controls.is_deepest.Goals.{After-node_at-node}

-- the path of the control group is one longer than its level
long : (c : After-node_at-node) → length (control_path c.args.self.now.controls (home_id c.args.self.now c.args.c)) ≡ suc c.node_at-node.result.level
long c =
    made.long-path c.self.inside c.self.view_is c.self.invariant.tree c.self.invariant.listed c.args.c c.requires
    ∙ ap suc (views.field-is (λ (n : Node). n.level) 0 c.self.inside.nodes c.args.c c.node_at-node.result c.node_at-node.ensures)

pub node_at-node-requires : goal.node_at-node-requires
node_at-node-requires c = views.there_in c.self.inside c.self.view_is c.args.c c.requires

pub returns : goal.returns
returns c = grind (arith, long)
