use Rattle.pids_charge.proofs.Views as views
use Rattle.pids_charge.proofs.Climbs as climbs
use Rattle.pids_charge.proofs.Controls.parent.Goals as goal

pub node_at-requires : goal.node_at-requires
node_at-requires c = views.there_in c.self.inside c.self.view_is c.args.c c.requires

pub returns : goal.returns
returns c =
    let seen = views.parent_seen c.self.inside c.self.view_is c.self.invariant.listed c.self.invariant.tree
    c.args.c c.requires c.node_at.result.parent (climbs.up-is c.self.inside.nodes c.args.c c.node_at.result c.node_at.ensures) in
    record { id = seen.0; stands = seen.1 }
