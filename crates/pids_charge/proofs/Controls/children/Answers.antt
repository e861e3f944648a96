use Rattle.pids_charge.proofs.Views as views
use Rattle.pids_charge.proofs.Children as children
use Rattle.pids_charge.proofs.Controls.children.Goals as goal

pub members-requires : goal.members-requires
members-requires c = c.self.invariant.room c.args.c (views.there_in c.self.inside c.self.view_is c.args.c c.requires)

pub returns : goal.returns
returns c =
    children.listed c.self.inside c.self.view_is c.self.invariant.tree c.self.invariant.listed c.args.c c.requires c.members.result c.members.ensures
