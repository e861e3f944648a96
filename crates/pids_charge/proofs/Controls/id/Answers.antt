use Rattle.pids_charge.proofs.Words.{sym, ◌∙◌, Node}
use Rattle.pids_charge.proofs.Views as views
use Rattle.pids_charge.proofs.Controls.id.Goals as goal

pub node_at-requires : goal.node_at-requires
node_at-requires c = views.there_in c.self.inside c.self.view_is c.args.c c.requires

pub returns : goal.returns
returns c =
    sym (views.id_in c.self.inside c.self.view_is c.args.c c.requires
    ∙ views.field-is (λ (n : Node). n.id) 0 c.self.inside.nodes c.args.c c.node_at.result c.node_at.ensures)
