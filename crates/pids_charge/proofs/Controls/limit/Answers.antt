use Rattle.pids_charge.proofs.Words.{ap, option_and_then, sym, ◌∙◌, Charges, control_limit, limit_in, tree_of, Node}
use Rattle.pids_charge.proofs.Views as views
use Rattle.pids_charge.proofs.Controls.limit.Goals as goal

pub node_at-requires : goal.node_at-requires
node_at-requires c = views.there_in c.self.inside c.self.view_is c.args.c c.requires

pub returns : goal.returns
returns c =
    let s = views.stand_in c.self.inside c.self.view_is c.args.c c.requires in
    sym (ap (control_limit c.args.self.now) (views.id_in c.self.inside c.self.view_is c.args.c c.requires)
    ∙ sym (ap (λ (v : Charges). control_limit v ((tree_of c.self.inside.nodes).id c.args.c)) c.self.view_is)
    ∙ views.limit-is (tree_of c.self.inside.nodes) (limit_in c.self.inside.nodes) c.self.inside.children c.self.inside.ids c.self.invariant.listed c.args.c s
    ∙ ap (option_and_then (λ (n : Node). n.limit)) c.node_at.ensures)
