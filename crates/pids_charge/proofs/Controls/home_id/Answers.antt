use Rattle.pids_charge.proofs.Words.{ap, sym, ◌∙◌, tree_of, Node}
use Rattle.pids_charge.proofs.HomeIds as home_ids
use Rattle.pids_charge.proofs.Views as views
use Rattle.pids_charge.proofs.Controls.home_id.Goals as goal

pub standing_from-requires-clause-home : goal.standing_from-requires-clause-home
standing_from-requires-clause-home c = (home_ids.home-id c.self.inside c.self.view_is c.args.home c.requires).0

pub returns : goal.returns
returns c =
    let s = home_ids.home-id c.self.inside c.self.view_is c.args.home c.requires in
    sym (s.1 ∙ ap (tree_of c.self.inside.nodes).id (sym c.standing_from.ensures.nearest)
    ∙ views.field-is (λ (n : Node). n.id) 0 c.self.inside.nodes c.standing_from.result c.node_at.result c.node_at.ensures)
