use Rattle.pids_charge.proofs.Words.{sym, ◌∙◌, tree_of}
use Rattle.pids_charge.proofs.HomeIds as home_ids
use Rattle.pids_charge.proofs.standing.standing_from.Goals as goal

pub loop-parent-preserved : goal.loop-parent-preserved
loop-parent-preserved c =
    let up = home_ids.standing-up (tree_of c.args.nodes.now) c.requires.tree c.loop-parent.at c.in-Some.parent (sym c.in-Some.ensures) in
    record { there = (c.requires.tree.levels c.loop-parent.at c.in-Some.parent up.0).0; rest = c.loop-parent.invariant.rest ∙ up.1 }
