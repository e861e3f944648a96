-- A group is busy where a live task or a group is directly in it
use Rattle.pids_charge.proofs.Words.{ap, arith, false, not, refl, sym, true, ◌∙◌}
use Rattle.pids_charge.proofs.Views as views
use Rattle.pids_charge.proofs.Removed as removed
use Rattle.pids_charge.proofs.Controls.may_remove.Goals as goal

pub node_at-node-requires : goal.node_at-node-requires
node_at-node-requires c = views.there_in c.self.inside c.self.view_is c.args.c c.requires

pub returns-then-is_none : goal.returns-then-is_none
returns-then-is_none c =
    sym (removed.refused c.self.inside c.self.view_is c.self.invariant.listed c.args.c c.requires false _ c.node_at-node.ensures
    (c.is_none.ensures ∙ ap not c.if-is_none.true) refl)

pub returns-then-node-gt0 : goal.returns-then-node-gt0
returns-then-node-gt0 c =
    let l = c.self.invariant.listed in
    let busy = removed.busy-live c.self.inside c.self.invariant.tree l c.args.c
    (views.stand_in c.self.inside c.self.view_is c.args.c c.requires) c.node_at-node.ensures c.if-node-gt0.true in
    sym (removed.refused c.self.inside c.self.view_is l c.args.c c.requires true true c.node_at-node.ensures
    (c.is_none.ensures ∙ ap not c.if-is_none.false) busy)

pub returns-then-is_some : goal.returns-then-is_some
returns-then-is_some c =
    let l = c.self.invariant.listed in
    let k = removed.child_found l c.args.c c.first.result c.first.ensures (sym c.is_some.ensures ∙ c.if-is_some.true) in
    let busy = removed.busy-child c.self.inside c.self.invariant.tree l c.args.c (views.stand_in c.self.inside c.self.view_is c.args.c c.requires) k.0 k.1 in
    sym (removed.refused c.self.inside c.self.view_is l c.args.c c.requires true true c.node_at-node.ensures
    (c.is_none.ensures ∙ ap not c.if-is_none.false) busy)

pub returns : goal.returns
returns c =
    let l = c.self.invariant.listed in
    let up = views.stand_in c.self.inside c.self.view_is c.args.c c.requires in
    let childless = removed.childless_of l c.args.c c.first.result c.first.ensures (sym c.is_some.ensures ∙ c.if-is_some.false) in
    let busy = removed.busy-none c.self.inside c.self.invariant.tree l c.args.c up c.node_at-node.ensures (omega (arith, c.if-node-gt0.false)) childless in
    sym (removed.refused c.self.inside c.self.view_is l c.args.c c.requires true false c.node_at-node.ensures
    (c.is_none.ensures ∙ ap not c.if-is_none.false) busy)
