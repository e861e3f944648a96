-- The root has no limit, and no limit is above the greatest number
use Rattle.pids_charge.proofs.Words.{ap, false, not, refl, sym, true, ◌∙◌}
use Rattle.pids_charge.proofs.Views as views
use Rattle.pids_charge.proofs.Limited as limited
use Rattle.pids_charge.proofs.Controls.may_limit.Goals as goal

pub node_at-node-requires : goal.node_at-node-requires
node_at-node-requires c = views.there_in c.self.inside c.self.view_is c.args.c c.requires

pub returns-then-is_none : goal.returns-then-is_none
returns-then-is_none c = sym (limited.refused c.self.inside c.self.view_is c.self.invariant.listed c.args.c c.requires c.args.limit false _
    c.node_at-node.ensures (c.is_none.ensures ∙ ap not c.if-is_none.true) refl)

pub returns-then-is_too_high : goal.returns-then-is_too_high
returns-then-is_too_high c = sym (limited.refused c.self.inside c.self.view_is c.self.invariant.listed c.args.c c.requires c.args.limit true true
    c.node_at-node.ensures (c.is_none.ensures ∙ ap not c.if-is_none.false) (sym c.is_too_high.ensures ∙ c.if-is_too_high.true))

pub returns : goal.returns
returns c = sym (limited.refused c.self.inside c.self.view_is c.self.invariant.listed c.args.c c.requires c.args.limit true false
    c.node_at-node.ensures (c.is_none.ensures ∙ ap not c.if-is_none.false) (sym c.is_too_high.ensures ∙ c.if-is_too_high.false))
