use Rattle.std.proofs.Common.{arith}
use Rattle.std.proofs.lemmas.Grind.{common_steps}
use Rattle.pid_numbers.proofs.Words.{◌∙◌, sym, ap, option_map, option_and_then, cyclic_draw, node_in, draw_in, taken_in, cursor_on, namespace_of}
use Rattle.pid_numbers.proofs.Views as views
use Rattle.pid_numbers.proofs.Numbers.plan_one.Goals as goal

pub returns-then-not-is_there : goal.returns-then-not-is_there
returns-then-not-is_there c =
    sym (ap (option_and_then (λ t. cyclic_draw c.args.self.now.pid_max t.cursor (taken_in c.args.self.now c.args.space)))
    (views.namespace_is c.self.inside c.self.view_is c.args.space
    ∙ ap (option_map (namespace_of (cursor_on c.self.inside.ids.items c.args.space))) (views.absent (node_in c.self.inside.tree.nodes c.args.space) (sym c.is_there.ensures ∙ c.if-not-is_there.true))))

pub plan_at-requires : goal.plan_at-requires
plan_at-requires c = grind (arith, common_steps)

pub returns : goal.returns
returns c =
    c.plan_at.ensures
    ∙ views.draw_same c.self.inside.pid_max c.self.inside.tree c.self.inside.ids.items c.self.inside.idents c.self.invariant.whole.numbering c.self.invariant.count c.args.space (c.self.invariant.some c.args.space (sym c.is_there.ensures ∙ c.if-not-is_there.false))
    ∙ ap (λ b. draw_in b c.args.space) c.self.view_is
