use Rattle.std.proofs.Common.{arith}
use Rattle.std.proofs.lemmas.Grind.{common_steps}
use Rattle.pid_numbers.proofs.Words.{◌≡◌, ◌∙◌, refl, sym, ap, length, Some, option_map, slice_get, option_map_or, slice_get_read, node_in, cursor_on}
use Rattle.pid_numbers.proofs.Words.{namespace_of}
use Rattle.pid_numbers.proofs.Views as views
use Rattle.pid_numbers.proofs.Numbers.cursor.Goals as goal

pub returns-then-not-is_there : goal.returns-then-not-is_there
returns-then-not-is_there c =
    sym (ap (option_map (λ t. t.cursor)) (views.namespace_is c.self.inside c.self.view_is c.args.space
    ∙ ap (option_map (namespace_of (cursor_on c.self.inside.ids.items c.args.space))) (views.absent (node_in c.self.inside.tree.nodes c.args.space) (sym c.is_there.ensures ∙ c.if-not-is_there.true))))

pub index-requires : goal.index-requires
index-requires c = grind (arith, common_steps)

pub returns : goal.returns
returns c =
    let ids = c.self.inside.ids.items in
    let z = views.held (node_in c.self.inside.tree.nodes c.args.space) (sym c.is_there.ensures ∙ c.if-not-is_there.false) in
    let lt = views.there_in c.self.inside.tree.nodes ids c.self.invariant.count c.args.space z.0 z.1 in
    let at : slice_get ids c.args.space ≡ Some c.index.result.now = slice_get_read ids (length ids) c.args.space c.index.result.now refl lt c.index.ensures in
    ap Some (c.cursor.ensures ∙ sym (ap (λ o. option_map_or (λ t. t.cursor) o 0) at))
    ∙ sym (ap (option_map (λ t. t.cursor))
    (views.namespace_is c.self.inside c.self.view_is c.args.space ∙ ap (option_map (namespace_of (cursor_on ids c.args.space))) z.1))
