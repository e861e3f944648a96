-- The plan is that of the parent's path behind a 1, and that path is the same in the view and in the tree
use Rattle.pid_numbers.proofs.Words.{◌≡◌, ◌≤◌, [], ◌∷◌, ◌++◌, ◌∙◌, sym, ap, subst, arith, length, find, is_none, None, map, unwrap_or, Some, OnOk, IfErr}
use Rattle.pid_numbers.proofs.Words.{way, draw_in, path_at, plan_on, numbering_of, AreIn}
use Rattle.pid_types.specs.Bounds.{deepest_space}
use Rattle.pid_numbers.proofs.Views as views
use Rattle.pid_numbers.proofs.Numbers.plan_new_into.Goals as goal

pub plan_path-requires-clause-there : goal.plan_path-requires-clause-there
plan_path-requires-clause-there c = subst (AreIn c.self.inside.ids.items) (sym c.path_up.ensures) (views.path_in c.self.inside.pid_max c.self.inside.tree c.self.inside.ids.items c.self.inside.idents c.self.invariant.whole.numbering c.self.invariant.count c.args.parent)

pub plan_path-requires-clause-room : goal.plan_path-requires-clause-room
plan_path-requires-clause-room c =
    let here = views.path_is c.self.inside.pid_max c.self.inside.tree c.self.inside.ids.items c.self.inside.idents c.args.parent in
    let few = subst (λ b. length (path_at b c.args.parent) ≤ deepest_space) (sym c.self.view_is) c.requires.shallow in
    let up = ap length c.path_up.ensures in
    let len = ap length here in
    let one = ap length (c.push.ensures.items ∙ ap (λ l. l ++ 1 ∷ []) c.clear.ensures) in
    omega (arith, few, up, len, one)

pub returns-clause-ok : goal.returns-clause-ok
returns-clause-ok c =
    let ids = c.self.inside.ids.items in
    let new = c.plan_path.new.numbers.items in
    let path = way c.self.inside.tree.nodes c.args.parent in
    let now = numbering_of c.self.inside.pid_max c.self.inside.tree c.self.inside.ids.items c.self.inside.idents in
    let b = c.self.invariant.whole.numbering in
    let count = c.self.invariant.count in
    let one : c.push.new.self.items ≡ 1 ∷ [] = c.push.ensures.items ∙ ap (λ l. l ++ 1 ∷ []) c.clear.ensures in
    subst (λ b. OnOk c.plan_path.result ((find (λ s. is_none (draw_in b s)) (path_at b c.args.parent) ≡ None) × (new ≡ 1 ∷ map (λ s. unwrap_or (draw_in b s) 0) (path_at b c.args.parent)))) c.self.view_is
    (subst (λ l. OnOk c.plan_path.result ((find (λ s. is_none (draw_in now s)) (path_at now c.args.parent) ≡ None) × (new ≡ 1 ∷ l))) (views.draws_same c.self.inside.pid_max c.self.inside.tree c.self.inside.ids.items c.self.inside.idents b count c.args.parent)
    (subst (λ o. OnOk c.plan_path.result ((o ≡ None) × (new ≡ 1 ∷ map (λ s. unwrap_or (plan_on ids s) 0) path))) (views.full_same c.self.inside.pid_max c.self.inside.tree c.self.inside.ids.items c.self.inside.idents b count c.args.parent)
    (subst (λ p. OnOk c.plan_path.result ((find (λ s. is_none (plan_on ids s)) p ≡ None) × (new ≡ 1 ∷ map (λ s. unwrap_or (plan_on ids s) 0) p))) c.path_up.ensures
    (subst (λ l. OnOk c.plan_path.result ((find (λ s. is_none (plan_on ids s)) c.path_up.result.now ≡ None) × (new ≡ l ++ map (λ s. unwrap_or (plan_on ids s) 0) c.path_up.result.now))) one c.plan_path.ensures.ok))))

pub returns-clause-err : goal.returns-clause-err
returns-clause-err c =
    let ids = c.self.inside.ids.items in
    subst (λ b. IfErr c.plan_path.result (λ k. find (λ s. is_none (draw_in b s)) (path_at b c.args.parent) ≡ Some k)) c.self.view_is
    (subst (λ o. IfErr c.plan_path.result (λ k. o ≡ Some k)) (views.full_same c.self.inside.pid_max c.self.inside.tree c.self.inside.ids.items c.self.inside.idents c.self.invariant.whole.numbering c.self.invariant.count c.args.parent)
    (subst (λ p. IfErr c.plan_path.result (λ k. find (λ s. is_none (plan_on ids s)) p ≡ Some k)) c.path_up.ensures c.plan_path.ensures.err))
