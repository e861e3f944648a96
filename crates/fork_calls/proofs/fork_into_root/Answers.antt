use Rattle.std.proofs.Common.{◌≡◌, ◌∙◌, ℕ, [], ◌∷◌, find, is_none, Option, Some, None, if◌then◌else◌, sym, ap}
use Rattle.pid_types.specs.Outcome.{Outcome, unless_found}
use Rattle.pid_types.specs.Fork.{forked}
use Rattle.pid_numbers.specs.Numbering.{Numbering, path_at, draw_in}
use Rattle.task_table.specs.View.{row_of, state_of}
use Rattle.fork_calls.proofs.Plans.{room-full}
use Rattle.fork_calls.proofs.fork_into_root.Goals as goal

-- where the root has no number to give it is the first that has none
root-full : (b : Numbering) → path_at b 0 ≡ 0 ∷ [] → draw_in b 0 ≡ None → find (λ q. is_none (draw_in b q)) (path_at b 0) ≡ Some 0
root-full b root none = ap (find (λ q. is_none (draw_in b q))) root ∙ ap (λ (o : Option ℕ). if is_none o then Some 0 else None) none

pub returns-in-None-clause-state : goal.returns-in-None-clause-state
returns-in-None-clause-state c =
    let s = c.args.store.now in
    let row = row_of s c.args.found.now.key c.args.found.now.task in
    let none : draw_in s.numbering 0 ≡ None = ap (λ b. draw_in b 0) (sym c.numbers.ensures) ∙ sym c.plan_one.ensures ∙ c.in-None.is in
    let room = room-full s c.laws.ensures c.requires.whole.alone 0 c.args.found.now.task.children_space c.requires.id row 0 c.id_of.result (root-full s.numbering c.laws.ensures.numbering.root none) c.id_of.ensures in
    let is = ap (λ o. unless_found (state_of s) o (λ r. r) (forked (state_of s) row c.args.found.now.task.children_space)) room in
    sym (ap (λ (o : Outcome). o.state) is)

pub returns-in-None-clause-reply : goal.returns-in-None-clause-reply
returns-in-None-clause-reply c =
    let s = c.args.store.now in
    let row = row_of s c.args.found.now.key c.args.found.now.task in
    let none : draw_in s.numbering 0 ≡ None = ap (λ b. draw_in b 0) (sym c.numbers.ensures) ∙ sym c.plan_one.ensures ∙ c.in-None.is in
    let room = room-full s c.laws.ensures c.requires.whole.alone 0 c.args.found.now.task.children_space c.requires.id row 0 c.id_of.result (root-full s.numbering c.laws.ensures.numbering.root none) c.id_of.ensures in
    let is = ap (λ o. unless_found (state_of s) o (λ r. r) (forked (state_of s) row c.args.found.now.task.children_space)) room in
    sym (ap (λ (o : Outcome). o.reply) is)
