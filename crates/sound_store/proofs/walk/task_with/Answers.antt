-- A task has an identifier, and each identifier has a number in the root namespace
use Rattle.std.proofs.Common.{◌≡◌, ◌∙◌, Some, None, sym, ap, option_map}
use Rattle.pid_types.specs.Names.{root_number}
use Rattle.pid_numbers.specs.Numbering.{Identifier, identifier_at, number_of}
use Rattle.task_tree.specs.Tree.{task_at}
use Rattle.task_table.specs.View.{name_at}
use Rattle.task_table.proofs.LookUps.{named}
use Rattle.sound_store.proofs.Ways.{number-at}
use Rattle.sound_store.proofs.walk.task_with.Goals as goal

pub returns-in_default-clause-none : goal.returns-in_default-clause-none
returns-in_default-clause-none c = λ _. ap (λ x. task_at x c.args.key) (sym c.tree.ensures) ∙ sym c.task.ensures ∙ c.in_default.is

pub unreachable-requires : goal.unreachable-requires
unreachable-requires c =
    let s = c.args.store.now in
    let at : task_at s.tree c.args.key ≡ Some c.in-Some.task = ap (λ x. task_at x c.args.key) (sym c.tree.ensures) ∙ sym c.task.ensures ∙ c.in-Some.is in
    let u = named s c.laws.ensures c.args.key c.in-Some.task at in
    let z : None ≡ Some u.0.space =
    sym c.in_default-space_of.is ∙ c.space_of.ensures ∙ ap (λ b. option_map (λ (v : Identifier). v.space) (identifier_at b c.args.key)) c.numbers.ensures ∙ ap (option_map (λ (v : Identifier). v.space)) u.1 in
    cc

pub unreachable-requires-in_default-number_in : goal.unreachable-requires-in_default-number_in
unreachable-requires-in_default-number_in c =
    let s = c.args.store.now in
    let at : task_at s.tree c.args.key ≡ Some c.in-Some.task = ap (λ x. task_at x c.args.key) (sym c.tree.ensures) ∙ sym c.task.ensures ∙ c.in-Some.is in
    let z : None ≡ Some (root_number (name_at s.numbering c.args.key)) =
    sym c.in_default-number_in.is ∙ c.number_in.ensures ∙ ap (λ b. number_of b c.args.key 0) c.numbers-2.ensures ∙ number-at s c.laws.ensures c.args.key c.in-Some.task at in
    cc

pub returns-clause-task : goal.returns-clause-task
returns-clause-task c = record {
  there = ap (λ x. task_at x c.args.key) (sym c.tree.ensures) ∙ sym c.task.ensures ∙ c.in-Some.is;
  own = ap (λ b. option_map (λ (v : Identifier). v.space) (identifier_at b c.args.key)) (sym c.numbers.ensures) ∙ sym c.space_of.ensures ∙ c.in-Some-space_of.is;
}

pub returns-clause-number : goal.returns-clause-number
returns-clause-number c = ap (λ b. number_of b c.args.key 0) (sym c.numbers-2.ensures) ∙ sym c.number_in.ensures ∙ c.in-Some-number_in.is
