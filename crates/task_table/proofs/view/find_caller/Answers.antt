use Rattle.std.proofs.Common.{◌≡◌, ◌∙◌, sym, ap, Some, true}
use Rattle.pid_numbers.specs.Numbering.{number_of}
use Rattle.task_tree.specs.declared.Task.{Task}
use Rattle.task_tree.specs.Tree.{has_live, lives, task_at}
use Rattle.task_table.proofs.LookUps.{live-key, live-none, live-there}
use Rattle.task_table.proofs.view.find_caller.Goals as goal

pub returns-in_default : goal.returns-in_default
returns-in_default c =
    live-none c.args.store.now c.laws.ensures c.args.number (λ k t e on. absurd (c.in_default.ensures k (ap (λ b. number_of b k 0) c.numbers.ensures ∙ on)))

-- who has the number has ended, or is no task: no other task has it
pub returns-then-not-is_live_at : goal.returns-then-not-is_live_at
returns-then-not-is_live_at c =
    let s = c.args.store.now in
    let key = c.in-Some.key in
    let here : number_of s.numbering key 0 ≡ Some c.args.number = ap (λ b. number_of b key 0) (sym c.numbers.ensures) ∙ c.in-Some.ensures in
    live-none s c.laws.ensures c.args.number
    (λ k t e on. ap has_live (sym e) ∙ ap (λ j. has_live (task_at s.tree j)) (sym (c.laws.ensures.numbering.distinct key k 0 c.args.number here on))
    ∙ ap (λ t. has_live (task_at t key)) (sym c.tree.ensures) ∙ sym c.is_live_at.ensures ∙ c.if-not-is_live_at.true)

pub returns : goal.returns
returns c =
    let s = c.args.store.now in
    let key = c.in-Some.key in
    let found : (t : Task) × (task_at s.tree key ≡ Some t) × (lives t ≡ true) =
    live-there (task_at s.tree key) (ap (λ t. has_live (task_at t key)) (sym c.tree.ensures) ∙ sym c.is_live_at.ensures ∙ c.if-not-is_live_at.false) in record {
      task = found.0;
      there = found.1;
      live = found.2;
      row = live-key s c.laws.ensures c.args.number key found.0 found.1 (ap (λ b. number_of b key 0) (sym c.numbers.ensures) ∙ c.in-Some.ensures) found.2;
      own = c.own_space.ensures.own;
      id = c.own_space.ensures.id;
    }
