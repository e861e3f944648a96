use Rattle.std.proofs.Common.{inl, inr, length, sym, ap, subst, arith}
use Rattle.std.proofs.lemmas.Bool.{cases_eq}
use Rattle.task_table.proofs.Results.{if_err}
use Rattle.sound_store.proofs.Walks.{all-good}
use Rattle.sound_store.specs.Flaws.{IsFlaw}
use Rattle.task_tree.specs.Tree.{TreeOfTasks}
use Rattle.sound_store.specs.Tasks.{IsGoodAt}
use Rattle.sound_store.proofs.tasks.check_tasks.Goals as goal

pub loop-place-preserved : goal.loop-place-preserved
loop-place-preserved c k lt = elim (cases_eq k c.loop-place.place) [
  | inl same ↦ subst (IsGoodAt c.args.store.now) (sym same) c.in_ok-check_key.ensures.ok
  | inr not ↦ c.loop-place.invariant k (omega (arith, lt, not))
]

pub returns-in_err-check_key-clause-told : goal.returns-in_err-check_key-clause-told
returns-in_err-check_key-clause-told c = if_err c.from_residual.result (IsFlaw c.args.store.now) c.in_err-check_key.field-0.0 c.from_residual.ensures.1 c.in_err-check_key.ensures.told

pub returns-clause-ok : goal.returns-clause-ok
returns-clause-ok c =
    let s = c.args.store.now in
    all-good s c.loop-place.place (let past = c.loop-place-test.false in let end = c.keys-place-end.ensures in let same = ap (λ (t : TreeOfTasks). length t.tasks) c.tree-tree.ensures in omega (arith, past, end, same)) c.loop-place.invariant
