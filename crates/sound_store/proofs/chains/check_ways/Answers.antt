use Rattle.std.proofs.Common.{◌≤◌, inl, inr, length, is_some, ap, sym, subst, arith}
use Rattle.std.proofs.lemmas.Bool.{cases_eq}
use Rattle.task_table.proofs.Changes.{in_range}
use Rattle.task_table.proofs.Results.{if_err}
use Rattle.sound_store.specs.Flaws.{IsWayFlaw}
use Rattle.task_tree.specs.Tree.{TreeOfTasks}
use Rattle.sound_store.specs.Ways.{HasWayAt}
use Rattle.sound_store.proofs.chains.check_ways.Goals as goal

pub loop-place-preserved : goal.loop-place-preserved
loop-place-preserved c = record {
  done = λ k lt. elim (cases_eq k c.loop-place.place) [
    | inl same ↦ subst (HasWayAt c.args.store.now) (sym same) c.in_ok-check_way.ensures.ok
    | inr not ↦ c.loop-place.invariant.done k (omega (arith, lt, not))
  ];
  marked = c.in_ok-check_way.ensures.marked;
}

pub returns-in_err-check_way-clause-told : goal.returns-in_err-check_way-clause-told
returns-in_err-check_way-clause-told c = if_err c.from_residual.result (IsWayFlaw c.args.store.now) c.in_err-check_way.field-0.0 c.from_residual.ensures.1 c.in_err-check_way.ensures.told

pub returns-clause-ok : goal.returns-clause-ok
returns-clause-ok c k t e =
    let s = c.args.store.now in
    let all : length s.tree.tasks ≤ c.loop-place.place = (let past = c.loop-place-test.false in let end = c.keys-place-end.ensures in let same = ap (λ (t : TreeOfTasks). length t.tasks) c.tree-tree.ensures in omega (arith, past, end, same)) in
    let room = in_range s.tree.tasks k (ap is_some e) in
    c.loop-place.invariant.done k (omega (arith, room, all)) t e
