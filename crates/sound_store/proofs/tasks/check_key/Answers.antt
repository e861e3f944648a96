use Rattle.std.proofs.Common.{◌≡◌, true, refl}
use Rattle.task_table.proofs.Results.{if_err-map, on_ok-map}
use Rattle.sound_store.proofs.Told.{task-told}
use Rattle.sound_store.proofs.Walks.{none-good, one-good}
use Rattle.sound_store.specs.Flaws.{IsFlaw, IsTaskFlaw}
use Rattle.sound_store.specs.Tasks.{IsGoodAt, is_good_task}
use Rattle.sound_store.proofs.tasks.check_key.Goals as goal

pub returns-in_default-clause-ok : goal.returns-in_default-clause-ok
returns-in_default-clause-ok c = none-good c.args.store.now c.args.key (c.in_default.ensures.none refl)

pub returns-clause-ok : goal.returns-clause-ok
returns-clause-ok c =
    let s = c.args.store.now in
    let e = c.in-Some.ensures in
    on_ok-map c.check_task.result (is_good_task s c.in-Some.number c.in-Some.found ≡ true) (IsGoodAt s c.args.key)
    (λ good. one-good s c.args.key c.in-Some.number c.in-Some.found e.key e.task e.number good) c.check_task.ensures.ok

pub returns-clause-told : goal.returns-clause-told
returns-clause-told c =
    let s = c.args.store.now in
    let e = c.in-Some.ensures in
    if_err-map c.check_task.result (IsTaskFlaw s c.in-Some.number c.in-Some.found) (IsFlaw s)
    (λ flaw told. task-told s c.laws.ensures c.in-Some.found e.task c.in-Some.number e.number flaw told) c.check_task.ensures.told
