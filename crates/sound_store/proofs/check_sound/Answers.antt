use Rattle.std.proofs.Common.{◌≢◌, subst}
use Rattle.pids_charge.specs.Charges.{Charges}
use Rattle.sound_store.specs.declared.Flaw.{Flaw}
use Rattle.sound_store.specs.declared.Flaw.TheVariants.{NoMemory}
use Rattle.task_table.specs.Whole.{IsWhole}
use Rattle.sound_store.proofs.Made.{whole-from}
use Rattle.task_table.proofs.Results.{if_err, on_ok-map, if_err-map}
use Rattle.sound_store.proofs.Told.{control-told, way-told, no-flaw}
use Rattle.sound_store.specs.Flaws.{IsFlaw, IsControlFlaw, IsWayFlaw}
use Rattle.sound_store.specs.Groups.{HasGoodControls}
use Rattle.sound_store.specs.Ways.{HasWays}
use Rattle.sound_store.proofs.check_sound.Goals as goal

pub returns-in_err-check_spaces-clause-told : goal.returns-in_err-check_spaces-clause-told
returns-in_err-check_spaces-clause-told c =
    if_err c.from_residual.result (IsFlaw c.args.store.now) c.in_err-check_spaces.field-0.0 c.from_residual.ensures.1 c.in_err-check_spaces.ensures.told

pub returns-in_err-check_spaces-clause-flaw : goal.returns-in_err-check_spaces-clause-flaw
returns-in_err-check_spaces-clause-flaw c =
    let s = c.args.store.now in
    let flaw = c.in_err-check_spaces.field-0.0 in
    if_err c.from_residual.result (λ (f : Flaw). f ≢ NoMemory → IsWhole s → ⊥) flaw c.from_residual.ensures.1 (no-flaw s c.laws.ensures flaw c.in_err-check_spaces.ensures.told)

pub returns-in_err-check_controls-clause-told : goal.returns-in_err-check_controls-clause-told
returns-in_err-check_controls-clause-told c =
    let flaw = c.in_err-check_controls.field-0.0 in
    if_err c.from_residual-in_err-check_controls.result (IsFlaw c.args.store.now) flaw c.from_residual-in_err-check_controls.ensures.1
    (control-told c.args.store.now c.laws.ensures flaw (subst (λ (v : Charges). IsControlFlaw v flaw) c.controls.ensures c.in_err-check_controls.ensures.told))

pub returns-in_err-check_controls-clause-flaw : goal.returns-in_err-check_controls-clause-flaw
returns-in_err-check_controls-clause-flaw c =
    let s = c.args.store.now in
    let flaw = c.in_err-check_controls.field-0.0 in
    if_err c.from_residual-in_err-check_controls.result (λ (f : Flaw). f ≢ NoMemory → IsWhole s → ⊥) flaw c.from_residual-in_err-check_controls.ensures.1
    (no-flaw s c.laws.ensures flaw (control-told s c.laws.ensures flaw (subst (λ (v : Charges). IsControlFlaw v flaw) c.controls.ensures c.in_err-check_controls.ensures.told)))

pub returns-in_err-check_tasks-clause-told : goal.returns-in_err-check_tasks-clause-told
returns-in_err-check_tasks-clause-told c =
    if_err c.from_residual-in_err-check_tasks.result (IsFlaw c.args.store.now) c.in_err-check_tasks.field-0.0 c.from_residual-in_err-check_tasks.ensures.1 c.in_err-check_tasks.ensures.told

pub returns-in_err-check_tasks-clause-flaw : goal.returns-in_err-check_tasks-clause-flaw
returns-in_err-check_tasks-clause-flaw c =
    let s = c.args.store.now in
    let flaw = c.in_err-check_tasks.field-0.0 in
    if_err c.from_residual-in_err-check_tasks.result (λ (f : Flaw). f ≢ NoMemory → IsWhole s → ⊥) flaw c.from_residual-in_err-check_tasks.ensures.1 (no-flaw s c.laws.ensures flaw c.in_err-check_tasks.ensures.told)

pub check_chains-requires : goal.check_chains-requires
check_chains-requires c = let good = c.in_ok-check_spaces.ensures.ok in (good.each 0 0 good.root).init good.stands

pub returns-clause-sound : goal.returns-clause-sound
returns-clause-sound c =
    let s = c.args.store.now in
    on_ok-map c.check_chains.result (HasWays s) (IsWhole s)
    (λ ways. whole-from s c.laws.ensures c.requires c.in_ok-check_spaces.ensures.ok (subst (λ (v : Charges). HasGoodControls v) c.controls.ensures c.in_ok-check_controls.ensures.ok) c.in_ok-check_tasks.ensures.ok ways)
    c.check_chains.ensures.ok

pub returns-clause-told : goal.returns-clause-told
returns-clause-told c =
    let s = c.args.store.now in
    let good = c.in_ok-check_spaces.ensures.ok in
    if_err-map c.check_chains.result (IsWayFlaw s) (IsFlaw s) (way-told s c.laws.ensures ((good.each 0 0 good.root).init good.stands)) c.check_chains.ensures.told

pub returns-clause-flaw : goal.returns-clause-flaw
returns-clause-flaw c =
    let s = c.args.store.now in
    let good = c.in_ok-check_spaces.ensures.ok in
    if_err-map c.check_chains.result (IsWayFlaw s) (λ (flaw : Flaw). flaw ≢ NoMemory → IsWhole s → ⊥)
    (λ flaw told. no-flaw s c.laws.ensures flaw (way-told s c.laws.ensures ((good.each 0 0 good.root).init good.stands) flaw told)) c.check_chains.ensures.told
