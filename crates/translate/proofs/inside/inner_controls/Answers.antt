use Rattle.std.proofs.Common.{◌∙◌, ◌++◌, sym, ap, subst, filter, map, nat_le, option_map}
use Rattle.pid_types.proofs.General.{held}
use Rattle.pid_types.specs.Controls.{control_at}
use Rattle.pids_charge.specs.Charges.{home_id}
use Rattle.task_table.specs.View.{state_of}
use Rattle.translate.specs.Inside.{controls_inside, AreFrom}
use Rattle.translate.proofs.Inner.{controls-from, all-stand}
use Rattle.translate.proofs.inside.inner_controls.Goals as goal

pub gather_controls-requires : goal.gather_controls-requires
gather_controls-requires c =
    let v = c.args.store.now.charges in
    let inner = rw c.controls-2.ensures at c.children-keys.ensures in
    all-stand v c.in-Some.key c.children-keys.result inner.each

pub returns-in_default : goal.returns-in_default
returns-in_default c =
    let s = c.args.store.now in
    let none = rw c.controls.ensures at c.in_default.ensures in
    ap (option_map (λ x. controls_inside (state_of s) c.args.id)) none.there

pub returns : goal.returns
returns c =
    let s = c.args.store.now in
    let key = c.in-Some.key in
    let found = rw c.controls.ensures at c.in-Some.ensures in
    let g = held (control_at s.charges.controls c.args.id) found.there in
    let inner = rw c.controls-2.ensures at c.children-keys.ensures in (
      controls_inside (state_of s) c.args.id,
      ap (option_map (λ x. controls_inside (state_of s) c.args.id)) g.1,
      subst (AreFrom (controls_inside (state_of s) c.args.id) c.args.from)
          (sym (c.in_ok-gather_controls.ensures ∙ ap (λ ns. ns ++ filter (nat_le c.args.from) (map (home_id s.charges) c.children-keys.result)) c.new-ids.ensures.items))
          (controls-from s.charges c.requires.sound.coherent.controls.rising key c.args.id found.id c.children-keys.result inner c.args.from),
    )
