use Rattle.std.proofs.Common.{◌≡◌, ◌-◌, ◌↔◌, true}
use Rattle.pid_types.specs.Chains.{climb}
use Rattle.pid_types.specs.Controls.{parent_control, control_path}
use Rattle.pid_types.specs.Membership.{IsIn}
use Rattle.pids_charge.specs.Charges.{stands, home_id}
use Rattle.sound_store.proofs.controls.leads_to_root.Given as goal

abbrev pub invariant-loop : goal.invariant-loop
invariant-loop l = record {
  stands : stands l.controls l.at ≡ true;
  same : IsIn 0 (climb (parent_control l.controls.controls) (65 - l.counter) (home_id l.controls l.at))
      ↔ IsIn 0 (control_path l.controls.controls (home_id l.controls l.control));
}
