use Rattle.std.proofs.Common.{◌≡◌, ◌++◌, true, map}
use Rattle.std.specs.List.{AllByRecursion}
use Rattle.pid_types.specs.Shown.{with_count}
use Rattle.pids_charge.specs.Charges.{stands, home_id}
use Rattle.task_table.specs.View.{state_of}
use Rattle.translate.specs.ById.{control_row_of}
use Rattle.translate.proofs.shown.all_controls.Given as goal

abbrev pub invariant-loop-id : goal.invariant-loop-id
invariant-loop-id l = record {
  walk : l.rows.items ++ map (λ p. control_row_of (state_of l.store) p.0) l.id-iterator ≡ map (with_count (state_of l.store)) l.store.charges.controls;
  keys : AllByRecursion (λ p. (stands l.store.charges p.1 ≡ true) × (home_id l.store.charges p.1 ≡ p.0)) l.id-iterator;
}
