use Rattle.std.proofs.Common.{◌≡◌, ◌-◌, ◌++◌, [], length, ◌≤◌}
use Rattle.std.specs.Option.{option_map_or}
use Rattle.pid_types.specs.Chains.{climb}
use Rattle.pid_types.specs.Controls.{parent_control}
use Rattle.plain_view.proofs.view.View.control_path.Given as goal

abbrev pub invariant-loop : goal.invariant-loop
invariant-loop l = record {
  long : length l.path.items ≤ l.counter;
  rest : l.path.items ++ option_map_or (climb (parent_control l.self.controls) (65 - l.counter)) l.next [] ≡ climb (parent_control l.self.controls) 65 l.fn.id;
}
