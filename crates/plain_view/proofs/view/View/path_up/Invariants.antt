use Rattle.std.proofs.Common.{◌≡◌, ◌-◌, ◌++◌, [], length, ◌≤◌}
use Rattle.std.specs.Option.{option_map_or}
use Rattle.pid_types.specs.Chains.{climb}
use Rattle.pid_types.specs.Names.{parent_space}
use Rattle.plain_view.proofs.view.View.path_up.Given as goal

abbrev pub invariant-loop : goal.invariant-loop
invariant-loop l = record {
  long : length l.path.items ≤ l.counter;
  rest : l.path.items ++ option_map_or (climb (parent_space l.self.spaces) (33 - l.counter)) l.next [] ≡ climb (parent_space l.self.spaces) 33 l.fn.id;
}
