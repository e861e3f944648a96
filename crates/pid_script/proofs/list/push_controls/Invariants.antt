use Rattle.std.proofs.Common.{◌≡◌, ◌++◌, take}
use Rattle.std.specs.List.{flat_map}
use Rattle.pid_script.specs.Lists.{control_line}
use Rattle.pid_script.proofs.list.push_controls.Given as goal

abbrev pub invariant-loop-control : goal.invariant-loop-control
invariant-loop-control l = l.text.items ≡ l.initial.text.items ++ flat_map control_line (take l.control-index l.controls)
