use Rattle.std.proofs.Common.{◌≡◌, ◌++◌, take}
use Rattle.std.specs.List.{flat_map}
use Rattle.pid_script.specs.Lists.{space_line}
use Rattle.pid_script.proofs.list.push_spaces.Given as goal

abbrev pub invariant-loop-space : goal.invariant-loop-space
invariant-loop-space l = l.text.items ≡ l.initial.text.items ++ flat_map space_line (take l.space-index l.spaces)
