use Rattle.std.proofs.Common.{◌≡◌, ◌++◌, take, map}
use Rattle.std.specs.List.{flat_map}
use Rattle.table_text.specs.Texts.{control_text_line, control_shown}
use Rattle.table_text.proofs.dump.push_controls.Given as goal

abbrev pub invariant-loop-control : goal.invariant-loop-control
invariant-loop-control l = l.text.items ≡ l.initial.text.items ++ flat_map control_text_line (map control_shown (take l.control-index l.controls))
