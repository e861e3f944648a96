use Rattle.std.proofs.Common.{◌≡◌, take, drop, map, ◌++◌}
use Rattle.plain_table.proofs.edit.edit_all.Given as goal

abbrev pub invariant-loop-element : goal.invariant-loop-element
invariant-loop-element g l =
    l.elements ≡ map (g.E.Edit.gives l.change) (take l.element-index l.initial.elements) ++ drop l.element-index l.initial.elements
