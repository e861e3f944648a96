use Rattle.std.proofs.Common.{◌≡◌, ◌++◌, map}
use Rattle.task_table.specs.View.{space_of, spaces_of}
use Rattle.translate.proofs.shown.all_spaces.Given as goal

abbrev pub invariant-loop-id : goal.invariant-loop-id
invariant-loop-id l = l.spaces.items ++ map (space_of l.store.numbering) l.id-iterator ≡ spaces_of l.store.numbering
