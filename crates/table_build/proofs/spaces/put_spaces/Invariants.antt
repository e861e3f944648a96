use Rattle.std.proofs.Common.{◌≡◌, ◌-◌, ◌<◌, map, take, Some, slice_get}
use Rattle.pid_types.specs.declared.plain.Space.{Space}
use Rattle.task_table.specs.View.{spaces_of}
use Rattle.table_build.specs.Bare.{undrawn}
use Rattle.table_build.specs.Follows.{AreIdsUpTo}
use Rattle.table_build.specs.Ungrouped.{IsUngrouped}
use Rattle.table_build.proofs.spaces.put_spaces.Given as goal

abbrev pub invariant-loop-index : goal.invariant-loop-index
invariant-loop-index l = record {
  ungrouped : IsUngrouped l.store;
  put : spaces_of l.store.numbering ≡ map undrawn (take l.index l.saved.spaces.items);
  below : (s : Space) → slice_get l.saved.spaces.items (l.index - 1) ≡ Some s → AreIdsUpTo s.id (spaces_of l.store.numbering);
  names : l.store.numbering.names ≡ l.initial.store.numbering.names;
  bound : l.store.numbering.pid_max ≡ l.initial.store.numbering.pid_max;
  rest : l.store ≡ record l.initial.store { numbering = l.store.numbering };
  some : 0 < l.index;
}
