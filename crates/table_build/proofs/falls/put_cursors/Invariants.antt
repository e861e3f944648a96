use Rattle.std.proofs.Common.{◌≡◌, ℕ, ◌<◌, Some, slice_get}
use Rattle.pid_types.specs.declared.plain.Space.{Space}
use Rattle.table_build.specs.Bare.{HasCursor}
use Rattle.table_build.specs.Stages.{MovesCursors}
use Rattle.table_build.proofs.falls.put_cursors.Given as goal

abbrev pub invariant-loop-index : goal.invariant-loop-index
invariant-loop-index l = record {
  moved : MovesCursors l.initial.store l.store;
  put : (j : ℕ) (x : Space) → j < l.index → slice_get l.saved.spaces.items j ≡ Some x → HasCursor l.store.numbering x;
}
