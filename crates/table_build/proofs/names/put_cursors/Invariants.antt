use Rattle.std.proofs.Common.{◌≡◌, slice_get}
use Rattle.pid_numbers.specs.Numbering.{path_at}
use Rattle.table_build.specs.Bare.{HasCursors}
use Rattle.table_build.specs.Stages.{MovesCursors}
use Rattle.table_build.proofs.names.put_cursors.Given as goal

abbrev pub invariant-loop-number : goal.invariant-loop-number
invariant-loop-number l = record {
  moved : MovesCursors l.initial.store l.store;
  next : l.next ≡ slice_get (path_at l.initial.store.numbering l.space) l.number-index;
  put : HasCursors l.store.numbering (path_at l.initial.store.numbering l.space) l.numbers l.number-index;
}
