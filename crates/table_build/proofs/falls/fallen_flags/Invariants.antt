use Rattle.std.proofs.Common.{◌≤◌, ◌^◌, length}
use Rattle.table_build.specs.Bare.{AreFlagged}
use Rattle.table_build.proofs.falls.fallen_flags.Given as goal

abbrev pub invariant-loop-index : goal.invariant-loop-index
invariant-loop-index l = record {
  flagged : AreFlagged l.store.numbering l.saved.spaces.items l.index l.flags.items;
  few : length l.flags.items ≤ 2 ^ 32;
}
