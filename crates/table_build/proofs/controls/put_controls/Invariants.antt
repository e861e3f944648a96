use Rattle.std.proofs.Common.{◌≡◌, ◌<◌, take}
use Rattle.table_build.specs.Follows.{AreUpToLast}
use Rattle.table_build.proofs.controls.put_controls.Given as goal

abbrev pub invariant-loop-index : goal.invariant-loop-index
invariant-loop-index l = record {
  below : AreUpToLast l.store.charges.controls l.saved.controls.items l.index;
  put : l.store.charges.controls ≡ take l.index l.saved.controls.items;
  rest : l.store ≡ record l.initial.store { charges = l.store.charges };
  some : 0 < l.index;
}
