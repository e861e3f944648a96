use Rattle.std.proofs.Common.{◌≡◌, length, ◌-◌, ◌<◌, Some, slice_get}
use Rattle.pid_types.specs.Sound.{HasGoodGroups}
use Rattle.table_text.specs.Reading.{saved_state}
use Rattle.table_build.specs.Parts.{HaveSeats, IsPart}
use Rattle.table_build.specs.Lines.{AreGroups, AreLines, KeepsFew, stage}
use Rattle.table_build.specs.Sessions.{AreRecent}
use Rattle.table_build.specs.Stages.{as_begun, seated}
use Rattle.table_build.specs.Kept.{KeepsUngrouped}
use Rattle.table_build.proofs.sessions.enter_sessions.Given as goal

abbrev pub invariant-loop-index : goal.invariant-loop-index
invariant-loop-index l = record {
  keeps : KeepsUngrouped l.initial.store l.store;
  recent : AreRecent l.store l.last;
  lines : AreLines l.store l.placed (stage seated as_begun l.saved.rows l.index);
  groups : AreGroups l.store l.placed l.saved.rows;
  count : length l.placed.groups.items ≡ l.index;
  few : KeepsFew l.initial.placed l.placed;
  part : IsPart l.initial.store (saved_state l.saved) → IsPart l.store (saved_state l.saved);
  seats : HasGoodGroups l.saved.rows → HaveSeats l.store l.placed l.saved.rows;
  keys : l.placed.keys ≡ l.initial.placed.keys;
  rowed : 0 < l.index → slice_get l.saved.rows (l.index - 1) ≡ Some l.row;
}
