use Rattle.std.proofs.Common.{◌≡◌, ℕ, ◌<◌, length, [], option_map, slice_get, ◌-◌, Some}
use Rattle.table_build.specs.Kept.{KeepsUngrouped}
use Rattle.table_build.specs.Stages.{as_begun}
use Rattle.table_build.specs.Lines.{AreLines}
use Rattle.table_text.specs.Reading.{saved_state}
use Rattle.table_build.specs.Parts.{HasParts, IsPart}
use Rattle.table_build.specs.Sorted.{IsNotBelow}
use Rattle.table_build.proofs.begin.begin_tasks.Given as goal

abbrev pub invariant-loop-index : goal.invariant-loop-index
invariant-loop-index l = record {
  keeps : KeepsUngrouped l.initial.store l.store;
  lines : AreLines l.store l.placed (λ j. option_map as_begun (slice_get l.saved.rows j));
  keys : length l.placed.keys.items ≡ l.index;
  groups : l.placed.groups.items ≡ [];
  placeholders : l.placed.placeholders.items ≡ [];
  part : HasParts l.initial.store (saved_state l.saved) → IsPart l.store (saved_state l.saved);
  sorted : (j : ℕ) → j < l.index → IsNotBelow l.saved.rows j;
  rowed : 0 < l.index → slice_get l.saved.rows (l.index - 1) ≡ Some l.row;
}
