use Rattle.std.proofs.Common.{◌≡◌, ℕ, true, ◌-◌, ◌<◌, Some, slice_get}
use Rattle.table_text.specs.Reading.{saved_state}
use Rattle.task_table.specs.View.{row_with}
use Rattle.table_build.specs.Grouping.{HasRealParents}
use Rattle.table_build.specs.Lines.{AreGroups, AreLines, is_held, stage}
use Rattle.table_build.specs.Parts.{IsPart}
use Rattle.table_build.specs.Recent.{IsRecent}
use Rattle.table_build.specs.Settling.{KeepsGrouping}
use Rattle.table_build.specs.Stages.{seated}
use Rattle.table_build.proofs.settle.settle_tasks.Given as goal

abbrev pub invariant-loop-index : goal.invariant-loop-index
invariant-loop-index l = record {
  keeps : KeepsGrouping l.initial.store l.store;
  recent : IsRecent l.store l.last;
  lines : AreLines l.store l.placed (stage (λ r. r) seated l.saved.rows l.index);
  groups : AreGroups l.store l.placed l.saved.rows;
  part : IsPart l.initial.store (saved_state l.saved) → IsPart l.store (saved_state l.saved);
  held : (k : ℕ) → is_held l.placed k ≡ true → row_with l.store k ≡ row_with l.initial.store k;
  real : HasRealParents l.store l.placed;
  rowed : 0 < l.index → slice_get l.saved.rows (l.index - 1) ≡ Some l.row;
}
