use Rattle.std.proofs.Common.{◌≡◌, ℕ, ◌<◌, true, None}
use Rattle.task_table.specs.View.{row_with}
use Rattle.task_table.specs.Whole.{HasParents}
use Rattle.table_build.specs.Grouping.{AllStand, HasRealParents}
use Rattle.table_build.specs.Lines.{SameLines, is_held}
use Rattle.table_build.specs.Stages.{KeepsPlaces}
use Rattle.table_build.proofs.settle.remove_placeholders.Given as goal

abbrev pub invariant-loop-place : goal.invariant-loop-place
invariant-loop-place l = record {
  kin : HasParents l.store;
  standing : AllStand l.store;
  real : HasRealParents l.store l.placed;
  lines : SameLines l.initial.store l.store l.placed l.placed;
  gone : (k : ℕ) → k < l.place → is_held l.placed k ≡ true → row_with l.store k ≡ None;
  places : KeepsPlaces l.initial.store l.store;
  threads : l.store.threads ≡ l.initial.store.threads;
}
