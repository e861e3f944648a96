-- What a step keeps of a store whose tasks have no groups yet.
use Rattle.std.specs.Prelude.{◌≡◌, ℕ, None}
use Rattle.pid_types.specs.declared.plain.Row.{Row}
use Rattle.task_table.specs.Store.{Store}
use Rattle.task_table.specs.View.{row_with}
use Rattle.table_build.specs.Stages.{AddsRow, KeepsBearers, KeepsPlaces}
use Rattle.table_build.specs.Ungrouped.{IsUngrouped}

-- the store is ungrouped, has its places, and who bears a name bears it still
pub record KeepsUngrouped (old new : Store) : Type 0 where
  pub ungrouped : IsUngrouped new
  pub places : KeepsPlaces old new
  pub names : KeepsBearers old new

-- a task came, and the rest is kept
pub record AddsTask (old new : Store) (key : ℕ) (row : Row) : Type 0 where
  pub keeps : KeepsUngrouped old new
  pub adds : AddsRow old new key row

-- an ungrouped store without tasks
pub record HasNobody (s : Store) : Type 0 where
  pub ungrouped : IsUngrouped s
  pub nobody : (k : ℕ) → row_with s k ≡ None
