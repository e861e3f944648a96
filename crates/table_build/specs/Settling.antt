-- What a step keeps of a store whose tasks get groups, parents and ends.
use Rattle.std.specs.Prelude.{◌≡◌, ℕ, Some, None}
use Rattle.pid_types.specs.declared.plain.Row.{Row}
use Rattle.pid_types.specs.declared.plain.Life.TheVariants.{Live}
use Rattle.task_table.specs.Store.{Store, HasNoThreads}
use Rattle.task_table.specs.View.{row_with}
use Rattle.task_table.specs.Whole.{HasParents}
use Rattle.table_build.specs.declared.names.RecentName.{RecentName}
use Rattle.table_build.specs.declared.placed.Placed.{Placed}
use Rattle.table_build.specs.Grouping.{AllStand, HasRealParents, IsGrouping}
use Rattle.table_build.specs.Lines.{SameLines}
use Rattle.table_build.specs.Recent.{IsRecent}
use Rattle.table_build.specs.Stages.{KeepsBearers, KeepsPlaces, SetsRow}

-- parents are tasks, the places are the same, and who bears a name bears it still
pub record KeepsGrouping (old new : Store) : Type 0 where
  pub grouping : IsGrouping new
  pub places : KeepsPlaces old new
  pub names : KeepsBearers old new

-- the row of the task with the key is changed so, and the rest is kept
pub record ChangesTask (old new : Store) (key : ℕ) (change : Row → Row) : Type 0 where
  pub keeps : KeepsGrouping old new
  pub sets : (row : Row) → row_with old key ≡ Some row → SetsRow old new key (change row)

-- the task of the row has its group, and no parent yet
pub record IsToSettle (s : Store) (p : Placed) (key : ℕ) (row : Row) (last : RecentName) : Type 0 where
  pub grouping : IsGrouping s
  pub recent : IsRecent s last
  pub joined : row_with s key ≡ Some (record row { parent = None; life = Live })
  pub real : HasRealParents s p

-- the next task may be settled too
pub record KeepsSettling (old new : Store) (p : Placed) (last : RecentName) : Type 0 where
  pub keeps : KeepsGrouping old new
  pub recent : IsRecent new last
  pub real : HasRealParents new p

-- parents are tasks of lines, each namespace stands, and each process is one thread
pub record IsSettled (s : Store) (p : Placed) : Type 0 where
  pub kin : HasParents s
  pub standing : AllStand s
  pub single : HasNoThreads s.threads
  pub real : HasRealParents s p

-- so they are still, and lines and places are the same
pub record KeepsSettled (old new : Store) (p : Placed) : Type 0 where
  pub settled : IsSettled new p
  pub lines : SameLines old new p p
  pub places : KeepsPlaces old new
