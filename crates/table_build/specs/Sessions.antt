-- What is added when a line's task goes to its session.
use Rattle.std.specs.Prelude.{◌≡◌, ◌≢◌, ◌⊎◌, ℕ, ◌++◌, ◌∷◌, [], true, Some}
use Rattle.pid_types.specs.declared.plain.Name.{Name}
use Rattle.pid_types.specs.declared.plain.Row.{Row}
use Rattle.task_table.specs.Store.{Store}
use Rattle.task_table.specs.View.{row_with}
use Rattle.table_build.specs.declared.placed.Placed.{Placed}
use Rattle.table_build.specs.declared.sessions.RecentNames.{RecentNames}
use Rattle.table_build.specs.Kept.{KeepsUngrouped}
use Rattle.table_build.specs.Lines.{KeepsFew, SameLines, is_held}
use Rattle.table_build.specs.Recent.{Bears, IsRecent}

-- all tasks have their rows and marks still, and whoever has come bears the name
pub record AddsPlaceholder (old new : Store) (before after : Placed) (name : Name) : Type 0 where
  pub kept : (k : ℕ) (r : Row) → row_with old k ≡ Some r → (row_with new k ≡ Some r) × (is_held after k ≡ is_held before k)
  pub come : (k : ℕ) (r : Row) → row_with new k ≡ Some r → (row_with old k ≡ Some r) ⊎ (r.name ≡ name)

-- the task with the key bears the name, and may have come as a placeholder; the rest is kept
pub record PutsBearer (old new : Store) (before after : Placed) (name : Name) (key : ℕ) : Type 0 where
  pub keeps : KeepsUngrouped old new
  pub bears : Bears new key name
  pub lines : SameLines old new before after
  pub rows : AddsPlaceholder old new before after name

-- the task with the key alone is another one's: it keeps its name, and is in the session with the name if it is a placeholder
pub record Seats (old new : Store) (p : Placed) (key : ℕ) (session : Name) : Type 0 where
  pub others : (k : ℕ) → k ≢ key → row_with new k ≡ row_with old k
  pub named : (r : Row) → row_with new key ≡ Some r → (before : Row) × (row_with old key ≡ Some before) × (r.name ≡ before.name)
  pub seat : is_held p key ≡ true → (r : Row) → row_with new key ≡ Some r → r.session ≡ session

-- one group more, with a task that bears the name of the row's group and is in its session if it is a placeholder; the tasks of the
-- lines and of the groups before keep their rows and marks, but for the one with the key
pub record AddsGroup (old new : Store) (before after : Placed) (key : ℕ) (row : Row) : Type 0 where
  pub group : ℕ
  pub bears : Bears new group row.group
  pub added : after.groups.items ≡ before.groups.items ++ group ∷ []
  pub keys : after.keys ≡ before.keys
  pub few : KeepsFew before after
  pub kept : (k : ℕ) (r : Row) → k ≢ key → k ≢ group → row_with old k ≡ Some r
      → (row_with new k ≡ Some r) × (is_held after k ≡ is_held before k)
  pub seat : is_held after group ≡ true → (r : Row) → row_with new group ≡ Some r → r.session ≡ row.session

-- the session and the group that were found last have their names still
pub record AreRecent (s : Store) (last : RecentNames) : Type 0 where
  pub session : IsRecent s last.session
  pub group : IsRecent s last.group
