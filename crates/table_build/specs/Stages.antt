-- What a store holds while it is made: the rows of its tasks, and what a step leaves as it was.
use Rattle.std.specs.Prelude.{◌≡◌, ◌≢◌, ℕ, Some, None, IsSome, option_map, Result, IfErr}
use Rattle.pid_types.specs.declared.plain.Name.{Name}
use Rattle.pid_types.specs.declared.plain.Row.{Row}
use Rattle.pid_types.specs.declared.plain.Life.TheVariants.{Live}
use Rattle.pid_numbers.specs.Numbering.{Numbering, Namespace, namespace_at}
use Rattle.pids_charge.specs.Charges.{home_id}
use Rattle.task_tree.specs.declared.Task.{Task}
use Rattle.task_table.specs.Store.{Store}
use Rattle.task_tree.specs.Tree.{task_at}
use Rattle.task_table.specs.View.{name_at, row_with}
use Rattle.table_build.specs.declared.fault.BuildFault.{BuildFault}

-- the row as its task begins: live, without a parent, in a group and a session of its own
abbrev pub as_begun : Row → Row
as_begun r = record r { parent = None; group = r.name; session = r.name; life = Live }

-- the row of a task in its session, and still in its own group
abbrev pub seated : Row → Row
seated r = record r { parent = None; group = r.name; life = Live }

-- the row of the task that alone bears the name
abbrev pub lone_row : Store → Name → Task → Row
lone_row s name task = record {
  name = name;
  parent = None;
  group = name;
  session = name;
  executed = task.executed;
  life = task.life;
  home = home_id s.charges task.home;
  children_space = task.children_space;
  subreaper = task.subreaper;
}

-- the task with the key has the row, and all others have the rows that they had
pub record SetsRow (old new : Store) (key : ℕ) (row : Row) : Type 0 where
  pub here : row_with new key ≡ Some row
  pub others : (k : ℕ) → k ≢ key → row_with new k ≡ row_with old k

-- the same of a task that came
pub record AddsRow (old new : Store) (key : ℕ) (row : Row) : Type 0 where
  pub fresh : row_with old key ≡ None
  pub sets : SetsRow old new key row

-- the namespace without its cursor
abbrev pub without_cursor : Namespace → Namespace
without_cursor t = record t { cursor = 0 }

-- the namespaces are the same, but for their cursors
pub record KeepsSpaces (old new : Numbering) : Type 0 where
  pub order : new.order ≡ old.order
  pub bound : new.pid_max ≡ old.pid_max
  pub each : (s : ℕ) → option_map without_cursor (namespace_at new s) ≡ option_map without_cursor (namespace_at old s)

-- the control groups are the same too
pub record KeepsPlaces (old new : Store) : Type 0 where
  pub spaces : KeepsSpaces old.numbering new.numbering
  pub controls : new.charges.controls ≡ old.charges.controls

-- nothing is different but the cursors
pub record MovesCursors (old new : Store) : Type 0 where
  pub spaces : KeepsSpaces old.numbering new.numbering
  pub names : new.numbering.names ≡ old.numbering.names
  pub tree : new.tree ≡ old.tree
  pub members : new.members ≡ old.members
  pub charges : new.charges ≡ old.charges
  pub threads : new.threads ≡ old.threads

-- nothing is different but the namespaces
pub record ChangesSpaces (old new : Store) : Type 0 where
  pub names : new.numbering.names ≡ old.numbering.names
  pub bound : new.numbering.pid_max ≡ old.numbering.pid_max
  pub rest : new ≡ record old { numbering = new.numbering }

-- who bears a name bears it still
pub record KeepsBearers (old new : Store) : Type 0 where
  pub each : (k : ℕ) → IsSome (task_at old.tree k) → IsSome (task_at new.tree k) × (name_at new.numbering k ≡ name_at old.numbering k)

-- a fault that is not want of memory says that this is so
abbrev pub Blames : {A : Type 0} → Result A BuildFault → Type 0 → Type 0
Blames result Why = IfErr result (λ fault. fault ≢ BuildFault.NoMemory → Why)
