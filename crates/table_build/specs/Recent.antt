-- Who bears a name, and the name that was found last.
use Rattle.std.specs.Prelude.{◌≡◌, ℕ, Some, IsSome}
use Rattle.pid_types.specs.declared.plain.Name.{Name}
use Rattle.pid_numbers.specs.Numbering.{Identifier, identifier_at}
use Rattle.task_tree.specs.Tree.{task_at}
use Rattle.task_table.specs.Store.{Store}
use Rattle.task_table.specs.View.{name_at}
use Rattle.table_build.specs.declared.names.RecentName.{RecentName}

-- each name is a task's
abbrev pub AreBorne : Store → Type 0
AreBorne s = (k : ℕ) (u : Identifier) → identifier_at s.numbering k ≡ Some u → IsSome (task_at s.tree k)

-- the task with the key bears the name
pub record Bears (s : Store) (key : ℕ) (name : Name) : Type 0 where
  pub there : IsSome (task_at s.tree key)
  pub named : name_at s.numbering key ≡ name

-- who was found last bears the name still
abbrev pub IsRecent : Store → RecentName → Type 0
IsRecent s last = (key : ℕ) → last.key ≡ Some key → Bears s key last.name

-- a name may be looked for
pub record MayFind (s : Store) (last : RecentName) : Type 0 where
  pub borne : AreBorne s
  pub recent : IsRecent s last
