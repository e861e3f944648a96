-- What setpgid(2) asks, told of a store.
use Rattle.std.specs.Prelude.{◌≡◌, ℕ, ℤ, ◌<◌, ◌==◌, length, Option, Some, None, IsSome}
use Rattle.std.specs.Option.{option_eq}
use Rattle.pid_types.specs.Groups.{target_of}
use Rattle.pid_numbers.specs.Numbering.{identifier_at}
use Rattle.task_tree.specs.declared.Task.{Task}
use Rattle.task_tree.specs.Tree.{task_at, parent_of}
use Rattle.groups_sessions.specs.Membership.{membership_at, session_of, AreInSession}
use Rattle.groups_sessions.specs.declared.ask.Target.{Target}
use Rattle.task_table.specs.Store.{Store}
use Rattle.task_table.specs.View.{row_of, state_of}

-- what is asked about the task that the caller names
pub record IsAskedTarget (s : Store) (caller : ℕ) (t : Task) (target : Target) : Type 0 where
  pub there : task_at s.tree target.ident ≡ Some t
  pub session : session_of s.members target.ident ≡ Some target.session
  pub is_child : target.is_child ≡ option_eq ◌==◌ (parent_of s.tree target.ident) (Some caller)
  pub executed : target.executed ≡ t.executed

-- the target is the task that the number names to the caller
abbrev pub IsNamed : Store → ℕ → Task → ℤ → Option Target → Type 0
IsNamed s caller own pid None = target_of (state_of s) (row_of s caller own) pid ≡ None
IsNamed s caller own pid (Some target) =
    (t : Task) × IsAskedTarget s caller t target × (target_of (state_of s) (row_of s caller own) pid ≡ Some (row_of s target.ident t))

-- the task is there, and so is the group's identifier, and whoever is in the group is in the task's session
pub record MayJoin (s : Store) (k g : ℕ) : Type 0 where
  pub task : IsSome (task_at s.tree k)
  pub member : IsSome (membership_at s.members k)
  pub group : IsSome (identifier_at s.numbering g)
  pub room : g < length s.members
  pub together : (i : ℕ) → session_of s.members k ≡ Some i → AreInSession s.members g i
