-- A store in the making, whose tasks get parents and groups.
use Rattle.std.specs.Prelude.{◌≡◌, ℕ, false, Some, IsSome}
use Rattle.pid_types.specs.declared.plain.Name.{Name}
use Rattle.pid_types.specs.declared.plain.Row.{Row}
use Rattle.pid_types.specs.Membership.{IsIn}
use Rattle.pid_types.specs.Sound.{IsSound}
use Rattle.pid_types.specs.State.{State}
use Rattle.pid_numbers.specs.Numbering.{Identifier, has_fallen_at, identifier_at, number_of}
use Rattle.task_tree.specs.Tree.{parent_of}
use Rattle.task_table.specs.Store.{Store, HasNoThreads}
use Rattle.task_table.specs.View.{row_with}
use Rattle.table_build.specs.Parts.{AreAllBorne, IsPart}
use Rattle.table_build.specs.Recent.{AreBorne}
use Rattle.task_table.specs.Whole.{HasParents}
use Rattle.table_build.specs.declared.placed.Placed.{Placed}
use Rattle.table_build.specs.Lines.{is_held}

-- each namespace stands
abbrev pub AllStand : Store → Type 0
AllStand s = (p : ℕ) → has_fallen_at s.numbering p ≡ false

-- parents are tasks, each name is a task's, each namespace stands, and each process is one thread
pub record IsGrouping (s : Store) : Type 0 where
  pub kin : HasParents s
  pub borne : AreBorne s
  pub standing : AllStand s
  pub single : HasNoThreads s.threads

-- no parent is a placeholder
abbrev pub HasRealParents : Store → Placed → Type 0
HasRealParents s p = (k q : ℕ) → parent_of s.tree k ≡ Some q → is_held p q ≡ false

-- all tasks of the group are in the session
abbrev pub IsGroupIn : Store → Name → Name → Type 0
IsGroupIn s group session = (k : ℕ) (r : Row) → row_with s k ≡ Some r → r.group ≡ group → r.session ≡ session

-- the task has a number in the namespace of its parent, if it has one
abbrev pub IsSeenByParent : Store → ℕ → Type 0
IsSeenByParent s key = (p : ℕ) → parent_of s.tree key ≡ Some p
    → (u : Identifier) × (identifier_at s.numbering p ≡ Some u) × IsSome (number_of s.numbering key u.space)

-- the row is one of a sound text, whose names are there
pub record MaySettle (s : Store) (p : Placed) (row : Row) (text : State) : Type 0 where
  pub sound : IsSound text
  pub part : IsPart s text
  pub inside : IsIn row text.rows
  pub borne : AreAllBorne s p text.rows
