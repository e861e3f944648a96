-- A store in the making, before its tasks have parents and groups.
use Rattle.std.specs.Prelude.{◌≡◌, ℕ, false, Some, None}
use Rattle.pid_numbers.specs.Numbering.{has_fallen_at}
use Rattle.task_tree.specs.Tree.{parent_of}
use Rattle.groups_sessions.specs.Membership.{group_of}
use Rattle.task_table.specs.Store.{Store, HasNoThreads}
use Rattle.table_build.specs.Recent.{AreBorne}
use Rattle.table_build.specs.Stages.{ChangesSpaces}

-- no task has a parent, each is in the group of its own name, each name is a task's, each namespace stands, and each process is
-- one thread
pub record IsUngrouped (s : Store) : Type 0 where
  pub orphans : (k : ℕ) → parent_of s.tree k ≡ None
  pub alone : (k g : ℕ) → group_of s.members k ≡ Some g → g ≡ k
  pub borne : AreBorne s
  pub standing : (p : ℕ) → has_fallen_at s.numbering p ≡ false
  pub single : HasNoThreads s.threads

-- nothing is different but the namespaces, which stand
pub record AddsSpaces (old new : Store) : Type 0 where
  pub spaces : ChangesSpaces old new
  pub ungrouped : IsUngrouped new
