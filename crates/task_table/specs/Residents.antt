-- The live tasks of control groups, in lists.
use Rattle.std.specs.Prelude.{◌≡◌, ◌<◌, ◌≤◌, ◌^◌, ℕ, true, List, length, Option, Some, None, option_and_then, if◌then◌else◌, slice_index_or}
use Rattle.std.specs.List.{AllByRecursion}
use Rattle.member_lists.specs.Owners.{owner_of, times}
use Rattle.task_tree.specs.declared.Task.{Task}
use Rattle.task_tree.specs.Tree.{TreeOfTasks, task_at, lives}
use Rattle.pids_charge.specs.Charges.{Charges, stands}
use Rattle.task_table.specs.Store.{Store, IsStore, IsThreaded}

-- the key of the control group that a live task is directly in; none of a zombie
abbrev pub live_home : Option Task → Option ℕ
live_home task = option_and_then (λ t. if lives t then Some t.home else None) task

-- the list has each live task directly in the control group with the key once, and nobody else
pub record AreResidents (tree : TreeOfTasks) (home : ℕ) (keys : List ℕ) : Type 0 where
  pub once : (k : ℕ) → live_home (task_at tree k) ≡ Some home → times k keys ≡ 1
  pub each : AllByRecursion (λ k. live_home (task_at tree k) ≡ Some home) keys

-- each live task is in the list of its home, and each control group that stands has room for its list
pub record AreHoused (tasks : List (Option Task)) (charges : Charges) (residents : List (Option ℕ)) : Type 0 where
  pub same : (k : ℕ) → owner_of residents k ≡ live_home (slice_index_or tasks k None)
  pub within : length tasks ≤ length residents
  pub controls : (c : ℕ) → stands charges c ≡ true → c < length residents
  pub few : length residents ≤ 2 ^ 30

-- the parts agree, and the lists of residents with them
pub record IsHousedStore (s : Store) (residents : List (Option ℕ)) : Type 0 where
  pub agree : IsStore s
  pub threaded : IsThreaded s.numbering s.threads
  pub housed : AreHoused s.tree.tasks s.charges residents
