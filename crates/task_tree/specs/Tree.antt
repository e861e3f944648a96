-- What a contract sees of `TaskTree`: by key the tasks, their parents, and the ranks of those that have ended.
use Rattle.std.specs.Prelude.{◌≡◌, ℕ, ◌<◌, ◌≤◌, Bool, true, false, not, List, length, Option, Some, None, option_map, if◌then◌else◌, slice_index_or}
use Rattle.std.specs.Option.{option_map_or}
use Rattle.member_lists.specs.Owners.{owner_of}
pub use Rattle.member_lists.specs.Owners.{handed}
use Rattle.member_queues.specs.Ranks.{ranked}
use Rattle.pid_types.specs.declared.plain.Life.TheVariants.{Live, Zombie}
use Rattle.task_tree.specs.declared.Task.{Task}

pub record TreeOfTasks : Type 0 where
  pub tasks : List (Option Task)
  -- the key of each task's parent
  pub parents : List (Option ℕ)
  -- the parent and the rank of each ended task that has a parent
  pub ended : List (Option (ℕ × ℕ))

-- the task with the key
abbrev pub task_at : TreeOfTasks → ℕ → Option Task
task_at t k = slice_index_or t.tasks k None

-- the parent of the task with the key
abbrev pub parent_of : TreeOfTasks → ℕ → Option ℕ
parent_of t k = slice_index_or t.parents k None

-- the parent and the rank of the ended task with the key
abbrev pub rank_of : TreeOfTasks → ℕ → Option (ℕ × ℕ)
rank_of t k = slice_index_or t.ended k None

-- whether the task has not ended
abbrev pub lives : Task → Bool
lives task = elim task.life [ Live ↦ true | Zombie ended ↦ false ]

-- whether there is a task that has ended
abbrev pub is_zombie : Option Task → Bool
is_zombie task = option_map_or (λ t. not (lives t)) task false

-- whether there is a task that has not ended
abbrev pub has_live : Option Task → Bool
has_live task = option_map_or lives task false

-- whether there is a task that is a subreaper
abbrev pub is_subreaper : Option Task → Bool
is_subreaper task = option_map_or (λ t. t.subreaper) task false

-- the parent that an ended task waits for
abbrev pub waits_for : Option Task → Option ℕ → Option ℕ
waits_for task parent = if is_zombie task then parent else None

-- tasks, parents and ranks agree
pub record IsTaskTree (tasks : List (Option Task)) (parents : List (Option ℕ)) (ended : List (Option (ℕ × ℕ))) : Type 0 where
  pub links : length tasks ≤ length parents
  pub heaps : length tasks ≤ length ended
  pub few : length tasks ≤ 1073741824
  -- who has a parent is a task, and the parent's key is in range
  pub known : (k p : ℕ) → owner_of parents k ≡ Some p → (k < length tasks) × (p < length tasks)
  pub absent : (k : ℕ) → slice_index_or tasks k None ≡ None → owner_of parents k ≡ None
  -- the ended tasks, and no others, are among their parents' ended children
  pub waiting : (k : ℕ) → option_map (λ (m : ℕ × ℕ). m.0) (ranked ended k) ≡ waits_for (slice_index_or tasks k None) (owner_of parents k)
  pub apart : (j k p r : ℕ) → ranked ended j ≡ Some (p, r) → ranked ended k ≡ Some (p, r) → j ≡ k
