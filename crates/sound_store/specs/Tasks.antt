-- What the checks ask of each task, by key.
use Rattle.std.specs.Prelude.{◌≡◌, ℕ, ◌==◌, ◌&&◌, ◌||◌, not, Bool, true, false, Some, option_map, is_some}
use Rattle.std.specs.Option.{option_map_or, option_eq}
use Rattle.id_slab.specs.Ids.{key_of}
use Rattle.pid_types.specs.Chains.{contains}
use Rattle.pid_types.specs.Controls.{control_at}
use Rattle.pid_numbers.specs.Numbering.{identifier_at, number_of, path_at, has_fallen_at}
use Rattle.task_tree.specs.Tree.{task_at, parent_of, lives}
use Rattle.groups_sessions.specs.Membership.{group_of, session_of}
use Rattle.pids_charge.specs.Charges.{home_id}
use Rattle.task_table.specs.declared.view.Found.{Found}
use Rattle.task_table.specs.Store.{Store}

-- the task that was found is in the store, with its own namespace
pub record IsTask (s : Store) (f : Found) : Type 0 where
  pub there : task_at s.tree f.key ≡ Some f.task
  pub own : option_map (λ u. u.space) (identifier_at s.numbering f.key) ≡ Some f.space

-- whether the key is that of a live task
abbrev pub lives_at : Store → ℕ → Bool
lives_at s k = option_map_or lives (task_at s.tree k) false

-- whether the task is the init of its own namespace
abbrev pub is_own_init : Store → Found → Bool
is_own_init s f = option_eq ◌==◌ (number_of s.numbering f.key f.space) (Some 1)

-- whether the namespace is the task's own or around it, and not its own if the task is its init
abbrev pub is_around : Store → Found → ℕ → Bool
is_around s f space = contains (path_at s.numbering f.space) space && not ((space == f.space) && is_own_init s f)

-- whether the task with the key lives, in such a namespace
abbrev pub may_be_parent : Store → Found → ℕ → Bool
may_be_parent s f p = lives_at s p && option_map_or (λ u. is_around s f u.space) (identifier_at s.numbering p) false

-- whether the task has such a parent, or is number 1 of the root namespace and has none
abbrev pub has_good_parent : Store → ℕ → Found → Bool
has_good_parent s n f = option_map_or (may_be_parent s f) (parent_of s.tree f.key) (n == 1)

-- whether the children's namespace is gone, or is the task's own or inside it
abbrev pub has_good_children : Store → Found → Bool
has_good_children s f = option_map_or (λ c. contains (path_at s.numbering c) f.space) (key_of s.numbering.order f.task.children_space) true

-- whether no task of another session has the group's key
abbrev pub has_good_leader : Store → Found → ℕ → Bool
has_good_leader s f g = not (is_some (task_at s.tree g)) || option_eq ◌==◌ (session_of s.members g) (session_of s.members f.key)

-- whether the task that its group is named after is none, or one of its session
abbrev pub is_led : Store → Found → Bool
is_led s f = option_map_or (has_good_leader s f) (group_of s.members f.key) true

-- whether the task has ended, or its namespace stands
abbrev pub may_live : Store → Found → Bool
may_live s f = not (lives f.task && has_fallen_at s.numbering f.space)

-- whether the control group that the task is in is there
abbrev pub has_home : Store → Found → Bool
has_home s f = is_some (control_at s.charges.controls (home_id s.charges f.task.home))

-- whether the task with the root number passes all that is asked of one task
abbrev pub is_good_task : Store → ℕ → Found → Bool
is_good_task s n f = has_good_parent s n f && has_good_children s f && is_led s f && may_live s f && has_home s f

-- the task with the key passes, if there is one
abbrev pub IsGoodAt : Store → ℕ → Type 0
IsGoodAt s key = (n : ℕ) (f : Found) → IsTask s f → number_of s.numbering f.key 0 ≡ Some n → f.key ≡ key → is_good_task s n f ≡ true

-- each task passes
abbrev pub AllTasksPass : Store → Type 0
AllTasksPass s = (n : ℕ) (f : Found) → IsTask s f → number_of s.numbering f.key 0 ≡ Some n → is_good_task s n f ≡ true
