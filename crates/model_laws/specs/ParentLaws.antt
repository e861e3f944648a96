-- Who takes the children of a task that ends.
use Rattle.std.specs.Prelude.{◌≡◌, ◌⊎◌, ℕ, zero, suc, ◌<◌, true, false, List, Some}
use Rattle.pid_types.specs.declared.plain.Row.{Row}
use Rattle.pid_types.specs.Membership.{IsIn}
use Rattle.pid_types.specs.State.{State}
use Rattle.pid_types.specs.Names.{number, is_live}
use Rattle.pid_types.specs.Exit.{is_init, new_parent}
use Rattle.pid_types.specs.Sound.{IsSound}

-- the task a is so many parents above the other: 0 where it is the same
abbrev pub IsAbove : List Row → ℕ → Row → Row → Type 0
IsAbove rows zero a task = a ≡ task
IsAbove rows (suc k) a task = (parent : Row) × IsIn parent rows × (task.parent ≡ Some parent.name) × IsAbove rows k a parent

-- the task a is an ancestor of the other, so many parents above its parent, in the same namespace, and is a subreaper
pub record IsSubreaperAbove (rows : List Row) (k : ℕ) (a task : Row) : Type 0 where
  pub above : IsAbove rows (suc k) a task
  pub beside : a.name.space ≡ task.name.space
  pub marked : a.subreaper ≡ true

-- and none nearer is
pub record IsNearestSubreaper (rows : List Row) (a task : Row) : Type 0 where
  pub distance : ℕ
  pub is : IsSubreaperAbove rows distance a task
  pub nearest : (k : ℕ) (b : Row) → k < distance → IsSubreaperAbove rows k b task → ⊥

-- no ancestor in the task's own namespace is a subreaper
abbrev pub HasNoSubreaper : List Row → Row → Type 0
HasNoSubreaper rows task = (k : ℕ) (b : Row) → IsSubreaperAbove rows k b task → ⊥

-- the nearest subreaper, or, where there is none, the init of the task's namespace: PR_SET_CHILD_SUBREAPER(2const), "When a process
-- becomes orphaned (i.e., its immediate parent terminates), then that process will be reparented to the nearest still living
-- ancestor subreaper"
pub record TakesOrphans (state : State) (task heir : Row) : Type 0 where
  pub there : IsIn heir state.rows
  pub lives : is_live heir ≡ true
  pub beside : heir.name.space ≡ task.name.space
  pub who : IsNearestSubreaper state.rows heir task
      ⊎ (HasNoSubreaper state.rows task × (number state.spaces heir.name task.name.space ≡ Some 1))

-- the new parent of the children of a live task that is no init is the one who takes orphans
abbrev pub NewParentIsNearest : Type 0
NewParentIsNearest =
    (state : State) (task : Row) → IsSound state → IsIn task state.rows → is_live task ≡ true → is_init state task ≡ false
    → (heir : Row) × (new_parent state task ≡ Some heir.name) × TakesOrphans state task heir
