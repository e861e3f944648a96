-- The nodes as a tree: who is above whom, and how many tasks a subtree has.
use Rattle.std.specs.Prelude.{◌≡◌, ℕ, zero, suc, ◌+◌, ◌≤◌, ◌==◌, Bool, true, false, ◌||◌, Option, Some, None, IsSome, is_some, option_and_then, if◌then◌else◌, length}
use Rattle.std.specs.Option.{option_map_or}
use Rattle.slab.specs.Slab.{Slab, get}
use Rattle.pids_charge.specs.declared.node.Node.{Node}
use Rattle.pids_charge.specs.Sums.{sum_below}

-- the nodes without their tasks, by key
pub record TreeOfNodes : Type 0 where
  pub there : ℕ → Bool
  pub up : ℕ → Option ℕ
  pub level : ℕ → ℕ
  pub stand : ℕ → Bool
  pub id : ℕ → ℕ

abbrev pub tree_of : Slab Node → TreeOfNodes
tree_of nodes = record {
  there = λ k. is_some (get nodes k);
  up = λ k. option_and_then (λ n. n.parent) (get nodes k);
  level = λ k. option_map_or (λ n. n.level) (get nodes k) 0;
  stand = λ k. option_map_or (λ n. n.standing) (get nodes k) false;
  id = λ k. option_map_or (λ n. n.id) (get nodes k) 0;
}

-- whether the second key is the first one, or above it by at most so many steps
abbrev pub reaches : (ℕ → Option ℕ) → ℕ → ℕ → ℕ → Bool
reaches up zero j k = j == k
reaches up (suc most) j k = (j == k) || option_map_or (λ p. reaches up most p k) (up j) false

-- whether the first node is the second one or below it
abbrev pub is_under : TreeOfNodes → ℕ → ℕ → Bool
is_under t j k = reaches t.up (t.level j) j k

-- what one task at the first node adds to the total of the second
abbrev pub weight : TreeOfNodes → ℕ → ℕ → ℕ
weight t j k = if is_under t j k then 1 else 0

-- what one at a node adds to that node alone
abbrev pub one_at : ℕ → ℕ → ℕ
one_at j k = if j == k then 1 else 0

-- what it adds to those that a walk has still to visit
abbrev pub left : TreeOfNodes → Option ℕ → ℕ → ℕ
left t at k = option_map_or (λ a. weight t a k) at 0

abbrev pub live_in : Slab Node → ℕ → ℕ
live_in nodes k = option_map_or (λ n. n.live) (get nodes k) 0

abbrev pub zombies_in : Slab Node → ℕ → ℕ
zombies_in nodes k = option_map_or (λ n. n.zombies) (get nodes k) 0

-- the tasks directly in it
abbrev pub tasks_in : Slab Node → ℕ → ℕ
tasks_in nodes k = option_map_or (λ n. n.live + n.zombies) (get nodes k) 0

-- the tasks in it and below
abbrev pub total_in : Slab Node → ℕ → ℕ
total_in nodes k = sum_below (length nodes.slots) (λ j. if is_under (tree_of nodes) j k then tasks_in nodes j else 0)

-- the tasks of all nodes
abbrev pub all_in : Slab Node → ℕ
all_in nodes = sum_below (length nodes.slots) (tasks_in nodes)

-- each node is one level below the one above it
abbrev pub HasLevels : TreeOfNodes → Type 0
HasLevels t = (j p : ℕ) → t.up j ≡ Some p → (t.there p ≡ true) × (t.level j ≡ suc (t.level p))

-- the nodes are a tree, in which what is above one that stands does so too
pub record IsNodeTree (t : TreeOfNodes) : Type 0 where
  pub levels : HasLevels t
  pub deep : (j : ℕ) → t.level j ≤ 64
  pub top : (j : ℕ) → t.up j ≡ None → t.level j ≡ 0
  pub upright : (j p : ℕ) → t.stand j ≡ true → t.up j ≡ Some p → t.stand p ≡ true
  pub rooted : (j : ℕ) → t.there j ≡ true → t.stand j ≡ false → IsSome (t.up j)
