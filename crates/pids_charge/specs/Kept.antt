-- The view of the nodes, and what ties them to the counters, the lists of children and the ids.
use Rattle.std.specs.Prelude.{◌≡◌, ◌≢◌, ℕ, zero, suc, ◌+◌, ◌-◌, ◌<◌, ◌≤◌, ◌^◌, nat_le, Bool, true, false, List, [], ◌∷◌, length, map, Option, Some, None, option_map, option_and_then, if◌then◌else◌, slice_index_or}
use Rattle.std.specs.Option.{option_map_or}
use Rattle.std.specs.List.{AllByRecursion}
use Rattle.slab.specs.Slab.{Slab, get, ContainsKey}
use Rattle.member_lists.specs.Owners.{owner_of}
use Rattle.id_slab.specs.Ids.{key_of}
use Rattle.pid_types.specs.declared.plain.Control.{Control}
use Rattle.pids_charge.specs.declared.node.Node.{Node}
use Rattle.pids_charge.specs.declared.counter.Counter.{Counter}
use Rattle.pids_charge.specs.Nodes.{TreeOfNodes, tree_of, left, live_in, total_in, all_in, IsNodeTree}
use Rattle.pids_charge.specs.Charges.{Home, Charges, kept}

-- the nearest key from one up that stands
abbrev pub nearest : (ℕ → Bool) → (ℕ → Option ℕ) → ℕ → ℕ → ℕ
nearest stand up zero k = k
nearest stand up (suc most) k = if stand k then k else option_map_or (nearest stand up most) (up k) k

abbrev pub standing_key : TreeOfNodes → ℕ → ℕ
standing_key t k = nearest t.stand t.up (t.level k) k

-- what a contract sees of a node
abbrev pub home_of_node : TreeOfNodes → ℕ → Node → Option Home
home_of_node t k n = kept (record { id = t.id (standing_key t k); stands = n.standing; live = n.live; zombies = n.zombies })

-- a list, each element changed by its place
abbrev pub each : {X Y : Type 0} → (ℕ → X → Y) → List X → List Y
each f [] = []
each f (x ∷ xs) = f 0 x ∷ each (λ k. f (suc k)) xs

abbrev pub limit_in : Slab Node → ℕ → Option ℕ
limit_in nodes k = option_and_then (λ n. n.limit) (get nodes k)

-- the control group of an id and its key
abbrev pub control_in : TreeOfNodes → (ℕ → Option ℕ) → ℕ × ℕ → Control
control_in t limit p = record { id = p.0; parent = option_map t.id (t.up p.1); limit = limit p.1 }

abbrev pub charges_of : Slab Node → List (ℕ × ℕ) → Charges
charges_of nodes ids = record {
  controls = map (control_in (tree_of nodes) (limit_in nodes)) ids;
  homes = each (λ k slot. option_and_then (home_of_node (tree_of nodes) k) slot) nodes.slots;
}

-- whose child in the lists a key is
abbrev pub listed_parent : TreeOfNodes → ℕ → Option ℕ
listed_parent t k = if t.stand k then t.up k else None

-- an id's key stands and has it
abbrev pub IsKeyOfId : TreeOfNodes → ℕ × ℕ → Type 0
IsKeyOfId t p = (t.stand p.1 ≡ true) × (t.id p.1 ≡ p.0)

-- the lists of children and the ids are those of the tree
pub record IsListed (t : TreeOfNodes) (children : List (Option ℕ)) (ids : List (ℕ × ℕ)) : Type 0 where
  pub owners : (k : ℕ) → owner_of children k ≡ listed_parent t k
  pub entries : AllByRecursion (IsKeyOfId t) ids
  pub listed : (k : ℕ) → t.stand k ≡ true → key_of ids (t.id k) ≡ Some k

-- the counter at a key
abbrev pub counter_at : List Counter → ℕ → Counter
counter_at counters k = slice_index_or counters k (record { total = 0; limit = None; parent = None })

abbrev pub total_at : List Counter → ℕ → ℕ
total_at counters k = (counter_at counters k).total

-- a node's counter has its limit and its parent
pub record IsCounterOf (nodes : Slab Node) (counters : List Counter) (k : ℕ) : Type 0 where
  pub room : k < length counters
  pub limit : (counter_at counters k).limit ≡ limit_in nodes k
  pub parent : (counter_at counters k).parent ≡ (tree_of nodes).up k

-- each node that is there has its counter
abbrev pub AreLinked : Slab Node → List Counter → Type 0
AreLinked nodes counters = (k : ℕ) → ContainsKey nodes k → IsCounterOf nodes counters k

-- each total is the count of the subtree, and what does not stand has zombies in it or below it, but perhaps what a walk is still
-- to visit
pub record AreTotals (nodes : Slab Node) (totals : ℕ → ℕ) (at : Option ℕ) : Type 0 where
  pub counts : (k : ℕ) → ContainsKey nodes k → totals k ≡ total_in nodes k
  pub filled : (k : ℕ) → ContainsKey nodes k → (tree_of nodes).stand k ≡ false → left (tree_of nodes) at k ≡ 0 → 0 < total_in nodes k
  pub ended : (k : ℕ) → (tree_of nodes).stand k ≡ false → live_in nodes k ≡ 0
  pub few : all_in nodes < 2 ^ 64

pub record IsChargeTree (nodes : Slab Node) (counters : List Counter) (children : List (Option ℕ)) (ids : List (ℕ × ℕ)) : Type 0 where
  pub tree : IsNodeTree (tree_of nodes)
  pub counted : AreTotals nodes (total_at counters) None
  pub linked : AreLinked nodes counters
  pub listed : IsListed (tree_of nodes) children ids
  pub room : (k : ℕ) → ContainsKey nodes k → k < length children
  pub small : length children ≤ 2 ^ 30

-- the tasks of one node changed, and no group
pub record ChangesTasks (old new : Slab Node) (home : ℕ) (change : Node → Node) : Type 0 where
  pub tree : tree_of new ≡ tree_of old
  pub limits : (k : ℕ) → limit_in new k ≡ limit_in old k
  pub here : get new home ≡ option_map change (get old home)
  pub others : (k : ℕ) → k ≢ home → get new k ≡ get old k

-- a node has one live task less, and then another, or the same, has one more
pub record MovesLive (old new : Slab Node) (from to : ℕ) : Type 0 where
  pub mid : Slab Node
  pub leaves : ChangesTasks old mid from (λ (n : Node). record n { live = n.live - 1 })
  pub joins : ChangesTasks mid new to (λ (n : Node). record n { live = n.live + 1 })

-- what does not stand and has no task may be gone
pub record DropsEmpty (old new : Slab Node) : Type 0 where
  pub stand : (k : ℕ) → (tree_of new).stand k ≡ (tree_of old).stand k
  pub shown : (k : ℕ)
      → option_and_then (home_of_node (tree_of new) k) (get new k) ≡ option_and_then (home_of_node (tree_of old) k) (get old k)
  pub standing : (k : ℕ) → (tree_of old).stand k ≡ true → get new k ≡ get old k
  pub there : (k : ℕ) → ContainsKey new k → ContainsKey old k

-- whether one task more would pass the limit of a node
abbrev pub is_at_limit : Slab Node → (ℕ → ℕ) → ℕ → Bool
is_at_limit nodes totals k = option_map_or (λ limit. nat_le limit (totals k)) (limit_in nodes k) false

-- the nearest node from one up, at most so many steps, whose limit one task more would pass
abbrev pub first_full : Slab Node → (ℕ → ℕ) → ℕ → ℕ → Option ℕ
first_full nodes totals zero k = if is_at_limit nodes totals k then Some k else None
first_full nodes totals (suc most) k =
    if is_at_limit nodes totals k then Some k else option_map_or (first_full nodes totals most) ((tree_of nodes).up k) None
