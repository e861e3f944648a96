-- What a contract sees of `SpaceTree`: the namespaces by key, and the order of their ids.
use Rattle.std.specs.Prelude.{◌≡◌, ◌≢◌, ◌⊎◌, ℕ, ◌<◌, ◌≤◌, ◌+◌, ◌||◌, Bool, true, false, List, [], ◌∷◌, length, Option, Some, None, option_map, nat_lt, if◌then◌else◌, slice_get, slice_index_or}
use Rattle.std.specs.Option.{option_map_or}
use Rattle.std.specs.List.{AllByRecursion}
use Rattle.id_slab.specs.Ids.{key_of}
use Rattle.member_lists.specs.Owners.{times}
use Rattle.pid_types.specs.Bounds.{deepest_space}
use Rattle.pid_types.specs.Chains.{contains}

-- a namespace: its id, whether it fell, and the keys of it and of those around it, innermost first
pub record Node : Type 0 where
  pub id : ℕ
  pub fallen : Bool
  pub path : List ℕ

-- the namespaces by key, and in the order of their ids, each id with its key
pub record TreeOfSpaces : Type 0 where
  pub nodes : List (Option Node)
  pub order : List (ℕ × ℕ)

-- a new namespace with this path
abbrev pub new_node : ℕ → List ℕ → Node
new_node id path = record { id = id; fallen = false; path = path }

-- the namespace with the key
abbrev pub node_in : List (Option Node) → ℕ → Option Node
node_in nodes s = slice_index_or nodes s None

-- the path of a namespace, none where there is no such namespace
abbrev pub way : List (Option Node) → ℕ → List ℕ
way nodes s = option_map_or (λ t. t.path) (node_in nodes s) []

-- the id of a namespace
abbrev pub id_in : List (Option Node) → ℕ → Option ℕ
id_in nodes s = option_map (λ t. t.id) (node_in nodes s)

-- whether the namespace is there and has fallen
abbrev pub fell : List (Option Node) → ℕ → Bool
fell nodes s = option_map_or (λ t. t.fallen) (node_in nodes s) false

-- the namespace, fallen
abbrev pub felled : Node → Node
felled t = record t { fallen = true }

-- the namespace, fallen if it is the other one or inside it
abbrev pub felled_within : ℕ → Node → Node
felled_within outer t = record t { fallen = t.fallen || contains t.path outer }

-- how many keys there are with one more, which has no gap before it
abbrev pub grown : ℕ → ℕ → ℕ
grown count key = if nat_lt key count then count else key + 1

-- each namespace of the path is there, and what is around it is the rest of the path
abbrev pub IsPath : (ℕ → List ℕ) → List ℕ → Type 0
IsPath ways [] = Unit {0}
IsPath ways (s ∷ ss) = (ways s ≡ s ∷ ss) × IsPath ways ss

-- the namespace's path, if it has one, begins with it
abbrev pub IsHead : (ℕ → List ℕ) → ℕ → Type 0
IsHead ways s = (ways s ≡ []) ⊎ ((rest : List ℕ) × (ways s ≡ s ∷ rest))

-- the key of the namespace that a namespace is directly in, the second of its path; none of the root's, and none of one that is not there
abbrev pub outer_of : (ℕ → List ℕ) → ℕ → Option ℕ
outer_of ways s = slice_get (ways s) 1

-- the list has the key of each namespace directly inside one, once, and no other: pid_namespaces(7), "Nesting PID namespaces"
pub record AreInside (ways : ℕ → List ℕ) (outer : ℕ) (keys : List ℕ) : Type 0 where
  pub once : (s : ℕ) → outer_of ways s ≡ Some outer → times s keys ≡ 1
  pub each : AllByRecursion (λ s. outer_of ways s ≡ Some outer) keys

-- each key is another than those before
abbrev pub IsDistinct : List ℕ → Type 0
IsDistinct path = (i j : ℕ) → i < j → j < length path → slice_index_or path i 0 ≢ slice_index_or path j 0

-- the paths are those of a tree below the namespace with key 0
pub record IsPathTree (ways : ℕ → List ℕ) : Type 0 where
  pub root : ways 0 ≡ 0 ∷ []
  pub head : (s : ℕ) → IsHead ways s
  pub paths : (s : ℕ) → IsPath ways (ways s)
  pub few : (s : ℕ) → length (ways s) ≤ deepest_space + 1
  pub ends : (s : ℕ) → 0 < length (ways s) → contains (ways s) 0 ≡ true

-- the order has the id and the key of each namespace, and no others
pub record AreListed (id : ℕ → Option ℕ) (order : List (ℕ × ℕ)) : Type 0 where
  pub each : AllByRecursion (λ p. id p.1 ≡ Some p.0) order
  pub listed : (s i : ℕ) → id s ≡ Some i → key_of order i ≡ Some s
