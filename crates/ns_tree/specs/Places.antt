-- The places of namespaces, in a slab.
use Rattle.std.specs.Prelude.{◌≡◌, ℕ, zero, suc, ◌<◌, ◌≤◌, nat_lt, Bool, List, [], ◌∷◌, length, map, Option, None, IsSome, option_map}
use Rattle.slab.specs.Slab.{Slab, get, slab_len}
use Rattle.member_lists.specs.Owners.{owner_of}
use Rattle.ns_tree.specs.declared.places.Place.{Place}
use Rattle.ns_tree.specs.Tree.{Node, IsPathTree, AreListed, node_in, way, id_in, outer_of}

abbrev pub node_of : Place → Node
node_of p = record { id = p.id; fallen = p.fallen; path = p.path.items }

-- what is seen of the places: the namespaces by key, the key of the next one, and whether there is room for it
pub record Placed : Type 0 where
  pub nodes : List (Option Node)
  pub next : ℕ
  pub ready : Bool

module _ {X : Type 0} where
  -- the first so many, and none where there are no more
  abbrev pub first : ℕ → List (Option X) → List (Option X)
  first zero slots = []
  first (suc count) [] = None ∷ first count []
  first (suc count) (slot ∷ slots) = slot ∷ first count slots

-- the namespaces of the slots
abbrev pub nodes_of : List (Option Place) → List (Option Node)
nodes_of slots = map (option_map node_of) slots

abbrev pub placed_of : ℕ → Slab Place → Placed
placed_of keys slab = record {
  nodes = first keys (nodes_of slab.slots);
  next = slab.vacant_key;
  ready = nat_lt (slab_len slab) slab.capacity;
}

-- no key from here on has a namespace
abbrev pub HasNoneFrom : ℕ → Slab Place → Type 0
HasNoneFrom keys slab = (k : ℕ) → keys ≤ k → get slab k ≡ None

-- the namespaces are a tree, each has a path, the order has their ids, and each is in the list of the one that it is directly in
pub record IsSpaceTree (nodes : List (Option Node)) (order : List (ℕ × ℕ)) (children : List (Option ℕ)) : Type 0 where
  pub tree : IsPathTree (way nodes)
  pub some : (s : ℕ) → IsSome (node_in nodes s) → 0 < length (way nodes s)
  pub listed : AreListed (id_in nodes) order
  pub owners : (s : ℕ) → owner_of children s ≡ outer_of (way nodes) s
  pub lists : length nodes ≤ length children
