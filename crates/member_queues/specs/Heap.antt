-- For each owner a tree of its members, in which each key's rank is above that of the key over it.
use Rattle.std.specs.Prelude.{◌≡◌, ◌≢◌, ◌⊎◌, ℕ, zero, suc, ◌<◌, ◌≤◌, ◌==◌, List, [], ◌∷◌, length, map, Option, Some, None, if◌then◌else◌, slice_index_or}
pub use Rattle.member_lists.specs.Links.{nil}
use Rattle.member_queues.specs.declared.Forest.{Forest}
use Rattle.member_queues.specs.declared.Node.{Node}
use Rattle.member_queues.specs.declared.Side.{Side}
use Rattle.member_queues.specs.declared.Side.TheVariants.{Next, Beside}

-- a key that has no owner
abbrev pub blank : Node
blank = record { owner = 4294967295; rank = 0; above = 4294967295; next = 4294967295; beside = 4294967295; level = 0 }

-- the node of a key
abbrev pub node_at : List Node → ℕ → Node
node_at nodes k = slice_index_or nodes k blank

-- the key over all others of an owner
abbrev pub root_at : List ℕ → ℕ → ℕ
root_at roots p = slice_index_or roots p 4294967295

-- the owner and the rank that a node tells
abbrev pub member_in : Node → Option (ℕ × ℕ)
member_in node = if node.owner == 4294967295 then None else Some (node.owner, node.rank)

-- the key on one side
abbrev pub key_on : Side → Node → ℕ
key_on Next node = node.next
key_on Beside node = node.beside

-- a node with a key put on one side
abbrev pub with_side : Side → ℕ → Node → Node
with_side Next k node = record node { next = k }
with_side Beside k node = record node { beside = k }

-- of a walk in a run, the run that it is in behind a key: at the run's end the one beside
abbrev pub run_after : List Node → ℕ → ℕ → ℕ
run_after nodes run k = if (node_at nodes k).next == 4294967295 then (node_at nodes run).beside else run

-- and the key that it meets there
abbrev pub key_after : List Node → ℕ → ℕ → ℕ
key_after nodes run k = if (node_at nodes k).next == 4294967295 then (node_at nodes run).beside else (node_at nodes k).next

-- the keys of a run from one on, and those of the runs beside, as far as a number of them
abbrev pub walk : List Node → ℕ → ℕ → ℕ → List ℕ
walk nodes run k zero = []
walk nodes run k (suc n) = if k == 4294967295 then [] else k ∷ walk nodes (run_after nodes run k) (key_after nodes run k) n

-- from a key on the walk meets no more keys than that
abbrev pub WalkEnds : List Node → ℕ → ℕ → ℕ → Type 0
WalkEnds nodes run k zero = k ≡ nil
WalkEnds nodes run k (suc n) = k ≢ nil
    → (k < length nodes) × (run < length nodes) × WalkEnds nodes (run_after nodes run k) (key_after nodes run k) n

-- the members of one owner are told another, and nothing else changes
pub record AreRetold (nodes nodes' : List Node) (from to : ℕ) : Type 0 where
  pub here : (k : ℕ) → (node_at nodes k).owner ≡ from → node_at nodes' k ≡ record (node_at nodes k) { owner = to }
  pub others : (k : ℕ) → (node_at nodes k).owner ≢ from → node_at nodes' k ≡ node_at nodes k
  pub len : length nodes' ≡ length nodes

-- one key is on a side of another
abbrev pub HasBelow : List Node → ℕ → ℕ → Type 0
HasBelow nodes j k = ((node_at nodes j).next ≡ k) ⊎ ((node_at nodes j).beside ≡ k)

-- the two sides of a key, in one order or the other
abbrev pub AreSides : Node → ℕ → ℕ → Type 0
AreSides node a b = ((node.next ≡ a) × (node.beside ≡ b)) ⊎ ((node.next ≡ b) × (node.beside ≡ a))

-- keys, owners and ranks are within their bounds, and no owner has a rank twice
pub record AreRanked (roots : List ℕ) (nodes : List Node) : Type 0 where
  pub few : length nodes ≤ nil
  pub rooms : length roots ≡ length nodes
  pub fits : (k : ℕ) → (node_at nodes k).rank ≤ nil
  pub known : (k : ℕ) → (node_at nodes k).owner ≢ nil → (node_at nodes k).owner < length roots
  pub distinct : (j k : ℕ) → (node_at nodes j).owner ≢ nil → (node_at nodes j).owner ≡ (node_at nodes k).owner
      → (node_at nodes j).rank ≡ (node_at nodes k).rank → j ≡ k

-- each key but the held one is its owner's root or below a key of the same owner and a lesser rank
pub record IsHeapTree (roots : List ℕ) (nodes : List Node) (held : ℕ) : Type 0 where
  pub above : (k : ℕ) → (node_at nodes k).owner ≢ nil → k ≢ held → root_at roots (node_at nodes k).owner ≢ k
      → ((node_at nodes (node_at nodes k).above).owner ≡ (node_at nodes k).owner)
      × ((node_at nodes (node_at nodes k).above).rank < (node_at nodes k).rank) × HasBelow nodes (node_at nodes k).above k
  pub tops : (p : ℕ) → root_at roots p ≢ nil → ((node_at nodes (root_at roots p)).owner ≡ p) × (root_at roots p ≢ held)
  pub down : (j k : ℕ) → (node_at nodes j).owner ≢ nil → k ≢ nil → HasBelow nodes j k
      → ((node_at nodes k).owner ≡ (node_at nodes j).owner) × ((node_at nodes k).above ≡ j) × (k ≢ held)
      × (root_at roots (node_at nodes k).owner ≢ k)
  pub apart : (j : ℕ) → (node_at nodes j).owner ≢ nil → (node_at nodes j).next ≢ nil → (node_at nodes j).next ≢ (node_at nodes j).beside

-- a run is beside the first of a run alone: who is the next of another has none beside it
unfoldable pub AreInRuns : List Node → Type 0
AreInRuns nodes = (j : ℕ) → (node_at nodes j).owner ≢ nil → (node_at nodes j).next ≢ nil
    → (node_at nodes (node_at nodes j).next).beside ≡ nil

pub record IsHeap (roots : List ℕ) (nodes : List Node) (held : ℕ) : Type 0 where
  pub ranked : AreRanked roots nodes
  pub tree : IsHeapTree roots nodes held
  pub runs : AreInRuns nodes

-- no key is held, and all is as it should be
abbrev pub IsWholeForest : Forest → Type 0
IsWholeForest forest = IsHeap forest.roots.items forest.nodes.items nil

-- the runs after a call: a heap again, of the same members, and of as many keys and owners
pub record Keeps (old new : Forest) (held : ℕ) : Type 0 where
  pub heap : IsHeap new.roots.items new.nodes.items held
  pub members : map member_in new.nodes.items ≡ map member_in old.nodes.items
  pub len : length new.nodes.items ≡ length old.nodes.items
  pub rooms : length new.roots.items ≡ length old.roots.items

-- a key that begins a run: no other has it as its next
abbrev pub BeginsRun : List Node → ℕ → Type 0
BeginsRun nodes k = (j : ℕ) → (node_at nodes j).owner ≢ nil → (node_at nodes j).next ≢ k

-- what may be put on a side: a key that has no run beside it behind another, and any one beside the first of a run
unfoldable pub FitsOn : Side → List Node → ℕ → ℕ → Type 0
FitsOn Next nodes at held = (node_at nodes held).beside ≡ nil
FitsOn Beside nodes at held = BeginsRun nodes at

-- the held key, if there is one, belongs somewhere below another
pub record IsSinking (side : Side) (roots : List ℕ) (nodes : List Node) (at held : ℕ) : Type 0 where
  pub heap : IsHeap roots nodes held
  pub owned : held ≢ nil → (node_at nodes at).owner ≢ nil
  pub same : held ≢ nil → (node_at nodes held).owner ≡ (node_at nodes at).owner
  pub lower : held ≢ nil → (node_at nodes at).rank < (node_at nodes held).rank
  pub fits : held ≢ nil → FitsOn side nodes at held
