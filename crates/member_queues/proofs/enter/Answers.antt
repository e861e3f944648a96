-- A key written as a run of one is a tree held beside the heap: nothing leads to it yet, and its rank is new to its owner
use Rattle.std.proofs.Common.{◌≡◌, ◌≢◌, ℕ, ◌<◌, ◌≤◌, length, Some, None, sym, ap, ◌∙◌, arith, List, set, map, slice_index_or}
use Rattle.std.proofs.lemmas.List.{map-set, get_or-set_same}
use Rattle.member_queues.specs.declared.Node.{Node}
use Rattle.member_queues.specs.Ranks.{ranked}
use Rattle.member_queues.specs.Heap.{nil, blank, node_at, member_in, IsHeap}
use Rattle.member_queues.proofs.Trees as trees
use Rattle.member_queues.proofs.Entering as entering
use Rattle.member_queues.proofs.enter.Goals as goal

-- the key had no owner, by its node
free : (ns : List Node) (k : ℕ) → ranked (map member_in ns) k ≡ None → (node_at ns k).owner ≡ nil
free ns k is = trees.member_none (node_at ns k) (sym (trees.ranked-nodes ns k) ∙ is)

-- what the code writes
module _ (rs : List ℕ) (ns : List Node) (k p r : ℕ) (w : IsHeap rs ns nil) (key : k < length ns) (none : ranked (map member_in ns) k ≡ None) (room : p < length rs) (fits : r ≤ nil)
    (new : (j : ℕ) → ranked (map member_in ns) j ≢ Some (p, r)) where
  abbrev ns' : List Node
  ns' = set ns k (record { owner = p; rank = r; above = k; next = 4294967295; beside = 4294967295; level = 0 })

  entered : IsHeap rs ns' k
  entered = entering.IsHeap-entered rs ns k p r w key (free ns k none) room fits new

  mine : (node_at ns' k).owner ≡ p
  mine = ap (λ (n : Node). n.owner) (get_or-set_same ns k (record { owner = p; rank = r; above = k; next = 4294967295; beside = 4294967295; level = 0 }) blank key)

  some : k ≢ nil
  some = let few = w.ranked.few in omega (arith, key, few)

  first : (root : ℕ) → root ≡ slice_index_or rs p root → root ≡ nil → IsHeap (set rs p k) ns' nil
  first root read is = entering.IsHeap-first rs ns' k p entered some room mine (trees.root_is rs p root room read ∙ is)

  written : map member_in ns' ≡ set (map member_in ns) k (Some (p, r))
  written = grind (arith, map-set, trees.some_member)

pub add-requires-clause-heap : goal.add-requires-clause-heap
add-requires-clause-heap c =
    entered c.args.forest.now.roots.items c.args.forest.now.nodes.items c.args.key c.args.owner c.args.rank c.requires.heap c.requires.key c.requires.free c.requires.owner
    (omega (arith, c.ranges.rank)) c.requires.distinct

pub returns-then-index-clause-heap : goal.returns-then-index-clause-heap
returns-then-index-clause-heap c =
    first c.args.forest.now.roots.items c.args.forest.now.nodes.items c.args.key c.args.owner c.args.rank c.requires.heap c.requires.key c.requires.free c.requires.owner
    (omega (arith, c.ranges.rank)) c.requires.distinct c.index.result.now c.index.ensures c.if-index.true

pub returns-then-index-clause-members : goal.returns-then-index-clause-members
returns-then-index-clause-members c =
    written c.args.forest.now.roots.items c.args.forest.now.nodes.items c.args.key c.args.owner c.args.rank c.requires.heap c.requires.key c.requires.free c.requires.owner
    (omega (arith, c.ranges.rank)) c.requires.distinct

pub returns-else-index-clause-members : goal.returns-else-index-clause-members
returns-else-index-clause-members c =
    c.add.ensures.members ∙ written c.args.forest.now.roots.items c.args.forest.now.nodes.items c.args.key c.args.owner c.args.rank c.requires.heap c.requires.key c.requires.free c.requires.owner
    (omega (arith, c.ranges.rank)) c.requires.distinct
