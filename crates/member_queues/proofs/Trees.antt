-- What the nodes of a tree say, and what their members are.
use Rattle.std.proofs.Common.{◌≡◌, ◌≢◌, inl, inr, ℕ, zero, suc, ◌+◌, ◌<◌, ◌≤◌, List, [], length, map, Some, None, IsSome, option_map, refl, sym, ap, ◌∙◌, arith, slice_index_or}
use Rattle.std.proofs.lemmas.Bool.{cases_eq, eq-eqb}
use Rattle.std.proofs.lemmas.List.{get_or_past, get_or_default}
use Rattle.std.proofs.Math.ListN.{get_or-map}
use Rattle.member_queues.specs.declared.Node.{Node}
use Rattle.member_queues.specs.declared.Side.TheVariants.{Next, Beside}
use Rattle.member_queues.specs.Ranks.{ranked, holder, IsLeast}
use Rattle.member_queues.specs.Heap.{nil, blank, node_at, root_at, member_in, HasBelow, BeginsRun, FitsOn, AreRanked, AreInRuns, IsHeap}

-- a key with an owner has a node
pub within : (ns : List Node) (k : ℕ) → (node_at ns k).owner ≢ nil → k < length ns
within ns k owned = grind (arith, get_or_past ns k blank)

pub is_some : (ns : List Node) (k : ℕ) → length ns ≤ nil → (node_at ns k).owner ≢ nil → k ≢ nil
is_some ns k few owned z = let lt = within ns k owned in omega (arith, lt, z, few)

-- the node that was read
pub node_is : (ns : List Node) (k : ℕ) (n : Node) → k < length ns → n ≡ slice_index_or ns k n → n ≡ node_at ns k
node_is ns k n lt e = e ∙ get_or_default ns k n blank lt

-- the root that was read
pub root_is : (rs : List ℕ) (p r : ℕ) → p < length rs → r ≡ slice_index_or rs p r → root_at rs p ≡ r
root_is rs p r lt e = get_or_default rs p nil r lt ∙ sym e

-- an owner that has a root has a number
pub has_room : (rs : List ℕ) (p : ℕ) → root_at rs p ≢ nil → p < length rs
has_room rs p some = grind (arith, get_or_past rs p nil)

-- what a contract sees of a key, by its node
pub ranked-nodes : (ns : List Node) (k : ℕ) → ranked (map member_in ns) k ≡ member_in (node_at ns k)
ranked-nodes ns k = get_or-map member_in ns k blank

pub member_some : (n : Node) (p r : ℕ) → member_in n ≡ Some (p, r) → (n.owner ≡ p) × (n.rank ≡ r) × (p ≢ nil)
member_some n p r e = grind (arith, eq-eqb)

pub some_member : (n : Node) (p : ℕ) → n.owner ≡ p → p ≢ nil → member_in n ≡ Some (p, n.rank)
some_member n p e some = grind arith

pub member_none : (n : Node) → member_in n ≡ None → n.owner ≡ nil
member_none n e = grind arith

pub none_member : (n : Node) → n.owner ≡ nil → member_in n ≡ None
none_member n e = grind arith

-- whose member a key is, by its node
holder_owner : (n : Node) (p : ℕ) → option_map (λ (m : ℕ × ℕ). m.0) (member_in n) ≡ Some p → (n.owner ≡ p) × (p ≢ nil)
holder_owner n p is = grind (arith, member_some)

pub member_owner : (ns : List Node) (k p : ℕ) → holder (map member_in ns) k ≡ Some p → (node_at ns k).owner ≡ p × (p ≢ nil)
member_owner ns k p is = holder_owner (node_at ns k) p (sym (ap (option_map (λ (m : ℕ × ℕ). m.0)) (ranked-nodes ns k)) ∙ is)

pub owner_member : (ns : List Node) (k p : ℕ) → (node_at ns k).owner ≡ p → p ≢ nil → holder (map member_in ns) k ≡ Some p
owner_member ns k p mine some = ap (option_map (λ (m : ℕ × ℕ). m.0)) (ranked-nodes ns k ∙ some_member (node_at ns k) p mine some)

pub member_there : (n : Node) → IsSome (member_in n) → n.owner ≢ nil
member_there n some z = grind arith

-- owners and ranks that are as before keep their bounds
pub AreRanked-kept : (rs rs' : List ℕ) (ns ns' : List Node) → AreRanked rs ns → ((j : ℕ) → (node_at ns' j).owner ≡ (node_at ns j).owner)
    → ((j : ℕ) → (node_at ns' j).rank ≡ (node_at ns j).rank) → length ns' ≡ length ns → length rs' ≡ length rs → AreRanked rs' ns'
AreRanked-kept rs rs' ns ns' w own ranks len rooms = grind arith

-- who is the next of another has no run beside it
pub inner : (ns : List Node) → AreInRuns ns → (j : ℕ) → (node_at ns j).owner ≢ nil → (node_at ns j).next ≢ nil → (node_at ns (node_at ns j).next).beside ≡ nil
unfolding AreInRuns
inner ns w = w

pub in_runs : (ns : List Node) → ((j : ℕ) → (node_at ns j).owner ≢ nil → (node_at ns j).next ≢ nil → (node_at ns (node_at ns j).next).beside ≡ nil) → AreInRuns ns
unfolding AreInRuns
in_runs ns given = given

pub runs-none : AreInRuns []
runs-none = in_runs [] (λ j owned. absurd (owned refl))

-- runs stand by what leads from a key
pub AreInRuns-kept : (ns ns' : List Node) → AreInRuns ns → ((j : ℕ) → (node_at ns' j).owner ≢ nil → (node_at ns j).owner ≢ nil) → ((j : ℕ) → (node_at ns' j).next ≡ (node_at ns j).next)
    → ((j : ℕ) → (node_at ns' j).beside ≡ (node_at ns j).beside) → AreInRuns ns'
AreInRuns-kept ns ns' w was nexts besides =
    in_runs ns' (λ j owned some. rw (nexts j) (besides (node_at ns j).next ∙ inner ns w j (was j owned) (λ z. some (nexts j ∙ z))))

-- what a node says but for its level, and at a root but for the key over it
pub record Marked (rs : List ℕ) (ns ns' : List Node) : Type 0 where
  pub own : (j : ℕ) → (node_at ns' j).owner ≡ (node_at ns j).owner
  pub ranks : (j : ℕ) → (node_at ns' j).rank ≡ (node_at ns j).rank
  pub above : (j : ℕ) → root_at rs (node_at ns j).owner ≢ j → (node_at ns' j).above ≡ (node_at ns j).above
  pub nexts : (j : ℕ) → (node_at ns' j).next ≡ (node_at ns j).next
  pub besides : (j : ℕ) → (node_at ns' j).beside ≡ (node_at ns j).beside
  pub len : length ns' ≡ length ns

-- a tree stands by that alone
pub IsHeap-marked : (rs : List ℕ) (ns ns' : List Node) → IsHeap rs ns nil → Marked rs ns ns' → IsHeap rs ns' nil
IsHeap-marked rs ns ns' w t = record {
  ranked = AreRanked-kept rs rs ns ns' w.ranked t.own t.ranks t.len refl;
  tree = record {
    above = λ k owned held away.
        let away' : root_at rs (node_at ns k).owner ≢ k = λ z. away (ap (root_at rs) (t.own k) ∙ z) in
        let m = (node_at ns k).above in
        let o = w.tree.above k (was k owned) held away' in
        rw (t.above k away') (t.own m ∙ o.0 ∙ sym (t.own k), omega (arith, t.ranks m, t.ranks k, o.1), rw (t.nexts m, t.besides m) o.2);
    tops = λ p some. let o = w.tree.tops p some in (t.own (root_at rs p) ∙ o.0, o.1);
    down = λ j k owned some b.
        let o = w.tree.down j k (was j owned) some (rw (t.nexts j, t.besides j) at b) in
        (t.own k ∙ o.0 ∙ sym (t.own j), t.above k o.3 ∙ o.1, o.2, λ z. o.3 (sym (ap (root_at rs) (t.own k)) ∙ z));
    apart = λ j owned. rw (t.nexts j, t.besides j) (w.tree.apart j (was j owned));
  };
  runs = AreInRuns-kept ns ns' w.runs was t.nexts t.besides;
}
  where
    was : (j : ℕ) → (node_at ns' j).owner ≢ nil → (node_at ns j).owner ≢ nil
    was j owned z = owned (t.own j ∙ z)

-- a key's side has its owner and ranks higher
pub side_after : (rs : List ℕ) (ns : List Node) (held j k : ℕ) → IsHeap rs ns held → (node_at ns j).owner ≢ nil → k ≢ nil → HasBelow ns j k
    → ((node_at ns k).owner ≡ (node_at ns j).owner) × ((node_at ns j).rank < (node_at ns k).rank)
side_after rs ns held j k w owned some b = grind arith

-- the key over one that was read and is no root has a node
pub above_within : (rs : List ℕ) (ns : List Node) (k : ℕ) (n : Node) → IsHeap rs ns nil → (node_at ns k).owner ≢ nil
    → n ≡ slice_index_or ns k n → root_at rs n.owner ≢ k → n.above < length ns
above_within rs ns k n w owned read away =
    let is = node_is ns k n (within ns k owned) read in
    let over = w.tree.above k owned (is_some ns k w.ranked.few owned) (λ z. away (ap (λ (y : Node). root_at rs y.owner) is ∙ z)) in
    rw is (within ns (node_at ns k).above (λ z. owned (sym over.0 ∙ z)))

-- members that are as before keep their owner and rank
pub same_member : (ns ns' : List Node) (k : ℕ) → map member_in ns' ≡ map member_in ns → (node_at ns k).owner ≢ nil
    → ((node_at ns' k).owner ≡ (node_at ns k).owner) × ((node_at ns' k).rank ≡ (node_at ns k).rank)
same_member ns ns' k e owned =
    let is : member_in (node_at ns' k) ≡ Some ((node_at ns k).owner, (node_at ns k).rank)
    = sym (ranked-nodes ns' k) ∙ ap (λ l. ranked l k) e ∙ ranked-nodes ns k ∙ some_member (node_at ns k) (node_at ns k).owner refl owned in
    let m = member_some (node_at ns' k) (node_at ns k).owner (node_at ns k).rank is in
    (m.0, m.1)

-- the next of a key is the next of no other, and the first of no run
pub next_once : (rs : List ℕ) (ns : List Node) (held i j : ℕ) → IsHeap rs ns held → (node_at ns i).owner ≢ nil → (node_at ns j).owner ≢ nil → (node_at ns i).next ≢ nil
    → (node_at ns i).next ≡ (node_at ns j).next → i ≡ j
next_once rs ns held i j w owned_i owned_j some same = sym (w.tree.down i (node_at ns i).next owned_i some (inl refl)).1 ∙ (w.tree.down j (node_at ns i).next owned_j some (inl (sym same))).1

-- the first of the run beside another is the next of no key
pub first_beside : (rs : List ℕ) (ns : List Node) (held k : ℕ) → IsHeap rs ns held → (node_at ns k).owner ≢ nil → (node_at ns k).beside ≢ nil → BeginsRun ns (node_at ns k).beside
first_beside rs ns held k w owned some j owned_j e =
    let b = (node_at ns k).beside in
    let same : j ≡ k = sym (w.tree.down j b owned_j some (inl e)).1 ∙ (w.tree.down k b owned some (inr refl)).1 in
    let both : (node_at ns k).next ≡ b = sym (ap (λ i. (node_at ns i).next) same) ∙ e in
    w.tree.apart k owned (λ z. some (sym both ∙ z)) both

-- a held key is the next of none
pub first_held : (rs : List ℕ) (ns : List Node) (held : ℕ) → IsHeap rs ns held → held ≢ nil → BeginsRun ns held
first_held rs ns held w some j owned e = (w.tree.down j held owned some (inl e)).2 refl

-- a root is the next of none
pub first_root : (rs : List ℕ) (ns : List Node) (held p : ℕ) → IsHeap rs ns held → root_at rs p ≢ nil → BeginsRun ns (root_at rs p)
first_root rs ns held p w some j owned e = grind arith

-- a run may be put beside the first of a run, and behind another what has no run beside it
pub fits_beside : (ns : List Node) (at held : ℕ) → BeginsRun ns at → FitsOn Beside ns at held
unfolding FitsOn
fits_beside ns at held first = first

pub fits_behind : (ns : List Node) (at held : ℕ) → (node_at ns held).beside ≡ nil → FitsOn Next ns at held
unfolding FitsOn
fits_behind ns at held alone = alone

-- the root of an owner that has a member is there, and ranks no higher
pub top : (rs : List ℕ) (ns : List Node) → IsHeap rs ns nil → (p k : ℕ) → (node_at ns k).owner ≡ p → p ≢ nil → (root_at rs p ≢ nil) × ((node_at ns (root_at rs p)).rank ≤ (node_at ns k).rank)
top rs ns w p k mine some = climb ((node_at ns k).rank + 1) k mine (omega arith)
  where
    climb : (most k : ℕ) → (node_at ns k).owner ≡ p → (node_at ns k).rank < most → (root_at rs p ≢ nil) × ((node_at ns (root_at rs p)).rank ≤ (node_at ns k).rank)
    climb zero k mine low = absurd (omega (arith, low))
    climb (suc most) k mine low =
        let owned : (node_at ns k).owner ≢ nil = λ z. some (sym mine ∙ z) in
        let here = is_some ns k w.ranked.few owned in
        elim (cases_eq (root_at rs p) k) [
          | inl e ↦ rw e (here, omega arith)
          | inr away ↦
              let t = w.tree.above k owned here (λ z. away (ap (root_at rs) (sym mine) ∙ z)) in
              let up = climb most (node_at ns k).above (t.0 ∙ mine) (omega (arith, t.1, low)) in
              (up.0, omega (arith, up.1, t.1))
        ]

-- an owner's root is its least member
pub IsLeast-root : (rs : List ℕ) (ns : List Node) → IsHeap rs ns nil → (p r : ℕ) → root_at rs p ≡ r → r ≢ nil → IsLeast (map member_in ns) p r
IsLeast-root rs ns w p r e some =
    let t = w.tree.tops p (λ z. some (sym e ∙ z)) in
    let room = has_room rs p (λ z. some (sym e ∙ z)) in
    let p_some : p ≢ nil = omega (arith, room, w.ranked.few, w.ranked.rooms) in
    let mine : (node_at ns r).owner ≡ p = rw e at t.0 in
    record {
      rank = (node_at ns r).rank;
      is = ranked-nodes ns r ∙ some_member (node_at ns r) p mine p_some;
      least = grind (arith, member_some, ranked-nodes, top);
    }
