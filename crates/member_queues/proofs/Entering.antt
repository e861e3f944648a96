-- A key that comes to an owner, and room for more.
use Rattle.std.proofs.Common.{◌≡◌, ◌≢◌, inl, inr, refl, sym, ℕ, ◌+◌, ◌<◌, ◌≤◌, List, ◌++◌, length, replicate, set, map, Option, Some, ap, ◌∙◌, arith}
use Rattle.std.proofs.lemmas.Bool.{cases_eq}
use Rattle.std.proofs.lemmas.List.{get_or-set_same, get_or-set_other, length-set, length-append, length-replicate}
use Rattle.member_lists.proofs.Rooms.{get_or-append-replicate}
use Rattle.member_queues.specs.declared.Node.{Node}
use Rattle.member_queues.specs.Ranks.{ranked}
use Rattle.member_queues.specs.declared.Side.TheVariants.{Next}
use Rattle.member_queues.specs.Heap.{nil, blank, node_at, root_at, member_in, HasBelow, AreInRuns, IsHeap, IsSinking}
use Rattle.member_queues.proofs.Trees.{is_some, has_room, ranked-nodes, some_member, inner, in_runs, AreInRuns-kept, fits_behind}

runs-grown : (ns : List Node) (n : ℕ) → AreInRuns ns → AreInRuns (ns ++ replicate n blank)
runs-grown ns n w = AreInRuns-kept ns (ns ++ replicate n blank) w (λ j. rw (get_or-append-replicate ns n blank j) (λ owned. owned))
    (λ j. ap (λ (x : Node). x.next) (get_or-append-replicate ns n blank j)) (λ j. ap (λ (x : Node). x.beside) (get_or-append-replicate ns n blank j))

-- so many more keys and owners
pub IsHeap-grown : (rs : List ℕ) (ns : List Node) (n : ℕ) → IsHeap rs ns nil → length ns + n ≤ nil → IsHeap (rs ++ replicate n 4294967295) (ns ++ replicate n blank) nil
IsHeap-grown rs ns n w few = grind (arith, length-append, length-replicate, get_or-append-replicate, runs-grown)

-- a key that had no owner is one's member now, and held
module _ (rs : List ℕ) (ns : List Node) (k p r : ℕ) (w : IsHeap rs ns nil) (key : k < length ns) (free : (node_at ns k).owner ≡ nil) (room : p < length rs) (fits : r ≤ nil)
    (new : (j : ℕ) → ranked (map member_in ns) j ≢ Some (p, r)) where
  abbrev node : Node
  node = record { owner = p; rank = r; above = k; next = nil; beside = nil; level = 0 }

  here : node_at (set ns k node) k ≡ node
  here = get_or-set_same ns k node blank key

  other : (j : ℕ) → j ≢ k → node_at (set ns k node) j ≡ node_at ns j
  other j differs = get_or-set_other ns k j node blank differs

  p_some : p ≢ nil
  p_some = omega (arith, room, w.ranked.few, w.ranked.rooms)

  k_some : k ≢ nil
  k_some = omega (arith, key, w.ranked.few)

  not_k : (j : ℕ) → (node_at ns j).owner ≢ nil → j ≢ k
  not_k j owned e = owned (ap (λ i. (node_at ns i).owner) e ∙ free)

  alone : (j : ℕ) → (node_at ns j).owner ≡ p → (node_at ns j).rank ≢ r
  alone j mine e = new j (ranked-nodes ns j ∙ some_member (node_at ns j) p mine p_some ∙ ap (λ n. some_pair n) e)
    where
      some_pair : ℕ → Option (ℕ × ℕ)
      some_pair n = Some (p, n)

  was : (j : ℕ) → j ≢ k → (node_at (set ns k node) j).owner ≢ nil → (node_at ns j).owner ≢ nil
  was j differs owned z = owned (ap (λ (x : Node). x.owner) (other j differs) ∙ z)

  next_owned : (j : ℕ) → (node_at ns j).owner ≢ nil → (node_at ns j).next ≢ nil → (node_at ns (node_at ns j).next).owner ≢ nil
  next_owned j owned more z = owned (sym (w.tree.down j (node_at ns j).next owned more (inl refl)).0 ∙ z)

  some_key : (j : ℕ) → (node_at ns j).owner ≢ nil → j ≢ nil
  some_key j = is_some ns j w.ranked.few

  above_entered : (j : ℕ) → j ≢ k → (node_at ns j).owner ≢ nil → root_at rs (node_at ns j).owner ≢ j
      → ((node_at (set ns k node) (node_at (set ns k node) j).above).owner ≡ (node_at (set ns k node) j).owner)
      × ((node_at (set ns k node) (node_at (set ns k node) j).above).rank < (node_at (set ns k node) j).rank) × HasBelow (set ns k node) (node_at (set ns k node) j).above j
  above_entered j differs owned away = grind (arith, some_key, other, not_k)

  -- the new key is the next of none, and has none
  runs_entered : AreInRuns (set ns k node)
  runs_entered = in_runs (set ns k node) (λ j owned more. elim (cases_eq j k) [
    | inl same ↦ absurd (more (ap (λ i. (node_at (set ns k node) i).next) same ∙ ap (λ (x : Node). x.next) here))
    | inr differs ↦
        let e = ap (λ (x : Node). x.next) (other j differs) in
        let more_j : (node_at ns j).next ≢ nil = λ z. more (e ∙ z) in
        let mine : (node_at ns (node_at ns j).next).owner ≢ nil = next_owned j (was j differs owned) more_j in
        rw e (ap (λ (x : Node). x.beside) (other (node_at ns j).next (not_k (node_at ns j).next mine)) ∙ inner ns w.runs j (was j differs owned) more_j)
  ])

  pub IsHeap-entered : IsHeap rs (set ns k node) k
  IsHeap-entered = grind (arith, length-set, cases_eq, here, other, alone, above_entered, was, has_room, not_k, runs_entered)

-- the held key becomes its owner's root, and the one that was is held
pub IsHeap-crowned : (rs : List ℕ) (ns : List Node) (k p : ℕ) → IsHeap rs ns k → k ≢ nil → p < length rs → (node_at ns k).owner ≡ p
    → IsHeap (set rs p k) ns (root_at rs p)
IsHeap-crowned rs ns k p w k_some room mine = grind (arith, length-set, cases_eq, get_or-set_same, get_or-set_other)

-- a held key goes below a member of the same owner and a lesser rank
pub sinks_below : (rs : List ℕ) (ns xs : List Node) (at k p : ℕ) → IsHeap rs ns k → p < length rs → (node_at ns k).owner ≡ p → xs ≡ ns
    → ((node_at xs at).owner ≡ (node_at xs k).owner) × ((node_at xs at).rank < (node_at xs k).rank) → (node_at ns k).beside ≡ nil → IsSinking Next rs ns at k
sinks_below rs ns xs at k p w room mine read elder alone = grind (arith, fits_behind)

-- the first member of an owner
pub IsHeap-first : (rs : List ℕ) (ns : List Node) (k p : ℕ) → IsHeap rs ns k → k ≢ nil → p < length rs → (node_at ns k).owner ≡ p → root_at rs p ≡ nil → IsHeap (set rs p k) ns nil
IsHeap-first rs ns k p w some room mine none = rw none at (IsHeap-crowned rs ns k p w some room mine)
