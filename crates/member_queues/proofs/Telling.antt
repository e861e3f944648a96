-- Members that go to another owner all at once, and keep their tree.
use Rattle.std.proofs.Common.{take, drop, ◌++◌, drop_of_length-le, append-nil, take_all, ◌≡◌, ◌≢◌, ◌⊎◌, inl, inr, ℕ, ◌<◌, List, [], ◌∷◌, length, set, map, Option, Some, option_map, refl, sym, ap, ◌∙◌, arith}
use Rattle.std.specs.List.{AllByRecursion}
use Rattle.std.proofs.lemmas.Bool.{cases_eq}
use Rattle.std.proofs.lemmas.List.{get_or_past, get_or-set_same, get_or-set_other, length-set, length-map}
use Rattle.member_lists.proofs.Owners.{handed-from, handed-other, times-later}
use Rattle.member_lists.specs.Owners.{times, handed}
use Rattle.member_queues.specs.declared.Node.{Node}
use Rattle.member_queues.specs.Ranks.{ranked, holder, AreRankedMembers}
use Rattle.member_queues.specs.Heap.{nil, node_at, root_at, member_in, walk, run_after, key_after, WalkEnds, AreRetold, HasBelow, AreInRuns, IsHeap}
use Rattle.member_queues.proofs.Trees.{is_some, ranked-nodes, member_some, some_member, none_member, member_owner, owner_member, AreInRuns-kept}
use Rattle.member_queues.proofs.Walks as walks

-- a key with its owner told
abbrev with_owner : ℕ → Node → Node
with_owner to node = record node { owner = to }

-- how far the walk has come: who was not told is still to come
pub record IsTelling (ns ns' : List Node) (from to run at : ℕ) : Type 0 where
  pub here : (k : ℕ) → (node_at ns k).owner ≡ from → (node_at ns' k ≡ with_owner to (node_at ns k)) ⊎ ((node_at ns' k ≡ node_at ns k) × (times k (walk ns run at (length ns)) ≡ 1))
  pub others : (k : ℕ) → (node_at ns k).owner ≢ from → node_at ns' k ≡ node_at ns k
  pub len : length ns' ≡ length ns
  pub ends : WalkEnds ns run at (length ns)
  pub owned : AllByRecursion (λ k. (node_at ns k).owner ≡ from) (walk ns run at (length ns))

pub begins : (ns : List Node) (from to first : ℕ) → from ≢ nil → WalkEnds ns first first (length ns) → AreRankedMembers (map member_in ns) from (walk ns first first (length ns)) → IsTelling ns ns from to first first
begins ns from to first some ends all = record {
  here = λ k mine. inr (refl, all.once k (owner_member ns k from mine some));
  others = λ k other. refl;
  len = refl;
  ends = ends;
  owned = owners (walk ns first first (length ns)) all.owned;
}
  where
    owners : (keys : List ℕ) → AllByRecursion (λ k. holder (map member_in ns) k ≡ Some from) keys → AllByRecursion (λ k. (node_at ns k).owner ≡ from) keys
    owners [] all = tt
    owners (k ∷ keys) all = ((member_owner ns k from all.0).0, owners keys all.1)

module _ (ns ns' : List Node) (from to run at : ℕ) (w : IsTelling ns ns' from to run at) (some : at ≢ nil) where
  step : walks.Step ns run at (length ns)
  step = walks.step ns run at (length ns) w.ends some

  pub at_within : at < length ns'
  at_within = let lt = step.inside in omega (arith, lt, w.len)

  at_owned : ((node_at ns at).owner ≡ from) × AllByRecursion (λ k. (node_at ns k).owner ≡ from) (walk ns (run_after ns run at) (key_after ns run at) (length ns))
  at_owned = rw step.rest at w.owned

  -- what leads on is as it was
  sides : (k : ℕ) → ((node_at ns' k).next ≡ (node_at ns k).next) × ((node_at ns' k).beside ≡ (node_at ns k).beside)
  sides k = grind (arith, cases_eq)

  abbrev told : List Node
  told = set ns' at (with_owner to (node_at ns' at))

  sides_told : (k : ℕ) → ((node_at told k).next ≡ (node_at ns k).next) × ((node_at told k).beside ≡ (node_at ns k).beside)
  sides_told k = grind (arith, cases_eq, sides, get_or-set_same, get_or-set_other, at_within)

  runs_on : run_after told run at ≡ run_after ns run at
  runs_on = grind (arith, sides_told)

  keys_on : key_after told run at ≡ key_after ns run at
  keys_on = grind (arith, sides_told)

  IsTelling-told : IsTelling ns told from to (run_after ns run at) (key_after ns run at)
  IsTelling-told = record {
    here = λ k mine. elim (cases_eq k at) [
      | inl same ↦ grind (arith, get_or-set_same, at_within, at_owned)
      | inr differs ↦ grind (arith, get_or-set_other, step, times-later)
    ];
    others = λ k other. grind (arith, get_or-set_other, at_owned);
    len = length-set ns' at (with_owner to (node_at ns' at)) ∙ w.len;
    ends = step.ends;
    owned = at_owned.1;
  }

  -- what the code read and wrote
  module _ (z : Node) (run' at' : ℕ) (is : z ≡ node_at ns' at)
      (on_run : run' ≡ run_after (set ns' at (with_owner to z)) run at) (on_key : at' ≡ key_after (set ns' at (with_owner to z)) run at) where
    run_is : run' ≡ run_after ns run at
    run_is = on_run ∙ ap (λ n. run_after (set ns' at (with_owner to n)) run at) is ∙ runs_on

    key_is : at' ≡ key_after ns run at
    key_is = on_key ∙ ap (λ n. key_after (set ns' at (with_owner to n)) run at) is ∙ keys_on

    pub turn : IsTelling ns (set ns' at (with_owner to z)) from to run' at'
    turn = rw (is, run_is, key_is) IsTelling-told

    -- fewer are to come
    pub fewer_read : length (walk ns run' at' (length ns)) < length (walk ns run at (length ns))
    fewer_read = rw (run_is, key_is) (let e = ap length step.rest in omega (arith, e))

-- what is written back
pub written : (ns l : List Node) (n : ℕ) → length l ≡ length ns → n ≡ length ns → take n (l ++ drop (length l) ns) ≡ l
written ns l n same all = grind (arith, drop_of_length-le, append-nil, take_all)

-- at the end all were told
pub all_told : (ns ns' : List Node) (from to run at : ℕ) → IsTelling ns ns' from to run at → at ≡ nil → AreRetold ns ns' from to
all_told ns ns' from to run at w none = grind (arith, walks.over)

module _ (rs : List ℕ) (ns ns' : List Node) (from to : ℕ) (w : IsHeap rs ns nil) (differ : from ≢ to) (room_from : from < length rs) (room_to : to < length rs) (t : AreRetold ns ns' from to)
    (apart : (j k r : ℕ) → ranked (map member_in ns) j ≡ Some (from, r) → ranked (map member_in ns) k ≢ Some (to, r)) where
  from_some : from ≢ nil
  from_some = omega (arith, room_from, w.ranked.few, w.ranked.rooms)

  to_some : to ≢ nil
  to_some = omega (arith, room_to, w.ranked.few, w.ranked.rooms)

  own : (k : ℕ) → (node_at ns' k).owner ≡ handed from to (node_at ns k).owner
  own k = grind (arith, cases_eq, handed-from, handed-other)

  own_from : (k : ℕ) → (node_at ns k).owner ≡ from → (node_at ns' k).owner ≡ to
  own_from k mine = ap (λ (x : Node). x.owner) (t.here k mine)

  own_other : (k : ℕ) → (node_at ns k).owner ≢ from → (node_at ns' k).owner ≡ (node_at ns k).owner
  own_other k other = ap (λ (x : Node). x.owner) (t.others k other)

  ranks : (k : ℕ) → (node_at ns' k).rank ≡ (node_at ns k).rank
  ranks k = elim (cases_eq (node_at ns k).owner from) [ inl mine ↦ ap (λ (x : Node). x.rank) (t.here k mine) | inr other ↦ ap (λ (x : Node). x.rank) (t.others k other) ]

  up : (k : ℕ) → (node_at ns' k).above ≡ (node_at ns k).above
  up k = elim (cases_eq (node_at ns k).owner from) [ inl mine ↦ ap (λ (x : Node). x.above) (t.here k mine) | inr other ↦ ap (λ (x : Node). x.above) (t.others k other) ]

  nexts : (k : ℕ) → (node_at ns' k).next ≡ (node_at ns k).next
  nexts k = elim (cases_eq (node_at ns k).owner from) [ inl mine ↦ ap (λ (x : Node). x.next) (t.here k mine) | inr other ↦ ap (λ (x : Node). x.next) (t.others k other) ]

  besides : (k : ℕ) → (node_at ns' k).beside ≡ (node_at ns k).beside
  besides k = elim (cases_eq (node_at ns k).owner from) [ inl mine ↦ ap (λ (x : Node). x.beside) (t.here k mine) | inr other ↦ ap (λ (x : Node). x.beside) (t.others k other) ]

  was : (k : ℕ) → (node_at ns' k).owner ≢ nil → (node_at ns k).owner ≢ nil
  was k owned z = owned (own k ∙ ap (handed from to) z ∙ handed-other from to nil (λ e. from_some (sym e)))

  into : (j k : ℕ) → HasBelow ns j k → HasBelow ns' j k
  into j k given = grind (arith, nexts, besides)

  back : (j k : ℕ) → HasBelow ns' j k → HasBelow ns j k
  back j k given = grind (arith, nexts, besides)

  same_owner : (j k : ℕ) → (node_at ns j).owner ≡ (node_at ns k).owner → (node_at ns' j).owner ≡ (node_at ns' k).owner
  same_owner j k e = own j ∙ ap (handed from to) e ∙ sym (own k)

  apart_nodes : (j k : ℕ) → (node_at ns j).owner ≡ from → (node_at ns k).owner ≡ to → (node_at ns j).rank ≢ (node_at ns k).rank
  apart_nodes j k mine yours e =
      apart j k (node_at ns j).rank (ranked-nodes ns j ∙ some_member (node_at ns j) from mine from_some)
      (ranked-nodes ns k ∙ some_member (node_at ns k) to yours to_some ∙ ap (λ n. pair n) (sym e))
    where
      pair : ℕ → Option (ℕ × ℕ)
      pair n = Some (to, n)

  distinct_told : (j k : ℕ) → (node_at ns' j).owner ≢ nil → (node_at ns' j).owner ≡ (node_at ns' k).owner → (node_at ns' j).rank ≡ (node_at ns' k).rank → j ≡ k
  distinct_told j k owned same e = grind (arith, cases_eq, ranks, was, apart_nodes, own_other, own_from)

  gone : root_at (set rs from nil) from ≡ nil
  gone = get_or-set_same rs from nil nil room_from

  kept : (p : ℕ) → p ≢ from → root_at (set rs from nil) p ≡ root_at rs p
  kept p differs = get_or-set_other rs from p nil nil differs

  known_told : (k : ℕ) → (node_at ns' k).owner ≢ nil → (node_at ns' k).owner < length (set rs from nil)
  known_told k owned = grind (arith, cases_eq, own_from, length-set, own_other, was)

  -- the one's root is of the one
  first : root_at rs from ≢ nil → (node_at ns (root_at rs from)).owner ≡ from
  first some = (w.tree.tops from some).0

  -- a key that is no root is none, and a key that is neither a root nor held was none
  away_told : (k : ℕ) → k ≢ nil → root_at rs (node_at ns k).owner ≢ k → root_at (set rs from nil) (node_at ns' k).owner ≢ k
  away_told k some away z = grind (arith, cases_eq, gone, kept, own_other, own_from, from_some, get_or_past)

  was_away : (k : ℕ) → k ≢ root_at rs from → root_at (set rs from nil) (node_at ns' k).owner ≢ k → root_at rs (node_at ns k).owner ≢ k
  was_away k free away z = grind (arith, cases_eq, own_other, kept)

  tops_told : (p : ℕ) → root_at (set rs from nil) p ≢ nil → ((node_at ns' (root_at (set rs from nil) p)).owner ≡ p) × (root_at (set rs from nil) p ≢ root_at rs from)
  tops_told p some = grind (arith, cases_eq, gone, kept, own_other, first)

  down_told : (j k : ℕ) → (node_at ns' j).owner ≢ nil → k ≢ nil → HasBelow ns' j k
      → ((node_at ns' k).owner ≡ (node_at ns' j).owner) × ((node_at ns' k).above ≡ j) × (k ≢ root_at rs from) × (root_at (set rs from nil) (node_at ns' k).owner ≢ k)
  down_told j k owned some b =
      let o = w.tree.down j k (was j owned) some (back j k b) in (
        same_owner k j o.0,
        up k ∙ o.1,
        λ e. o.3 (ap (root_at rs) (ap (λ i. (node_at ns i).owner) e ∙ first (λ z. some (e ∙ z))) ∙ sym e),
        away_told k some o.3,
      )

  above_told : (k : ℕ) → (node_at ns' k).owner ≢ nil → root_at rs (node_at ns k).owner ≢ k
      → ((node_at ns' (node_at ns' k).above).owner ≡ (node_at ns' k).owner)
      × ((node_at ns' (node_at ns' k).above).rank < (node_at ns' k).rank) × HasBelow ns' (node_at ns' k).above k
  above_told k owned away = grind (arith, was, is_some, up, same_owner, ranks, into)

  apart_told : (j : ℕ) → (node_at ns' j).owner ≢ nil → (node_at ns' j).next ≢ nil → (node_at ns' j).next ≢ (node_at ns' j).beside
  apart_told j owned some e = w.tree.apart j (was j owned) (λ z. some (nexts j ∙ z)) (sym (nexts j) ∙ e ∙ besides j)

  runs_told : AreInRuns ns'
  runs_told = AreInRuns-kept ns ns' w.runs was nexts besides

  -- the one has no members, and its tree is held
  pub IsHeap-told : IsHeap (set rs from nil) ns' (root_at rs from)
  IsHeap-told = grind (arith, length-set, ranks, known_told, distinct_told, above_told, was_away, tops_told, down_told, apart_told, runs_told)

  pub top-told : root_at rs from ≢ nil → (node_at ns' (root_at rs from)).owner ≡ to
  top-told some = own_from (root_at rs from) (first some)

  pub ranked-told : (k : ℕ) → ranked (map member_in ns') k ≡ option_map (λ (m : ℕ × ℕ). (handed from to m.0, m.1)) (ranked (map member_in ns) k)
  ranked-told k = grind (arith, ranked-nodes, cases_eq, none_member, own_other, from_some, some_member, own, ranks, to_some, handed-from)

-- a member's owner is within the keys
pub owner_within : (rs : List ℕ) (ns : List Node) → IsHeap rs ns nil → (k p r : ℕ) → ranked (map member_in ns) k ≡ Some (p, r) → p < length (map member_in ns)
owner_within rs ns w k p r is = grind (arith, member_some, ranked-nodes, length-map)
