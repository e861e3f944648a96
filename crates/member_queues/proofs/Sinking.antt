-- Joining a tree below a key, one step at a time.
use Rattle.std.proofs.Common.{◌≡◌, ◌≢◌, ◌⊎◌, inl, inr, ℕ, ◌<◌, ◌≤◌, List, length, set, map, refl, sym, ap, ◌∙◌, arith, slice_index_or}
use Rattle.std.proofs.lemmas.Bool.{cases_eq, cases_lt}
use Rattle.std.proofs.lemmas.List.{get_or-set_same, get_or-set_other, length-set}
use Rattle.std.proofs.Math.Seq.{map-set_same}
use Rattle.member_queues.specs.declared.Node.{Node}
use Rattle.member_queues.specs.declared.Side.{Side}
use Rattle.member_queues.specs.declared.Side.TheVariants.{Next, Beside}
use Rattle.member_queues.specs.Heap.{nil, blank, node_at, root_at, member_in, key_on, with_side, HasBelow, FitsOn, BeginsRun, AreInRuns, IsHeapTree, IsHeap, IsSinking}
use Rattle.member_queues.proofs.Trees.{within, node_is, side_after, first_beside, first_held, inner, in_runs, AreRanked-kept}

-- the side that is not this one
abbrev other : Side → Side
other Next = Beside
other Beside = Next

side-below : (s : Side) (n : Node) → (n.next ≡ key_on s n) ⊎ (n.beside ≡ key_on s n)
side-below s n = grind arith

-- a key below is on the one side or on the other
split : (s : Side) (n : Node) (k : ℕ) → (n.next ≡ k) ⊎ (n.beside ≡ k) → (key_on s n ≡ k) ⊎ (key_on (other s) n ≡ k)
split s n k b = grind arith

whole : (s : Side) (n : Node) (k : ℕ) → (key_on s n ≡ k) ⊎ (key_on (other s) n ≡ k) → (n.next ≡ k) ⊎ (n.beside ≡ k)
whole s n k b = grind arith

owner-with : (s : Side) (k : ℕ) (n : Node) → (with_side s k n).owner ≡ n.owner
owner-with s k n = grind arith

rank-with : (s : Side) (k : ℕ) (n : Node) → (with_side s k n).rank ≡ n.rank
rank-with s k n = grind arith

above-with : (s : Side) (k : ℕ) (n : Node) → (with_side s k n).above ≡ n.above
above-with s k n = grind arith

here-with : (s : Side) (k : ℕ) (n : Node) → key_on s (with_side s k n) ≡ k
here-with s k n = grind arith

other-with : (s : Side) (k : ℕ) (n : Node) → key_on (other s) (with_side s k n) ≡ key_on (other s) n
other-with s k n = grind arith

pub member-with : (s : Side) (k : ℕ) (n : Node) → member_in (with_side s k n) ≡ member_in n
member-with s k n = grind arith

-- two sides that differ
differ-with : (s : Side) (n : Node) → (key_on s n ≢ nil → key_on s n ≢ key_on (other s) n) → n.next ≢ nil → n.next ≢ n.beside
differ-with s n d = grind arith

apart-with : (s : Side) (n : Node) → (n.next ≢ nil → n.next ≢ n.beside) → key_on s n ≢ nil → key_on s n ≢ key_on (other s) n
apart-with s n d = grind arith

-- what the code reads on a side, and what it writes there
pub on_read : (ns : List Node) (s : Side) (at q : ℕ) (n : Node) → at < length ns → q ≡ key_on s n → n ≡ slice_index_or ns at n → q ≡ key_on s (node_at ns at)
on_read ns s at q n lt is read = is ∙ ap (key_on s) (node_is ns at n lt read)

pub put_read : (ns : List Node) (s : Side) (at held : ℕ) (x n : Node) → at < length ns → x ≡ with_side s held n → n ≡ slice_index_or ns at n → x ≡ with_side s held (node_at ns at)
put_read ns s at held x n lt is read = is ∙ ap (with_side s held) (node_is ns at n lt read)

-- the next key on a side, where the held one ranks higher
module _ (rs : List ℕ) (ns : List Node) (s : Side) (at held : ℕ) (w : IsSinking s rs ns at held) (some : held ≢ nil) (more : key_on s (node_at ns at) ≢ nil) where
  abbrev q : ℕ
  q = key_on s (node_at ns at)

  after : ((node_at ns q).owner ≡ (node_at ns at).owner) × ((node_at ns at).rank < (node_at ns q).rank)
  after = side_after rs ns held at q w.heap (w.owned some) more (side-below s (node_at ns at))

  pub on_within : q < length ns
  on_within = within ns q (λ z. w.owned some (sym after.0 ∙ z))

  pub on_higher : (node_at ns at).rank < (node_at ns q).rank
  on_higher = after.1

  fits_on : (s : Side) → FitsOn s ns at held → key_on s (node_at ns at) ≢ nil → FitsOn s ns (key_on s (node_at ns at)) held
  unfolding FitsOn
  fits_on Next alone there = alone
  fits_on Beside first there = first_beside rs ns held at w.heap (w.owned some) there

  pub IsSinking-on : (node_at ns q).rank < (node_at ns held).rank → IsSinking s rs ns q held
  IsSinking-on less = record {
    heap = w.heap;
    owned = λ _ z. w.owned some (sym after.0 ∙ z);
    same = λ _. w.same some ∙ sym after.0;
    lower = λ _. less;
    fits = λ _. fits_on s (w.fits some) more;
  }

-- the held key is put on a key's side
pub record Hung (s : Side) (ns ns' : List Node) (at held : ℕ) : Type 0 where
  pub here : node_at ns' at ≡ with_side s held (node_at ns at)
  pub below : node_at ns' held ≡ record (node_at ns held) { above = at }
  pub others : (j : ℕ) → j ≢ at → j ≢ held → node_at ns' j ≡ node_at ns j
  pub len : length ns' ≡ length ns

-- what hangs behind a key of a run has no run beside it
module _ (rs : List ℕ) (ns ns' : List Node) (at held : ℕ) (w : IsHeap rs ns held) (some : held ≢ nil) (t : Hung Next ns ns' at held) where
  own_next : (j : ℕ) → (node_at ns' j).owner ≡ (node_at ns j).owner
  own_next j = elim (cases_eq j at) [
    | inl same ↦ rw (same, t.here) refl
    | inr differs ↦ elim (cases_eq j held) [ inl same ↦ rw (same, t.below) refl | inr later ↦ ap (λ x. x.owner) (t.others j differs later) ]
  ]

  besides : (j : ℕ) → (node_at ns' j).beside ≡ (node_at ns j).beside
  besides j = elim (cases_eq j at) [
    | inl same ↦ rw (same, t.here) refl
    | inr differs ↦ elim (cases_eq j held) [ inl same ↦ rw (same, t.below) refl | inr later ↦ ap (λ x. x.beside) (t.others j differs later) ]
  ]

  next-other : (j : ℕ) → j ≢ at → (node_at ns' j).next ≡ (node_at ns j).next
  next-other j differs = elim (cases_eq j held) [ inl same ↦ rw (same, t.below) refl | inr later ↦ ap (λ x. x.next) (t.others j differs later) ]

  runs-next : (node_at ns held).beside ≡ nil → AreInRuns ns'
  runs-next alone = in_runs ns' (λ j owned more. elim (cases_eq j at) [
    | inl same ↦ let e : (node_at ns' j).next ≡ held = ap (λ i. (node_at ns' i).next) same ∙ ap (λ x. x.next) t.here in rw e (besides held ∙ alone)
    | inr differs ↦
        let e = next-other j differs in
        rw e (besides (node_at ns j).next ∙ inner ns w.runs j (λ z. owned (own_next j ∙ z)) (λ z. more (e ∙ z)))
  ])

  -- and so has the one that was there
  alone-next : (node_at ns at).owner ≢ nil → (node_at ns at).next ≢ nil → (node_at ns' (node_at ns at).next).beside ≡ nil
  alone-next owned more = besides (node_at ns at).next ∙ inner ns w.runs at owned more

-- what hangs beside the first of a run leaves each next as it is
module _ (rs : List ℕ) (ns ns' : List Node) (at held : ℕ) (w : IsHeap rs ns held) (some : held ≢ nil) (t : Hung Beside ns ns' at held) where
  own_beside : (j : ℕ) → (node_at ns' j).owner ≡ (node_at ns j).owner
  own_beside j = elim (cases_eq j at) [
    | inl same ↦ rw (same, t.here) refl
    | inr differs ↦ elim (cases_eq j held) [ inl same ↦ rw (same, t.below) refl | inr later ↦ ap (λ x. x.owner) (t.others j differs later) ]
  ]

  nexts : (j : ℕ) → (node_at ns' j).next ≡ (node_at ns j).next
  nexts j = elim (cases_eq j at) [
    | inl same ↦ rw (same, t.here) refl
    | inr differs ↦ elim (cases_eq j held) [ inl same ↦ rw (same, t.below) refl | inr later ↦ ap (λ x. x.next) (t.others j differs later) ]
  ]

  beside-other : (j : ℕ) → j ≢ at → (node_at ns' j).beside ≡ (node_at ns j).beside
  beside-other j differs = elim (cases_eq j held) [ inl same ↦ rw (same, t.below) refl | inr later ↦ ap (λ x. x.beside) (t.others j differs later) ]

  was_beside : (j : ℕ) → (node_at ns' j).owner ≢ nil → (node_at ns j).owner ≢ nil
  was_beside j owned z = owned (own_beside j ∙ z)

  runs-beside : BeginsRun ns at → AreInRuns ns'
  runs-beside first = in_runs ns' (λ j owned more. rw (nexts j) (
      beside-other (node_at ns j).next (first j (was_beside j owned))
      ∙ inner ns w.runs j (was_beside j owned) (λ z. more (nexts j ∙ z))))

  first-beside : BeginsRun ns' held
  first-beside j owned e = first_held rs ns held w some j (was_beside j owned) (sym (nexts j) ∙ e)

runs-hung : (s : Side) (rs : List ℕ) (ns ns' : List Node) (at held : ℕ) → IsHeap rs ns held → held ≢ nil → Hung s ns ns' at held → (node_at ns at).owner ≢ nil → FitsOn s ns at held → AreInRuns ns'
unfolding FitsOn
runs-hung Next rs ns ns' at held w some t owned alone = runs-next rs ns ns' at held w some t alone
runs-hung Beside rs ns ns' at held w some t owned first = runs-beside rs ns ns' at held w some t first

fits-hung : (s : Side) (rs : List ℕ) (ns ns' : List Node) (at held : ℕ) → IsHeap rs ns held → held ≢ nil → Hung s ns ns' at held → (node_at ns at).owner ≢ nil
    → key_on s (node_at ns at) ≢ nil → FitsOn s ns' held (key_on s (node_at ns at))
unfolding FitsOn
fits-hung Next rs ns ns' at held w some t owned more = alone-next rs ns ns' at held w some t owned more
fits-hung Beside rs ns ns' at held w some t owned more = first-beside rs ns ns' at held w some t

module _ (rs : List ℕ) (ns ns' : List Node) (s : Side) (at held : ℕ) (w : IsSinking s rs ns at held) (some : held ≢ nil) (t : Hung s ns ns' at held) where
  abbrev r : ℕ
  r = key_on s (node_at ns at)

  own : (j : ℕ) → (node_at ns' j).owner ≡ (node_at ns j).owner
  own j = elim (cases_eq j at) [
    | inl same ↦ rw (same, t.here) (owner-with s held (node_at ns at))
    | inr differs ↦ elim (cases_eq j held) [ inl same ↦ rw (same, t.below) refl | inr later ↦ ap (λ x. x.owner) (t.others j differs later) ]
  ]

  pub ranks : (j : ℕ) → (node_at ns' j).rank ≡ (node_at ns j).rank
  ranks j = grind (arith, cases_eq, rank-with)

  up : (j : ℕ) → j ≢ held → (node_at ns' j).above ≡ (node_at ns j).above
  up j later = grind (arith, cases_eq, above-with)

  sides : (j : ℕ) → j ≢ at → ((node_at ns' j).next ≡ (node_at ns j).next) × ((node_at ns' j).beside ≡ (node_at ns j).beside)
  sides j differs = elim (cases_eq j held) [ inl same ↦ rw (same, t.below) (refl, refl) | inr later ↦ rw (t.others j differs later) (refl, refl) ]

  was : (j : ℕ) → (node_at ns' j).owner ≢ nil → (node_at ns j).owner ≢ nil
  was j owned z = owned (own j ∙ z)

  on_here : key_on s (node_at ns' at) ≡ held
  on_here = ap (key_on s) t.here ∙ here-with s held (node_at ns at)

  on_other : key_on (other s) (node_at ns' at) ≡ key_on (other s) (node_at ns at)
  on_other = ap (key_on (other s)) t.here ∙ other-with s held (node_at ns at)

  -- who is below a key now: the held one, or one that was
  back : (j k : ℕ) → HasBelow ns' j k → ((j ≡ at) × (k ≡ held)) ⊎ (HasBelow ns j k × (j ≡ at → key_on (other s) (node_at ns at) ≡ k))
  back j k b = elim (cases_eq j at) [
    | inl same ↦ grind (arith, split, on_here, on_other, whole)
    | inr differs ↦ let d = sides j differs in inr (rw (d.0, d.1) at b, λ z. absurd (differs z))
  ]

  into : (j k : ℕ) → HasBelow ns j k → k ≢ r → HasBelow ns' j k
  into j k b away = grind (arith, cases_eq, whole, split, on_other, sides)

  r_down : r ≢ nil → ((node_at ns r).owner ≡ (node_at ns at).owner) × ((node_at ns r).above ≡ at) × (r ≢ held) × (root_at rs (node_at ns r).owner ≢ r)
  r_down more = w.heap.tree.down at r (w.owned some) more (side-below s (node_at ns at))

  held_away : root_at rs (node_at ns held).owner ≢ held
  held_away z = (w.heap.tree.tops (node_at ns held).owner (λ y. some (sym z ∙ y))).1 z

  hung_tree : IsHeapTree rs ns' r
  hung_tree = record {
    above = grind (arith, cases_eq, own, ranks, whole, on_here, was, up, into);
    tops = grind (arith, own, r_down);
    down = λ j k owned there b. elim (back j k b) [
      | inl new ↦ grind (arith, own, r_down, held_away)
      | inr old ↦ grind (arith, was, own, up, r_down, apart-with)
    ];
    apart = grind (arith, cases_eq, whole, on_other, on_here, differ-with, sides, was);
  }

  pub IsSinking-hung : (r ≢ nil → (node_at ns held).rank < (node_at ns r).rank) → IsSinking s rs ns' held r
  IsSinking-hung less = record {
    heap = record {
      ranked = AreRanked-kept rs rs ns ns' w.heap.ranked own ranks t.len refl;
      tree = hung_tree;
      runs = runs-hung s rs ns ns' at held w.heap some t (w.owned some) (w.fits some);
    };
    owned = λ _ z. w.owned some (sym (w.same some) ∙ sym (own held) ∙ z);
    same = λ more. own r ∙ (r_down more).0 ∙ sym (w.same some) ∙ sym (own held);
    lower = λ more. let lt = less more in omega (arith, ranks held, ranks r, lt);
    fits = fits-hung s rs ns ns' at held w.heap some t (w.owned some);
  }

  pub higher-hung : (node_at ns at).rank < (node_at ns' held).rank
  higher-hung = let lt = w.lower some in omega (arith, ranks held, lt)

  -- a key of the same owner has a rank of its own
  pub less-hung : (r ≢ nil → (node_at ns r).rank < (node_at ns held).rank → ⊥) → r ≢ nil → (node_at ns held).rank < (node_at ns r).rank
  less-hung not more = grind (arith, r_down)

pub held_within : (s : Side) (rs : List ℕ) (ns : List Node) (at held : ℕ) → IsSinking s rs ns at held → held ≢ nil → held < length ns
held_within s rs ns at held w some = within ns held (λ z. w.owned some (sym (w.same some) ∙ z))

pub held_apart : (s : Side) (rs : List ℕ) (ns : List Node) (at held : ℕ) → IsSinking s rs ns at held → held ≢ nil → held ≢ at
held_apart s rs ns at held w some z = let lt = w.lower some in let e = ap (λ k. (node_at ns k).rank) z in omega (arith, lt, e)

-- what the code writes, where the held key is hung
module _ (rs : List ℕ) (ns : List Node) (s : Side) (at held : ℕ) (x z : Node) (w : IsSinking s rs ns at held) (some : held ≢ nil)
    (ex : x ≡ with_side s held (node_at ns at)) (ez : z ≡ slice_index_or (set ns at x) held z) where
  abbrev mid : List Node
  mid = set ns at x

  abbrev last : List Node
  last = set mid held (record { owner = z.owner; rank = z.rank; above = at; next = z.next; beside = z.beside; level = z.level })

  lt : at < length ns
  lt = within ns at (w.owned some)

  in_mid : held < length mid
  in_mid = rw (length-set ns at x) (held_within s rs ns at held w some)

  z_mid : z ≡ node_at mid held
  z_mid = node_is mid held z in_mid ez

  z_is : z ≡ node_at ns held
  z_is = z_mid ∙ get_or-set_other ns at held x blank (held_apart s rs ns at held w some)

  hung : Hung s ns last at held
  hung = grind (arith, get_or-set_other, held_apart, get_or-set_same, lt, in_mid, z_is, length-set)

  pub step-hung : (key_on s (node_at ns at) ≢ nil → (node_at ns (key_on s (node_at ns at))).rank < (node_at ns held).rank → ⊥)
      → IsSinking s rs last held (key_on s (node_at ns at))
  step-hung not = IsSinking-hung rs ns last s at held w some hung (less-hung rs ns last s at held w some hung not)

  pub step-ranks : (j : ℕ) → (node_at last j).rank ≡ (node_at ns j).rank
  step-ranks = ranks rs ns last s at held w some hung

  pub step-higher : (node_at ns at).rank < (node_at last held).rank
  step-higher = higher-hung rs ns last s at held w some hung

  -- no owner and no rank changes
  pub step-members : map member_in last ≡ map member_in ns
  step-members = grind (arith, map-set_same, z_mid, member-with)

-- what a rank that was read says: it is the key's, and lower than another only where the key is there
pub rank_read : (ns xs : List Node) (k rank : ℕ) → xs ≡ ns → k < length ns → (k < length xs → rank ≡ (node_at xs k).rank) → rank ≡ (node_at ns k).rank
rank_read ns xs k rank same lt there = rw same at there lt

pub rank_there : (ns xs : List Node) (k rank most : ℕ) → xs ≡ ns → length ns ≤ nil → most ≤ nil → rank < most → (length xs ≤ k → rank ≡ nil) → (k ≢ nil) × (k < length ns)
rank_there ns xs k rank most same few fits lower none = grind (arith, cases_lt)
