-- Taking a key out of its place: one of its sides comes there, and the key itself or its other side is held.
use Rattle.std.proofs.Common.{◌≡◌, ◌≢◌, ◌⊎◌, inl, inr, ℕ, ◌<◌, List, length, set, refl, sym, subst, ap, ◌∙◌, arith}
use Rattle.std.proofs.lemmas.Bool.{cases_eq}
use Rattle.std.proofs.lemmas.List.{get_or_past, get_or-set_same, get_or-set_other, length-set}
use Rattle.member_queues.specs.declared.Node.{Node}
use Rattle.member_queues.specs.declared.Side.TheVariants.{Beside}
use Rattle.member_queues.specs.Heap.{nil, blank, node_at, root_at, HasBelow, AreSides, AreRanked, AreInRuns, IsHeapTree, IsHeap, IsSinking}
use Rattle.member_queues.proofs.Trees.{within, is_some, side_after, inner, in_runs, fits_beside, AreRanked-kept}

-- what taking a key k out of its place makes of the roots and the other nodes, where b comes there
pub record Spliced (rs rs' : List ℕ) (ns ns' : List Node) (k b : ℕ) : Type 0 where
  pub own : (j : ℕ) → j ≢ k → (node_at ns' j).owner ≡ (node_at ns j).owner
  pub ranks : (j : ℕ) → (node_at ns' j).rank ≡ (node_at ns j).rank
  pub above_b : b ≢ nil → (node_at ns' b).above ≡ (node_at ns k).above
  pub above : (j : ℕ) → j ≢ k → j ≢ b → (node_at ns' j).above ≡ (node_at ns j).above
  pub root : root_at rs (node_at ns k).owner ≡ k → root_at rs' (node_at ns k).owner ≡ b
  pub roots : (p : ℕ) → (root_at rs (node_at ns k).owner ≢ k) ⊎ (p ≢ (node_at ns k).owner) → root_at rs' p ≡ root_at rs p
  pub next : root_at rs (node_at ns k).owner ≢ k → (node_at ns (node_at ns k).above).next ≡ k
      → ((node_at ns' (node_at ns k).above).next ≡ b) × ((node_at ns' (node_at ns k).above).beside ≡ (node_at ns (node_at ns k).above).beside)
  pub beside : root_at rs (node_at ns k).owner ≢ k → (node_at ns (node_at ns k).above).next ≢ k
      → ((node_at ns' (node_at ns k).above).next ≡ (node_at ns (node_at ns k).above).next) × ((node_at ns' (node_at ns k).above).beside ≡ b)
  pub sides : (j : ℕ) → j ≢ k → (root_at rs (node_at ns k).owner ≡ k) ⊎ (j ≢ (node_at ns k).above)
      → ((node_at ns' j).next ≡ (node_at ns j).next) × ((node_at ns' j).beside ≡ (node_at ns j).beside)
  pub len : length ns' ≡ length ns
  pub rooms : length rs' ≡ length rs

-- a key that is to go, and its two sides
module _ (rs : List ℕ) (ns : List Node) (k b o : ℕ) (w : IsHeap rs ns nil) (owned : (node_at ns k).owner ≢ nil) (both : AreSides (node_at ns k) b o) where
  abbrev u : ℕ
  u = (node_at ns k).above

  abbrev p : ℕ
  p = (node_at ns k).owner

  k_some : k ≢ nil
  k_some = is_some ns k w.ranked.few owned

  b_below : HasBelow ns k b
  b_below = elim both [ inl s ↦ inl s.0 | inr s ↦ inr s.1 ]

  o_below : HasBelow ns k o
  o_below = elim both [ inl s ↦ inr s.1 | inr s ↦ inl s.0 ]

  b_down : b ≢ nil → ((node_at ns b).owner ≡ p) × ((node_at ns b).above ≡ k) × (b ≢ nil) × (root_at rs (node_at ns b).owner ≢ b)
  b_down some = w.tree.down k b owned some b_below

  o_down : o ≢ nil → ((node_at ns o).owner ≡ p) × ((node_at ns o).above ≡ k) × (o ≢ nil) × (root_at rs (node_at ns o).owner ≢ o)
  o_down some = w.tree.down k o owned some o_below

  b_not_o : b ≢ nil → b ≢ o
  b_not_o some e = grind arith

  only : (j : ℕ) → HasBelow ns k j → (j ≡ b) ⊎ (j ≡ o)
  only j below = grind arith

  b_higher : b ≢ nil → (node_at ns k).rank < (node_at ns b).rank
  b_higher some = (side_after rs ns nil k b w owned some b_below).1

  o_higher : o ≢ nil → (node_at ns k).rank < (node_at ns o).rank
  o_higher some = (side_after rs ns nil k o w owned some o_below).1

  pub b_not_k : b ≢ nil → b ≢ k
  b_not_k some e = let lt = b_higher some in let same = ap (λ i. (node_at ns i).rank) e in omega (arith, lt, same)

  pub o_not_k : o ≢ nil → o ≢ k
  o_not_k some e = let lt = o_higher some in let same = ap (λ i. (node_at ns i).rank) e in omega (arith, lt, same)

  u_up : root_at rs p ≢ k → ((node_at ns u).owner ≡ p) × ((node_at ns u).rank < (node_at ns k).rank) × HasBelow ns u k
  u_up = w.tree.above k owned k_some

  pub u_not_k : root_at rs p ≢ k → u ≢ k
  u_not_k away e = let lt = (u_up away).1 in let same = ap (λ i. (node_at ns i).rank) e in omega (arith, lt, same)

  module _ (rs' : List ℕ) (ns' : List Node) (f : Spliced rs rs' ns ns' k b) where
    was : (j : ℕ) → j ≢ k → (node_at ns' j).owner ≢ nil → (node_at ns j).owner ≢ nil
    was j gone mine z = mine (f.own j gone ∙ z)

    there : (j : ℕ) → j ≢ k → (node_at ns' j).owner ≢ nil → j ≢ nil
    there j gone mine = is_some ns j w.ranked.few (was j gone mine)

    -- who is below a key now: b below the one that was over k, or one that was
    back : (j m : ℕ) → j ≢ k → (node_at ns' j).owner ≢ nil → m ≢ nil → HasBelow ns' j m → ((m ≡ b) × (j ≡ u) × (root_at rs p ≢ k)) ⊎ (HasBelow ns j m × (m ≢ k))
    back j m gone mine some below = elim (cases_eq (root_at rs p) k) [
      | inl first ↦ grind (arith, was)
      | inr away ↦ elim (cases_eq j u) [
        | inr differs ↦ grind (arith, was)
        | inl same ↦ grind (arith, was, cases_eq, k_some)
      ]
    ]

    -- who was below a key still is, but for k
    into : (j m : ℕ) → j ≢ k → m ≢ k → HasBelow ns j m → HasBelow ns' j m
    into j m other differs below = grind (arith, cases_eq, u_up)

    b_into : root_at rs p ≢ k → HasBelow ns' u b
    b_into away = elim (cases_eq (node_at ns u).next k) [ inl at ↦ inl (f.next away at).0 | inr at ↦ inr (f.beside away at).1 ]

    -- an owner that has its root as before, or k's, which b is
    roots_now : (q : ℕ) → ((root_at rs p ≡ k) × (q ≡ p) × (root_at rs' q ≡ b)) ⊎ (((root_at rs p ≢ k) ⊎ (q ≢ p)) × (root_at rs' q ≡ root_at rs q))
    roots_now q = grind (arith, cases_eq)

    -- k is no root but its owner's
    root_not_k : (q : ℕ) → root_at rs q ≢ nil → (root_at rs p ≢ k) ⊎ (q ≢ p) → root_at rs q ≢ k
    root_not_k q some out z = grind arith

    -- what ranks above its owner's root is none
    still_away : (m : ℕ) → m ≢ k → m ≢ b → root_at rs (node_at ns m).owner ≢ m → root_at rs' (node_at ns' m).owner ≢ m
    still_away m gone differs away z = grind (arith, roots_now)

    was_away : (j : ℕ) → j ≢ k → root_at rs' (node_at ns' j).owner ≢ j → root_at rs (node_at ns j).owner ≢ j
    was_away j gone away z = grind (arith, roots_now)

    b_root : (j : ℕ) → j ≡ b → b ≢ nil → root_at rs' (node_at ns' j).owner ≢ j → root_at rs p ≢ k
    b_root j same some away first = grind (arith, b_not_k, b_down)

    up_spliced : (j : ℕ) → j ≢ k → (node_at ns' j).owner ≢ nil → j ≢ o → root_at rs' (node_at ns' j).owner ≢ j
        → ((node_at ns' (node_at ns' j).above).owner ≡ (node_at ns' j).owner)
        × ((node_at ns' (node_at ns' j).above).rank < (node_at ns' j).rank) × HasBelow ns' (node_at ns' j).above j
    up_spliced j gone mine free away = elim (cases_eq j b) [
      | inl same ↦ grind (arith, there, b_root, u_up, u_not_k, b_down, b_not_k, b_higher, b_into)
      | inr differs ↦
          let e = f.above j gone differs in
          let m = (node_at ns j).above in
          let a = w.tree.above j (was j gone mine) (there j gone mine) (was_away j gone away) in
          let m_not_k : m ≢ k = λ z. let below : HasBelow ns k j = rw z at a.2 in elim (only j below) [ inl y ↦ differs y | inr y ↦ free y ] in
          rw e (
            f.own m m_not_k ∙ a.0 ∙ sym (f.own j gone),
            (let r1 = f.ranks m in let r2 = f.ranks j in omega (arith, r1, r2, a.1)),
            into m j m_not_k gone a.2,
          )
    ]

    tops_spliced : (q : ℕ) → root_at rs' q ≢ nil → ((node_at ns' (root_at rs' q)).owner ≡ q) × (root_at rs' q ≢ o) × (root_at rs' q ≢ k)
    tops_spliced q some = grind (arith, roots_now, b_not_k, b_down, b_not_o, root_not_k, o_down)

    down_spliced : (j m : ℕ) → j ≢ k → (node_at ns' j).owner ≢ nil → m ≢ nil → HasBelow ns' j m
        → ((node_at ns' m).owner ≡ (node_at ns' j).owner) × ((node_at ns' m).above ≡ j) × (m ≢ o) × (m ≢ k) × (root_at rs' (node_at ns' m).owner ≢ m)
    down_spliced j m gone mine some below = elim (back j m gone mine some below) [
      | inl new ↦ grind (arith, b_down, b_not_k, u_up, u_not_k, b_not_o)
      | inr old ↦ grind (arith, was, b_down, o_down, still_away)
    ]

    apart_spliced : (j : ℕ) → j ≢ k → (node_at ns' j).owner ≢ nil → (node_at ns' j).next ≢ nil → (node_at ns' j).next ≢ (node_at ns' j).beside
    apart_spliced j gone mine = grind (arith, cases_eq, was, u_not_k, b_down)

    -- where the key was the next of another, b is now, and no other next is new
    next_was : (j : ℕ) → j ≢ k → (((node_at ns j).next ≡ k) × ((node_at ns' j).next ≡ b)) ⊎ ((node_at ns' j).next ≡ (node_at ns j).next)
    next_was j gone = elim (cases_eq (root_at rs p) k) [
      | inl first ↦ inr (f.sides j gone (inl first)).0
      | inr away ↦ elim (cases_eq j u) [
        | inr differs ↦ inr (f.sides j gone (inr differs)).0
        | inl same ↦ elim (cases_eq (node_at ns u).next k) [
          | inl at ↦ rw same (inl (at, (f.next away at).0))
          | inr at ↦ rw same (inr (f.beside away at).0)
        ]
      ]
    ]

    -- who had no run beside it has none
    alone_still : (m : ℕ) → m ≢ k → (node_at ns m).beside ≡ nil → (node_at ns' m).beside ≡ nil
    alone_still m gone none = elim (cases_eq (root_at rs p) k) [
      | inl first ↦ (f.sides m gone (inl first)).1 ∙ none
      | inr away ↦ elim (cases_eq m u) [
        | inr differs ↦ (f.sides m gone (inr differs)).1 ∙ none
        | inl same ↦ elim (cases_eq (node_at ns u).next k) [
          | inl at ↦ rw same ((f.next away at).1 ∙ ap (λ i. (node_at ns i).beside) (sym same) ∙ none)
          | inr at ↦ absurd (elim (u_up away).2 [ inl e ↦ at e | inr e ↦ k_some (sym e ∙ ap (λ i. (node_at ns i).beside) (sym same) ∙ none) ])
        ]
      ]
    ]

    -- the next of another has no run beside it
    k_inner : (j : ℕ) → (node_at ns j).owner ≢ nil → (node_at ns j).next ≡ k → (node_at ns k).beside ≡ nil
    k_inner j mine e = rw e at (inner ns w.runs j mine (λ z. k_some (sym e ∙ z)))

    b_inner : (node_at ns k).beside ≡ nil → b ≢ nil → (node_at ns b).beside ≡ nil
    b_inner none some = elim both [
      | inl s ↦ rw s.0 at (inner ns w.runs k owned (λ z. some (sym s.0 ∙ z)))
      | inr s ↦ absurd (some (sym s.1 ∙ none))
    ]

    never_k : (j : ℕ) → j ≢ k → (node_at ns' j).owner ≢ nil → (node_at ns' j).next ≢ k
    never_k j gone mine e = elim (back j k gone mine k_some (inl e)) [ inl new ↦ b_not_k (λ z. k_some (new.0 ∙ z)) (sym new.0) | inr old ↦ old.1 refl ]

    inner_spliced : (j : ℕ) → j ≢ k → (node_at ns' j).owner ≢ nil → (node_at ns' j).next ≢ nil → (node_at ns' (node_at ns' j).next).beside ≡ nil
    inner_spliced j gone mine more = elim (next_was j gone) [
      | inl came ↦
          let some : b ≢ nil = λ z. more (came.1 ∙ z) in
          rw came.1 (alone_still b (b_not_k some) (b_inner (k_inner j (was j gone mine) came.0) some))
      | inr same ↦
          let away : (node_at ns j).next ≢ k = λ z. never_k j gone mine (same ∙ z) in
          rw same (alone_still (node_at ns j).next away (inner ns w.runs j (was j gone mine) (λ z. more (same ∙ z))))
    ]

    -- where the key had two sides, b is the first of a run now
    first_spliced : o ≢ nil → b ≢ nil → (j : ℕ) → j ≢ k → (node_at ns' j).owner ≢ nil → (node_at ns' j).next ≢ b
    first_spliced more some j gone mine e = elim (next_was j gone) [
      | inl came ↦
          let none = k_inner j (was j gone mine) came.0 in
          elim both [ inl s ↦ more (sym s.1 ∙ none) | inr s ↦ some (sym s.1 ∙ none) ]
      | inr same ↦ gone (sym (w.tree.down j b (was j gone mine) some (inl (sym same ∙ e))).1 ∙ (b_down some).1)
    ]

    -- the key has no owner, and its other side is held
    module _ (here : (node_at ns' k).owner ≡ nil) where
      gone : (j : ℕ) → (node_at ns' j).owner ≢ nil → j ≢ k
      gone j mine e = mine (ap (λ i. (node_at ns' i).owner) e ∙ here)

      tree_filled : IsHeapTree rs' ns' o
      tree_filled = record {
        above = λ j mine free away. up_spliced j (gone j mine) mine free away;
        tops = λ q some. let t = tops_spliced q some in (t.0, t.1);
        down = λ j m mine some below. let d = down_spliced j m (gone j mine) mine some below in (d.0, d.1, d.2, d.4);
        apart = λ j mine. apart_spliced j (gone j mine) mine;
      }

      ranked_filled : AreRanked rs' ns'
      ranked_filled = record {
        few = omega (arith, f.len, w.ranked.few);
        rooms = omega (arith, f.len, f.rooms, w.ranked.rooms);
        fits = λ j. rw (f.ranks j) (w.ranked.fits j);
        known = λ j mine. rw (f.own j (gone j mine)) (let lt = w.ranked.known j (was j (gone j mine) mine) in omega (arith, lt, f.rooms));
        distinct = λ j m mine same e.
            let mine_m : (node_at ns' m).owner ≢ nil = λ z. mine (same ∙ z) in
            w.ranked.distinct j m (was j (gone j mine) mine) (sym (f.own j (gone j mine)) ∙ same ∙ f.own m (gone m mine_m)) (sym (f.ranks j) ∙ e ∙ f.ranks m);
      }

      pub IsSinking-filled : (o ≢ nil → (b ≢ nil) × ((node_at ns b).rank < (node_at ns o).rank)) → IsSinking Beside rs' ns' b o
      IsSinking-filled order = record {
        heap = record { ranked = ranked_filled; tree = tree_filled; runs = in_runs ns' (λ j mine. inner_spliced j (gone j mine) mine) };
        owned = grind (arith, b_down, b_not_k);
        same = grind (arith, b_down, b_not_k, o_not_k, o_down);
        lower = grind (arith, b_not_k, o_not_k);
        fits = λ more. fits_beside ns' b o (λ j mine. first_spliced more (order more).0 j (gone j mine) mine);
      }

    -- the key keeps its owner and its other side, and is held
    module _ (mine : (node_at ns' k).owner ≡ p) (left : (m : ℕ) → m ≢ nil → HasBelow ns' k m → m ≡ o) (has : o ≢ nil → HasBelow ns' k o)
        (one : (node_at ns' k).next ≢ nil → (node_at ns' k).next ≢ (node_at ns' k).beside) (behind : (node_at ns k).next ≡ o) where
      own_all : (j : ℕ) → (node_at ns' j).owner ≡ (node_at ns j).owner
      own_all j = elim (cases_eq j k) [ inl same ↦ rw same mine | inr differs ↦ f.own j differs ]

      o_not_b : o ≢ nil → o ≢ b
      o_not_b some z = b_not_o (λ y. some (z ∙ y)) (sym z)

      o_above : o ≢ nil → (node_at ns' o).above ≡ k
      o_above some = f.above o (o_not_k some) (o_not_b some) ∙ (o_down some).1

      o_owner : o ≢ nil → (node_at ns' o).owner ≡ (node_at ns' k).owner
      o_owner some = f.own o (o_not_k some) ∙ (o_down some).0 ∙ sym mine

      k_inner_cut : (node_at ns' k).next ≢ nil → (node_at ns' (node_at ns' k).next).beside ≡ nil
      k_inner_cut more =
          let e : (node_at ns' k).next ≡ o = left (node_at ns' k).next more (inl refl) in
          let there : o ≢ nil = λ z. more (e ∙ z) in
          rw e (alone_still o (o_not_k there) (rw behind at (inner ns w.runs k owned (λ z. there (sym behind ∙ z)))))

      tree_cut : IsHeapTree rs' ns' k
      tree_cut = record {
        above = grind (arith, cases_eq, up_spliced, there, o_above, o_owner, o_higher);
        tops = λ q some. let t = tops_spliced q some in (t.0, t.2);
        down = λ j m owned' some below. elim (cases_eq j k) [
          | inr differs ↦ let d = down_spliced j m differs owned' some below in (d.0, d.1, d.3, d.4)
          | inl same ↦
              let e : m ≡ o = left m some (rw same at below) in
              let here : o ≢ nil = λ z. some (e ∙ z) in
              rw (e, same) (o_owner here, o_above here, o_not_k here, still_away o (o_not_k here) (o_not_b here) (o_down here).3)
        ];
        apart = λ j owned'. elim (cases_eq j k) [ inl same ↦ rw same one | inr differs ↦ apart_spliced j differs owned' ];
      }

      runs_cut : AreInRuns ns'
      runs_cut = in_runs ns' (λ j owned' more. elim (cases_eq j k) [
        | inr differs ↦ inner_spliced j differs owned' more
        | inl same ↦ rw same (k_inner_cut (λ z. more (ap (λ i. (node_at ns' i).next) same ∙ z)))
      ])

      pub IsHeap-cut : IsHeap rs' ns' k
      IsHeap-cut = record { ranked = AreRanked-kept rs rs' ns ns' w.ranked own_all f.ranks f.len f.rooms; tree = tree_cut; runs = runs_cut }

-- what the code writes at the other keys, before it writes k's own node
module _ (rs rs' : List ℕ) (ns n1 n2 : List Node) (k b o : ℕ) (l x : Node) (w : IsHeap rs ns nil) (owned : (node_at ns k).owner ≢ nil) (both : AreSides (node_at ns k) b o)
    (is : l ≡ node_at ns k)
    (root : root_at rs l.owner ≡ k → root_at rs' l.owner ≡ b)
    (roots : (q : ℕ) → (root_at rs l.owner ≢ k) ⊎ (q ≢ l.owner) → root_at rs' q ≡ root_at rs q)
    (next : root_at rs l.owner ≢ k → (node_at ns l.above).next ≡ k → node_at n1 l.above ≡ record (node_at ns l.above) { next = b })
    (beside : root_at rs l.owner ≢ k → (node_at ns l.above).next ≢ k → node_at n1 l.above ≡ record (node_at ns l.above) { beside = b })
    (others : (j : ℕ) → (root_at rs l.owner ≡ k) ⊎ (j ≢ l.above) → node_at n1 j ≡ node_at ns j)
    (len1 : length n1 ≡ length ns) (rooms : length rs' ≡ length rs)
    (here : b ≢ nil → node_at n2 b ≡ record (node_at n1 b) { above = l.above })
    (later : (j : ℕ) → j ≢ b → node_at n2 j ≡ node_at n1 j)
    (len2 : length n2 ≡ length n1)
    (ex : x.rank ≡ (node_at n2 k).rank) where
  abbrev last : List Node
  last = set n2 k x

  up_is : l.above ≡ (node_at ns k).above
  up_is = ap (λ (y : Node). y.above) is

  owner_is : l.owner ≡ (node_at ns k).owner
  owner_is = ap (λ (y : Node). y.owner) is

  key : k < length n2
  key = let lt = within ns k owned in omega (arith, lt, len1, len2)

  root' : root_at rs (node_at ns k).owner ≡ k → root_at rs l.owner ≡ k
  root' e = ap (root_at rs) owner_is ∙ e

  away' : root_at rs (node_at ns k).owner ≢ k → root_at rs l.owner ≢ k
  away' far e = far (ap (root_at rs) (sym owner_is) ∙ e)

  at_1 : (j : ℕ) → ((node_at n1 j).owner ≡ (node_at ns j).owner) × ((node_at n1 j).rank ≡ (node_at ns j).rank) × ((node_at n1 j).above ≡ (node_at ns j).above)
  at_1 j = elim (cases_eq (root_at rs l.owner) k) [
    | inl first ↦ rw (others j (inl first)) (refl, refl, refl)
    | inr away ↦ grind (arith, cases_eq)
  ]

  at_2 : (j : ℕ) → ((node_at n2 j).owner ≡ (node_at n1 j).owner) × ((node_at n2 j).rank ≡ (node_at n1 j).rank)
      × ((node_at n2 j).next ≡ (node_at n1 j).next) × ((node_at n2 j).beside ≡ (node_at n1 j).beside)
  at_2 j = elim (cases_eq j b) [
    | inr differs ↦ rw (later j differs) (refl, refl, refl, refl)
    | inl same ↦ elim (cases_eq b nil) [
      | inl none ↦ rw (past j (same ∙ none)) (refl, refl, refl, refl)
      | inr some ↦ rw (same, here some) (refl, refl, refl, refl)
    ]
  ]
    where
      past : (j : ℕ) → j ≡ nil → node_at n2 j ≡ node_at n1 j
      past j e = grind (arith, get_or_past)

  at_k : node_at last k ≡ x
  at_k = get_or-set_same n2 k x blank key

  at_other : (j : ℕ) → j ≢ k → node_at last j ≡ node_at n2 j
  at_other j differs = get_or-set_other n2 k j x blank differs

  at_u : root_at rs (node_at ns k).owner ≢ k → node_at last (node_at ns k).above ≡ node_at n2 (node_at ns k).above
  at_u away = at_other (node_at ns k).above (u_not_k rs ns k b o w owned both away)

  next_u : root_at rs (node_at ns k).owner ≢ k → (node_at ns (node_at ns k).above).next ≡ k → node_at n1 (node_at ns k).above ≡ record (node_at ns (node_at ns k).above) { next = b }
  next_u away = let P : ℕ → Type 0 = λ a. (node_at ns a).next ≡ k → node_at n1 a ≡ record (node_at ns a) { next = b } in subst P up_is (next (away' away))

  beside_u : root_at rs (node_at ns k).owner ≢ k → (node_at ns (node_at ns k).above).next ≢ k → node_at n1 (node_at ns k).above ≡ record (node_at ns (node_at ns k).above) { beside = b }
  beside_u away = let P : ℕ → Type 0 = λ a. (node_at ns a).next ≢ k → node_at n1 a ≡ record (node_at ns a) { beside = b } in subst P up_is (beside (away' away))

  out : (j : ℕ) → (root_at rs (node_at ns k).owner ≡ k) ⊎ (j ≢ (node_at ns k).above) → (root_at rs l.owner ≡ k) ⊎ (j ≢ l.above)
  out j given = grind (arith, root', up_is)

  Spliced-set : Spliced rs rs' ns last k b
  Spliced-set = record {
    own = λ j differs. ap (λ (y : Node). y.owner) (at_other j differs) ∙ (at_2 j).0 ∙ (at_1 j).0;
    ranks = grind (arith, cases_eq, at_k, at_2, at_1, at_other);
    above_b = λ some. ap (λ (y : Node). y.above) (at_other b (b_not_k rs ns k b o w owned both some)) ∙ ap (λ (y : Node). y.above) (here some) ∙ up_is;
    above = λ j differs far. ap (λ (y : Node). y.above) (at_other j differs) ∙ ap (λ (y : Node). y.above) (later j far) ∙ (at_1 j).2;
    root = λ first. ap (root_at rs') (sym owner_is) ∙ root (root' first);
    roots = λ q far. roots q (elim far [ inl away ↦ inl (away' away) | inr other ↦ inr (λ y. other (y ∙ owner_is)) ]);
    next = grind (arith, next_u, at_u, at_2);
    beside = grind (arith, beside_u, at_u, at_2);
    sides = grind (arith, out, at_other, at_2);
    len = length-set n2 k x ∙ len2 ∙ len1;
    rooms = rooms;
  }

  -- what k's own node still says
  own_k : (node_at n2 k).owner ≡ (node_at ns k).owner
  own_k = (at_2 k).0 ∙ (at_1 k).0

  next_k : (node_at n2 k).next ≡ (node_at ns k).next
  next_k = elim (cases_eq (root_at rs (node_at ns k).owner) k) [
    | inl first ↦ (at_2 k).2 ∙ ap (λ (y : Node). y.next) (others k (inl (root' first)))
    | inr away ↦ (at_2 k).2 ∙ ap (λ (y : Node). y.next) (others k (inr (λ z. u_not_k rs ns k b o w owned both away (sym (z ∙ up_is)))))
  ]

  pub written : Spliced rs rs' ns last k b × (node_at last k ≡ x) × ((node_at n2 k).owner ≡ (node_at ns k).owner) × ((node_at n2 k).next ≡ (node_at ns k).next)
  written = (Spliced-set, at_k, own_k, next_k)

-- a side of a key, where there is one
pub side_within : (rs : List ℕ) (ns : List Node) (k m : ℕ) → IsHeap rs ns nil → (node_at ns k).owner ≢ nil → HasBelow ns k m → m ≢ nil → m < length ns
side_within rs ns k m w owned below some = within ns m (λ z. owned (sym (w.tree.down k m owned some below).0 ∙ z))

pub by_within : (rs : List ℕ) (ns : List Node) (k b o : ℕ) → IsHeap rs ns nil → (node_at ns k).owner ≢ nil → AreSides (node_at ns k) b o → b ≢ nil → b < length ns
by_within rs ns k b o w owned both some = side_within rs ns k b w owned (elim both [ inl s ↦ inl s.0 | inr s ↦ inr s.1 ]) some

-- a next key that does not come before the one beside comes after it
pub after_beside : (rs : List ℕ) (ns : List Node) (k : ℕ) (l : Node) → IsHeap rs ns nil → (node_at ns k).owner ≢ nil → l ≡ node_at ns k
    → ((l.next ≢ nil) × (l.beside ≢ nil → (node_at ns l.next).rank < (node_at ns l.beside).rank) → ⊥)
    → l.next ≢ nil → (l.beside ≢ nil) × ((node_at ns l.beside).rank < (node_at ns l.next).rank)
after_beside rs ns k l w owned is not some = grind arith
