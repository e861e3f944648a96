-- A walk from an owner's least member along the runs meets each of its members once.
use Rattle.std.proofs.Common.{◌≡◌, ◌≢◌, ◌⊎◌, inl, inr, ℕ, zero, suc, ◌+◌, ◌<◌, ◌≤◌, ◌==◌, List, [], ◌∷◌, length, Some, refl, sym, ap, subst, ◌∙◌, arith, map}
use Rattle.std.specs.List.{AllByRecursion, IsDistinct}
use Rattle.std.proofs.lemmas.Bool.{cases_eq}
use Rattle.std.proofs.lemmas.List.{get_or_past}
use Rattle.member_lists.proofs.Distinct.{apart-all, none_of, few_below}
use Rattle.member_lists.proofs.Owners.{times-cons, times-here, times-later}
use Rattle.member_lists.specs.Owners.{times}
use Rattle.member_queues.specs.declared.Node.{Node}
use Rattle.member_queues.specs.Ranks.{holder, AreRankedMembers}
use Rattle.member_queues.specs.Heap.{nil, blank, node_at, root_at, member_in, walk, run_after, key_after, WalkEnds, BeginsRun, IsHeap}
use Rattle.member_queues.proofs.Trees.{within, next_once, first_beside, first_root, side_after, inner, member_owner, owner_member}

module _ (ns : List Node) where
  abbrev next : ℕ → ℕ
  next k = (node_at ns k).next

  abbrev beside : ℕ → ℕ
  beside k = (node_at ns k).beside

  walk-nil : (run k n : ℕ) → k ≡ nil → walk ns run k n ≡ []
  walk-nil run k zero none = refl
  walk-nil run k (suc n) none = grind arith

  walk-some : (run k n : ℕ) → k ≢ nil → walk ns run k (suc n) ≡ k ∷ walk ns (run_after ns run k) (key_after ns run k) n
  walk-some run k n some = grind arith

  walk-more : (run k n : ℕ) → WalkEnds ns run k n → walk ns run k (suc n) ≡ walk ns run k n
  walk-more run k zero none = walk-nil run k (suc zero) none
  walk-more run k (suc n) ends = elim (cases_eq k nil) [
    | inl none ↦ walk-nil run k (suc (suc n)) none ∙ sym (walk-nil run k (suc n) none)
    | inr some ↦ walk-some run k (suc n) some ∙ ap (λ xs. k ∷ xs) (walk-more (run_after ns run k) (key_after ns run k) n (ends some).2) ∙ sym (walk-some run k n some)
  ]

  ends-more : (run k n : ℕ) → WalkEnds ns run k n → WalkEnds ns run k (suc n)
  ends-more run k zero none = λ some. absurd (some none)
  ends-more run k (suc n) ends = λ some. ((ends some).0, (ends some).1, ends-more (run_after ns run k) (key_after ns run k) n (ends some).2)

  -- one step of a walk
  pub record Step (run k n : ℕ) : Type 0 where
    pub inside : k < length ns
    pub run_inside : run < length ns
    pub ends : WalkEnds ns (run_after ns run k) (key_after ns run k) n
    pub rest : walk ns run k n ≡ k ∷ walk ns (run_after ns run k) (key_after ns run k) n

  pub step : (run k n : ℕ) → WalkEnds ns run k n → k ≢ nil → Step run k n
  step run k zero none some = absurd (some none)
  step run k (suc n) ends some =
      let e = ends some in
      record {
        inside = e.0;
        run_inside = e.1;
        ends = ends-more (run_after ns run k) (key_after ns run k) n e.2;
        rest = walk-some run k n some ∙ ap (λ xs. k ∷ xs) (sym (walk-more (run_after ns run k) (key_after ns run k) n e.2));
      }

  pub over : (run k n : ℕ) → k ≡ nil → walk ns run k n ≡ []
  over = walk-nil

  -- where the walk goes behind a key: on in the run, or to the run beside
  goes : (run k : ℕ) → ((next k ≢ nil) × (run_after ns run k ≡ run) × (key_after ns run k ≡ next k))
      ⊎ ((next k ≡ nil) × (run_after ns run k ≡ beside run) × (key_after ns run k ≡ beside run))
  goes run k = grind (arith, cases_eq)

  -- the key that a walk begins with comes
  has-first : (n run k : ℕ) → WalkEnds ns run k n → k ≢ nil → 1 ≤ times k (walk ns run k n)
  has-first zero run k none some = absurd (some none)
  has-first (suc n) run k ends some = rw (walk-some run k n some) (let e = times-here k (walk ns (run_after ns run k) (key_after ns run k) n) in omega (arith, e))

  has-later : (j x : ℕ) (xs : List ℕ) → 1 ≤ times j xs → 1 ≤ times j (x ∷ xs)
  has-later j x xs some = let e = times-cons j x xs in omega (arith, e, some)

  -- and where a key comes, its next does
  has-next : (n run k j : ℕ) → WalkEnds ns run k n → 1 ≤ times j (walk ns run k n) → next j ≢ nil → 1 ≤ times (next j) (walk ns run k n)
  has-next zero run k j ends some more = absurd (omega (arith, some))
  has-next (suc n) run k j ends some more = elim (cases_eq k nil) [
    | inl none ↦ let e : 1 ≤ times j [] = rw (walk-nil run k (suc n) none) at some in absurd (omega (arith, e))
    | inr there ↦
        let rest = (ends there).2 in
        let in_all : 1 ≤ times j (k ∷ walk ns (run_after ns run k) (key_after ns run k) n) = rw (walk-some run k n there) at some in
        rw (walk-some run k n there) (has-later (next j) k (walk ns (run_after ns run k) (key_after ns run k) n) (elim (cases_eq k j) [
          | inl same ↦
              let more_k : next k ≢ nil = λ z. more (ap next (sym same) ∙ z) in
              let e : key_after ns run k ≡ next j = elim (goes run k) [ inl on ↦ on.2 ∙ ap next same | inr end ↦ absurd (more_k end.0) ] in
              subst (λ m. 1 ≤ times m (walk ns (run_after ns run k) (key_after ns run k) n)) e (has-first n (run_after ns run k) (key_after ns run k) rest (λ z. more (sym e ∙ z)))
          | inr differs ↦
              has-next n (run_after ns run k) (key_after ns run k) j rest (let e = times-later k j (walk ns (run_after ns run k) (key_after ns run k) n) differs in omega (arith, e, in_all)) more
        ]))
  ]

  -- behind the keys of a run the first of the run beside comes
  has-beside : (n run k : ℕ) → WalkEnds ns run k n → k ≢ nil → beside run ≢ nil → 1 ≤ times (beside run) (walk ns run k n)
  has-beside zero run k none there more = absurd (there none)
  has-beside (suc n) run k ends there more =
      let rest = (ends there).2 in
      rw (walk-some run k n there) (has-later (beside run) k (walk ns (run_after ns run k) (key_after ns run k) n) (elim (goes run k) [
        | inl on ↦
            let r : WalkEnds ns run (next k) n = rw (on.1, on.2) at rest in
            rw (on.1, on.2) (has-beside n run (next k) r on.0 more)
        | inr end ↦
            let r : WalkEnds ns (beside run) (beside run) n = rw (end.1, end.2) at rest in
            rw (end.1, end.2) (has-first n (beside run) (beside run) r more)
      ]))

module _ (rs : List ℕ) (ns : List Node) (w : IsHeap rs ns nil) (p : ℕ) (room : p < length rs) where
  p_some : p ≢ nil
  p_some z = omega (arith, z, room, w.ranked.few, w.ranked.rooms)

  abbrev Owned : ℕ → Type 0
  Owned k = (node_at ns k).owner ≡ p

  has_owner : (k : ℕ) → Owned k → (node_at ns k).owner ≢ nil
  has_owner k mine z = p_some (sym mine ∙ z)

  inside : (k : ℕ) → Owned k → k < length ns
  inside k mine = within ns k (has_owner k mine)

  not_nil : (k : ℕ) → Owned k → k ≢ nil
  not_nil k mine z = let lt = inside k mine in omega (arith, lt, z, w.ranked.few)

  -- a side of a key is the owner's too, and ranks higher
  after_next : (k : ℕ) → Owned k → next ns k ≢ nil → Owned (next ns k) × ((node_at ns k).rank < (node_at ns (next ns k)).rank)
  after_next k mine some = let s = side_after rs ns nil k (next ns k) w (has_owner k mine) some (inl refl) in (s.0 ∙ mine, s.1)

  after_beside : (k : ℕ) → Owned k → beside ns k ≢ nil → Owned (beside ns k) × ((node_at ns k).rank < (node_at ns (beside ns k)).rank)
  after_beside k mine some = let s = side_after rs ns nil k (beside ns k) w (has_owner k mine) some (inr refl) in (s.0 ∙ mine, s.1)

  -- so many steps on in a run
  abbrev along : ℕ → ℕ → ℕ
  along f zero = f
  along f (suc n) = next ns (along f n)

  next_past : (k : ℕ) → next ns k ≢ nil → k ≢ nil
  next_past k some z = some (ap (λ (x : Node). x.next) (get_or_past ns k blank (omega (arith, z, w.ranked.few))))

  along_owned : (n f : ℕ) → Owned f → along f n ≢ nil → Owned (along f n)
  along_owned zero f mine some = mine
  along_owned (suc n) f mine some = (after_next (along f n) (along_owned n f mine (next_past (along f n) some)) some).0

  -- a key is in one run alone
  same_run : (m n f g : ℕ) → BeginsRun ns f → BeginsRun ns g → Owned f → Owned g → Owned (along f m) → along f m ≡ along g n → f ≡ g
  same_run zero zero f g first_f first_g mine_f mine_g mine e = e
  same_run zero (suc n) f g first_f first_g mine_f mine_g mine e =
      let some : next ns (along g n) ≢ nil = λ z. not_nil f mine (e ∙ z) in
      absurd (first_f (along g n) (has_owner (along g n) (along_owned n g mine_g (next_past (along g n) some))) (sym e))
  same_run (suc m) zero f g first_f first_g mine_f mine_g mine e =
      let some : next ns (along f m) ≢ nil = not_nil (along f (suc m)) mine in
      absurd (first_g (along f m) (has_owner (along f m) (along_owned m f mine_f (next_past (along f m) some))) e)
  same_run (suc m) (suc n) f g first_f first_g mine_f mine_g mine e =
      let some : next ns (along f m) ≢ nil = not_nil (along f (suc m)) mine in
      let some_g : next ns (along g n) ≢ nil = λ z. some (e ∙ z) in
      let before = along_owned m f mine_f (next_past (along f m) some) in
      let before_g = along_owned n g mine_g (next_past (along g n) some_g) in
      same_run m n f g first_f first_g mine_f mine_g before
      (next_once rs ns nil (along f m) (along g n) w (has_owner (along f m) before) (has_owner (along g n) before_g) some e)

  -- a walk is at a key of a run
  record At (run k : ℕ) : Type 0 where
    pub run_owned : Owned run
    pub first : BeginsRun ns run
    pub owned : Owned k
    pub steps : ℕ
    pub there : along run steps ≡ k

  -- a key of this run that ranks higher, or one of a run that begins higher
  abbrev IsBehind : ℕ → ℕ → ℕ → ℕ → Type 0
  IsBehind run k run' k' = ((run' ≡ run) × ((node_at ns k).rank < (node_at ns k').rank)) ⊎ ((node_at ns run).rank < (node_at ns run').rank)

  following : (run k : ℕ) → At run k → key_after ns run k ≢ nil → At (run_after ns run k) (key_after ns run k) × IsBehind run k (run_after ns run k) (key_after ns run k)
  following run k a some = elim (goes ns run k) [
    | inl on ↦
        let s = after_next k a.owned on.0 in
        rw (on.1, on.2) (record { run_owned = a.run_owned; first = a.first; owned = s.0; steps = suc a.steps; there = ap (next ns) a.there }, inl (refl, s.1))
    | inr end ↦
        let more : beside ns run ≢ nil = λ z. some (end.2 ∙ z) in
        let s = after_beside run a.run_owned more in
        rw (end.1, end.2) (
          record { run_owned = s.0; first = first_beside rs ns nil run w (has_owner run a.run_owned) more; owned = s.0; steps = zero; there = refl },
          inr s.1,
        )
  ]

  -- all that a walk meets behind a key
  record Later (run k j : ℕ) : Type 0 where
    pub owned : Owned j
    pub run' : ℕ
    pub at : At run' j
    pub behind : IsBehind run k run' j

  further : (run k run' k' run'' k'' : ℕ) → IsBehind run k run' k' → IsBehind run' k' run'' k'' → IsBehind run k run'' k''
  further run k run' k' run'' k'' a b = grind arith

  all_later : (n run k run' k' : ℕ) → (k' ≢ nil → At run' k' × IsBehind run k run' k') → AllByRecursion (Later run k) (walk ns run' k' n)
  all_later zero run k run' k' start = tt
  all_later (suc n) run k run' k' start = elim (cases_eq k' nil) [
    | inl none ↦ rw (walk-nil ns run' k' (suc n) none) tt
    | inr some ↦
        let s = start some in
        rw (walk-some ns run' k' n some) (
          record { owned = s.0.owned; run' = run'; at = s.0; behind = s.1 },
          all_later n run k (run_after ns run' k') (key_after ns run' k') (λ more.
              let f = following run' k' s.0 more in (f.0, further run k run' k' (run_after ns run' k') (key_after ns run' k') s.1 f.1)),
        )
  ]

  behind : (n run k : ℕ) → At run k → AllByRecursion (Later run k) (walk ns (run_after ns run k) (key_after ns run k) n)
  behind n run k a = all_later n run k (run_after ns run k) (key_after ns run k) (following run k a)

  later_differs : (run k : ℕ) → At run k → (j : ℕ) → Later run k j → k ≢ j
  later_differs run k a j l e =
      let same : run ≡ l.run' = same_run a.steps l.at.steps run l.run' a.first l.at.first a.run_owned l.at.run_owned (rw a.there a.owned) (a.there ∙ e ∙ sym l.at.there) in
      let r = ap (λ i. (node_at ns i).rank) same in
      let q = ap (λ i. (node_at ns i).rank) e in
      elim l.behind [ inl here ↦ let lt = here.1 in omega (arith, lt, q) | inr lt ↦ omega (arith, lt, r) ]

  distinct : (n run k : ℕ) → (k ≢ nil → At run k) → IsDistinct ◌==◌ (walk ns run k n)
  unfolding IsDistinct
  distinct zero run k start = tt
  distinct (suc n) run k start = elim (cases_eq k nil) [
    | inl none ↦ rw (walk-nil ns run k (suc n) none) tt
    | inr some ↦ rw (walk-some ns run k n some) (
      apart-all (Later run k) k (later_differs run k (start some)) _ (behind n run k (start some)),
      distinct n (run_after ns run k) (key_after ns run k) (λ more. (following run k (start some) more).0),
    )
  ]

  once : (n run k j : ℕ) → (k ≢ nil → At run k) → times j (walk ns run k n) ≤ 1
  once zero run k j start = omega arith
  once (suc n) run k j start = elim (cases_eq k nil) [
    | inl none ↦ rw (walk-nil ns run k (suc n) none) (omega arith)
    | inr some ↦ rw (walk-some ns run k n some) (elim (cases_eq k j) [
      | inl same ↦
          let none = none_of (Later run k) k (later_differs run k (start some)) _ (behind n run k (start some)) in
          rw (sym same) (let e = times-here k (walk ns (run_after ns run k) (key_after ns run k) n) in omega (arith, e, none))
      | inr differs ↦
          let rest = once n (run_after ns run k) (key_after ns run k) j (λ more. (following run k (start some) more).0) in
          let e = times-later k j (walk ns (run_after ns run k) (key_after ns run k) n) differs in
          omega (arith, e, rest)
    ])
  ]

  all_owned : (n run k : ℕ) → (k ≢ nil → At run k) → AllByRecursion Owned (walk ns run k n)
  all_owned zero run k start = tt
  all_owned (suc n) run k start = elim (cases_eq k nil) [
    | inl none ↦ rw (walk-nil ns run k (suc n) none) tt
    | inr some ↦ rw (walk-some ns run k n some) ((start some).owned, all_owned n (run_after ns run k) (key_after ns run k) (λ more. (following run k (start some) more).0))
  ]

  all_inside : (xs : List ℕ) → AllByRecursion Owned xs → AllByRecursion (λ k. k < length ns) xs
  all_inside [] all = tt
  all_inside (x ∷ xs) all = (inside x all.0, all_inside xs all.1)

  -- a walk that does not end is as long as may be
  ends_or_full : (n run k : ℕ) → (k ≢ nil → At run k) → WalkEnds ns run k n ⊎ (length (walk ns run k (suc n)) ≡ suc n)
  ends_or_full zero run k start = elim (cases_eq k nil) [ inl none ↦ inl none | inr some ↦ inr (ap length (walk-some ns run k zero some)) ]
  ends_or_full (suc n) run k start = elim (cases_eq k nil) [
    | inl none ↦ inl (λ some. absurd (some none))
    | inr some ↦ elim (ends_or_full n (run_after ns run k) (key_after ns run k) (λ more. (following run k (start some) more).0)) [
      | inl ends ↦ inl (λ _. (inside k (start some).owned, inside run (start some).run_owned, ends))
      | inr full ↦ inr (rw (walk-some ns run k (suc n) some) (ap (λ m. suc m) full))
    ]
  ]

  start : root_at rs p ≢ nil → At (root_at rs p) (root_at rs p)
  start some = let mine = (w.tree.tops p some).0 in record { run_owned = mine; first = first_root rs ns nil p w some; owned = mine; steps = zero; there = refl }

  pub all_end : WalkEnds ns (root_at rs p) (root_at rs p) (length ns)
  all_end = elim (ends_or_full (length ns) (root_at rs p) (root_at rs p) start) [
    | inl ending ↦ ending
    | inr full ↦
        let most = suc (length ns) in
        let few = few_below (length ns) (walk ns (root_at rs p) (root_at rs p) most) (distinct most (root_at rs p) (root_at rs p) start)
        (all_inside _ (all_owned most (root_at rs p) (root_at rs p) start)) in
        absurd (omega (arith, full, few))
  ]

  -- where the first of a run comes, the first of the run beside does
  has-run : (n run k j : ℕ) → WalkEnds ns run k n → (k ≢ nil → At run k) → 1 ≤ times j (walk ns run k n) → Owned j → beside ns j ≢ nil → 1 ≤ times (beside ns j) (walk ns run k n)
  has-run zero run k j ends start some mine more = absurd (omega (arith, some))
  has-run (suc n) run k j ends start some mine more = elim (cases_eq k nil) [
    | inl none ↦ let e : 1 ≤ times j [] = rw (walk-nil ns run k (suc n) none) at some in absurd (omega (arith, e))
    | inr there ↦ elim (cases_eq k j) [
      | inl same ↦
          let a = start there in
          let first_j : BeginsRun ns j = λ i owned e. more (sym (ap (λ m. (node_at ns m).beside) e) ∙ inner ns w.runs i owned (λ z. not_nil j mine (sym e ∙ z))) in
          let run_is : run ≡ j = same_run a.steps zero run j a.first first_j a.run_owned mine (rw a.there a.owned) (a.there ∙ same) in
          subst (λ m. 1 ≤ times (beside ns m) (walk ns run k (suc n))) run_is (has-beside ns (suc n) run k ends there (λ z. more (ap (beside ns) (sym run_is) ∙ z)))
      | inr differs ↦
          let in_all : 1 ≤ times j (k ∷ walk ns (run_after ns run k) (key_after ns run k) n) = rw (walk-some ns run k n there) at some in
          rw (walk-some ns run k n there) (has-later ns (beside ns j) k (walk ns (run_after ns run k) (key_after ns run k) n) (
          has-run n (run_after ns run k) (key_after ns run k) j (ends there).2 (λ further. (following run k (start there) further).0)
          (let e = times-later k j (walk ns (run_after ns run k) (key_after ns run k) n) differs in omega (arith, e, in_all)) mine more))
    ]
  ]

  abbrev IsMet : ℕ → Type 0
  IsMet k = 1 ≤ times k (walk ns (root_at rs p) (root_at rs p) (length ns))

  -- each member comes: the one above it does, and the root
  comes : (most k : ℕ) → Owned k → (node_at ns k).rank < most → IsMet k
  comes zero k mine low = absurd (omega (arith, low))
  comes (suc most) k mine low = elim (cases_eq (root_at rs p) k) [
    | inl same ↦ subst IsMet same (has-first ns (length ns) (root_at rs p) (root_at rs p) all_end (λ z. not_nil k mine (sym same ∙ z)))
    | inr away ↦
        let up = w.tree.above k (has_owner k mine) (not_nil k mine) (λ z. away (ap (root_at rs) (sym mine) ∙ z)) in
        let mine_up : Owned (node_at ns k).above = up.0 ∙ mine in
        let before = comes most (node_at ns k).above mine_up (omega (arith, up.1, low)) in
        elim up.2 [
          | inl e ↦ subst IsMet e (has-next ns (length ns) (root_at rs p) (root_at rs p) (node_at ns k).above all_end before (λ z. not_nil k mine (sym e ∙ z)))
          | inr e ↦ subst IsMet e (has-run (length ns) (root_at rs p) (root_at rs p) (node_at ns k).above all_end start before mine_up (λ z. not_nil k mine (sym e ∙ z)))
        ]
  ]

  holders : (xs : List ℕ) → AllByRecursion Owned xs → AllByRecursion (λ k. holder (map member_in ns) k ≡ Some p) xs
  holders [] all = tt
  holders (x ∷ xs) all = (owner_member ns x p all.0 p_some, holders xs all.1)

  pub are_members : AreRankedMembers (map member_in ns) p (walk ns (root_at rs p) (root_at rs p) (length ns))
  are_members = record {
    once = λ k mine.
        let some = comes ((node_at ns k).rank + 1) k (member_owner ns k p mine).0 (omega arith) in
        let most = once (length ns) (root_at rs p) (root_at rs p) k start in
        omega (arith, some, most);
    owned = holders _ (all_owned (length ns) (root_at rs p) (root_at rs p) start);
  }
