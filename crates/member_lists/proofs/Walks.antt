-- A walk from an owner's first member meets each of its members once.
use Rattle.std.proofs.Common.{◌≡◌, ◌≢◌, ◌⊎◌, inl, inr, ℕ, zero, suc, ◌+◌, ◌<◌, ◌≤◌, ◌==◌, List, [], ◌∷◌, length, Bool, if◌then◌else◌, Some, refl, sym, ap, ◌∙◌, arith, map}
use Rattle.std.specs.List.{AllByRecursion, IsDistinct}
use Rattle.std.proofs.lemmas.Bool.{cases_eq}
use Rattle.member_lists.proofs.Distinct.{apart-all, none_of, few_below}
use Rattle.member_lists.proofs.Owners.{times-cons, times-here, times-later}
use Rattle.member_lists.specs.declared.Link.{Link}
use Rattle.member_lists.specs.Owners.{owner_of, times, AreMembers}
use Rattle.member_lists.specs.Links.{nil, link_at, head_at, owner_in, IsLinked, chain, ReachesNil}
use Rattle.member_lists.proofs.Linked.{within, owner_of-links, some_link, link_some}

module _ (ls : List Link) where
  abbrev next : ℕ → ℕ
  next k = (link_at ls k).next

  chain-nil : (k n : ℕ) → k ≡ nil → chain ls k n ≡ []
  chain-nil k n none = grind arith

  chain-some : (k n : ℕ) → k ≢ nil → chain ls k (suc n) ≡ k ∷ chain ls (next k) n
  chain-some k n some = grind arith

  chain-more : (k n : ℕ) → ReachesNil ls k n → chain ls k (suc n) ≡ chain ls k n
  chain-more k zero none = chain-nil k (suc zero) none
  chain-more k (suc n) ends = elim (cases_eq k nil) [
    | inl none ↦ chain-nil k (suc (suc n)) none ∙ sym (chain-nil k (suc n) none)
    | inr some ↦ chain-some k (suc n) some ∙ ap (λ xs. k ∷ xs) (chain-more (next k) n (ends some).1) ∙ sym (chain-some k n some)
  ]

  ends-more : (k n : ℕ) → ReachesNil ls k n → ReachesNil ls k (suc n)
  ends-more k zero none = λ some. absurd (some none)
  ends-more k (suc n) ends = λ some. ((ends some).0, ends-more (next k) n (ends some).1)

  -- one step of a walk
  pub record Step (k n : ℕ) : Type 0 where
    pub inside : k < length ls
    pub ends : ReachesNil ls (next k) n
    pub rest : chain ls k n ≡ k ∷ chain ls (next k) n

  pub step : (k n : ℕ) → ReachesNil ls k n → k ≢ nil → Step k n
  step k n none some = grind (arith, ends-more, chain-some, chain-more)

  pub over : (k n : ℕ) → k ≡ nil → chain ls k n ≡ []
  over = chain-nil

module _ (hs : List ℕ) (ls : List Link) (w : IsLinked hs ls) (h : ℕ) (room : h < length hs) where
  some_h : h ≢ nil
  some_h z = omega (arith, z, room, w.few, w.rooms)

  abbrev Owned : ℕ → Type 0
  Owned k = (link_at ls k).owner ≡ h

  has_owner : (k : ℕ) → Owned k → (link_at ls k).owner ≢ nil
  has_owner k mine z = some_h (sym mine ∙ z)

  inside : (k : ℕ) → Owned k → k < length ls
  inside k mine = within ls k (has_owner k mine)

  not_nil : (k : ℕ) → Owned k → k ≢ nil
  not_nil k mine z = let lt = inside k mine in omega (arith, lt, z, w.few)

  next_owned : (k : ℕ) → Owned k → next ls k ≢ nil → Owned (next ls k)
  next_owned k mine some = (w.next k (has_owner k mine) some).0 ∙ mine

  next_higher : (k : ℕ) → Owned k → next ls k ≢ nil → w.rank k < w.rank (next ls k)
  next_higher k mine some = grind (arith, has_owner, not_nil)

  -- the keys of a chain are the owner's, and rank no lower than the first
  above : (n k m : ℕ) → (k ≢ nil → Owned k × (m ≤ w.rank k)) → AllByRecursion (λ j. Owned j × (m ≤ w.rank j)) (chain ls k n)
  above zero k m start = tt
  above (suc n) k m start = elim (cases_eq k nil) [
    | inl none ↦ rw (chain-nil ls k (suc n) none) tt
    | inr some ↦ rw (chain-some ls k n some) (
      start some,
      above n (next ls k) m (λ more.
          let s = start some in let higher = next_higher k s.0 more in (next_owned k s.0 more, omega (arith, higher, s.1))),
    )
  ]

  -- those behind the first rank higher
  behind : (n k : ℕ) → Owned k → AllByRecursion (λ j. Owned j × (w.rank k + 1 ≤ w.rank j)) (chain ls (next ls k) n)
  behind n k mine = above n (next ls k) (w.rank k + 1) (λ more. let higher = next_higher k mine more in (next_owned k mine more, omega (arith, higher)))

  higher : (j i : ℕ) → Owned i × (w.rank j + 1 ≤ w.rank i) → j ≢ i
  higher j i more e = let r = ap w.rank e in omega (arith, more.1, r)

  distinct : (n k : ℕ) → (k ≢ nil → Owned k) → IsDistinct ◌==◌ (chain ls k n)
  unfolding IsDistinct
  distinct zero k start = tt
  distinct (suc n) k start = elim (cases_eq k nil) [
    | inl none ↦ rw (chain-nil ls k (suc n) none) tt
    | inr some ↦ rw (chain-some ls k n some) (apart-all _ k (higher k) _ (behind n k (start some)), distinct n (next ls k) (next_owned k (start some)))
  ]

  -- a chain that does not end is as long as may be
  ends_or_full : (n k : ℕ) → (k ≢ nil → Owned k) → ReachesNil ls k n ⊎ (length (chain ls k (suc n)) ≡ suc n)
  ends_or_full zero k start = grind (arith, cases_eq, chain-some)
  ends_or_full (suc n) k start = elim (cases_eq k nil) [
    | inl none ↦ inl (λ some. absurd (some none))
    | inr some ↦ elim (ends_or_full n (next ls k) (next_owned k (start some))) [
      | inl ends ↦ inl (λ _. (inside k (start some), ends))
      | inr full ↦ inr (rw (chain-some ls k (suc n) some) (ap (λ m. suc m) full))
    ]
  ]

  inside_all : (xs : List ℕ) → AllByRecursion (λ j. Owned j × (0 ≤ w.rank j)) xs → AllByRecursion (λ k. k < length ls) xs
  inside_all [] all = tt
  inside_all (x ∷ xs) all = (inside x all.0.0, inside_all xs all.1)

  short : (n k : ℕ) → (k ≢ nil → Owned k) → length (chain ls k n) ≤ length ls
  short n k start = few_below (length ls) (chain ls k n) (distinct n k start) (inside_all _ (above n k 0 (λ some. (start some, omega arith))))

  first_owned : head_at hs h ≢ nil → Owned (head_at hs h)
  first_owned some = (w.head h some).0

  pub all_end : ReachesNil ls (head_at hs h) (length ls)
  all_end = elim (ends_or_full (length ls) (head_at hs h) first_owned) [
    | inl ending ↦ ending
    | inr full ↦ let s = short (suc (length ls)) (head_at hs h) first_owned in absurd (omega (arith, full, s))
  ]

  times_all : (P : ℕ → Type 0) (j : ℕ) (xs : List ℕ) → AllByRecursion P xs → times j xs ≡ 1 → P j
  times_all P j [] all once = cc
  times_all P j (x ∷ xs) all once = go (λ later. times_all P j xs all.1 later) (x == j) refl (sym (times-cons j x xs) ∙ once)
    where
      go : (times j xs ≡ 1 → P j) → (b : Bool) → (x == j) ≡ b → (if b then 1 else 0) + times j xs ≡ 1 → P j
      go rest b e once = grind arith

  times-first : (n k : ℕ) → Owned k → ReachesNil ls k n → times k (chain ls k n) ≡ 1
  times-first zero k mine none = absurd (not_nil k mine none)
  times-first (suc n) k mine more =
      let rest = none_of _ k (higher k) (chain ls (next ls k) n) (behind n k mine) in
      rw (chain-some ls k n (not_nil k mine)) (times-here k (chain ls (next ls k) n) ∙ ap (λ m. 1 + m) rest)

  -- the key behind one that comes once does so
  times-next : (n k j : ℕ) → (k ≢ nil → Owned k) → ReachesNil ls k n → times j (chain ls k n) ≡ 1 → next ls j ≢ nil → times (next ls j) (chain ls k n) ≡ 1
  times-next zero k j start stop once more = cc
  times-next (suc n) k j start stop once more = elim (cases_eq k nil) [
    | inl none ↦ let e : times j [] ≡ 1 = rw (chain-nil ls k (suc n) none) at once in cc
    | inr some ↦
        let e : times j (k ∷ chain ls (next ls k) n) ≡ 1 = rw (chain-some ls k n some) at once in
        rw (chain-some ls k n some) (elim (cases_eq k j) [
          | inl same ↦ grind (arith, next_higher, times-later, times-first, next_owned)
          | inr differs ↦
              let later : times j (chain ls (next ls k) n) ≡ 1 = sym (times-later k j (chain ls (next ls k) n) differs) ∙ e in
              let at = times_all (λ i. Owned i × (w.rank k + 1 ≤ w.rank i)) j (chain ls (next ls k) n) (behind n k (start some)) later in
              let higher = next_higher j at.0 more in
              times-later k (next ls j) (chain ls (next ls k) n) (λ z. let r = ap w.rank z in omega (arith, r, higher, at.1)) ∙ times-next n (next ls k) j (next_owned k (start some)) (stop some).1 later more
        ])
  ]

  -- each member comes: the one before it does, and the first one
  comes : (most k : ℕ) → Owned k → w.rank k < most → times k (chain ls (head_at hs h) (length ls)) ≡ 1
  comes zero k mine low = absurd (omega (arith, low))
  comes (suc most) k mine low = elim (cases_eq (link_at ls k).prev nil) [
    | inl none ↦ grind (arith, has_owner, times-first, all_end)
    | inr some ↦
        let p = w.prev k (has_owner k mine) some in
        let before = comes most (link_at ls k).prev (p.0 ∙ mine) (omega (arith, p.2, low)) in
        rw p.1 at (times-next (length ls) (head_at hs h) (link_at ls k).prev first_owned all_end before (λ z. not_nil k mine (sym p.1 ∙ z)))
  ]

  all_owned : (xs : List ℕ) → AllByRecursion (λ j. Owned j × (0 ≤ w.rank j)) xs → AllByRecursion (λ k. owner_of (map owner_in ls) k ≡ Some h) xs
  all_owned [] all = tt
  all_owned (x ∷ xs) all = (owner_of-links ls x ∙ link_some (link_at ls x) h all.0.0 some_h, all_owned xs all.1)

  pub are_members : AreMembers (map owner_in ls) h (chain ls (head_at hs h) (length ls))
  are_members = record {
    once = λ k mine. comes (w.rank k + 1) k (some_link (link_at ls k) h (sym (owner_of-links ls k) ∙ mine)).0 (omega arith);
    owned = all_owned _ (above (length ls) (head_at hs h) 0 (λ some. (first_owned some, omega arith)));
  }
