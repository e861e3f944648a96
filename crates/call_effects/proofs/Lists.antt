-- Lists of numbers that rise, and lists in which each comes once.
use Rattle.std.proofs.Common.{◌≡◌, ◌⊎◌, ◌==◌, ◌<◌, ◌≤◌, ℕ, zero, suc, List, [], ◌∷◌, length, refl, sym, subst, inl, inr, arith, ◌+◌, ◌++◌, ◌∙◌, ap, flat_map, get_or, take}
use Rattle.std.specs.Prelude.{slice_index_or}
use Rattle.std.specs.List.{AllPairs, Contains, dedup}
use Rattle.std.specs.Ordering.{nat_cmp}
use Rattle.std.proofs.lemmas.List.{flat_map_more, take_more}
use Rattle.std.proofs.lemmas.List.Kept.{AllPairs-from_increasing, Contains-dedup_nat, Contains-from_dedup}
use Rattle.std.proofs.lemmas.Map.Keys.{IsStrictlyIncreasing-dedup}
use Rattle.member_lists.specs.Owners.{times}
use Rattle.pid_types.specs.Membership.{IsIn}
use Rattle.pid_types.specs.Sound.{IsRising}
use Rattle.task_table.proofs.Places.{place-of}
use Rattle.translate.specs.Pages.{AreListedFrom}
use Rattle.translate.proofs.Rising.{once-more, IsIn-permuted, IsIn-unpermuted}
use Rattle.call_effects.specs.Distinct.{SortsDistinct}

-- the number at a place is in the list
pub index-in : (ns : List ℕ) (i : ℕ) → i < length ns → IsIn (slice_index_or ns i 0) ns
index-in [] i few = absurd (omega (arith, few))
index-in (n ∷ ns) zero few = inl refl
index-in (n ∷ ns) (suc i) few = inr (index-in ns i (omega (arith, few)))

-- in a rising list each number comes once
pub once_rising : (ns : List ℕ) → IsRising ns → (m : ℕ) → times m ns ≤ 1
once_rising [] rise m = omega arith
once_rising (n ∷ ns) rise m = once-more m n ns (λ i. let lt = rise.0 n i in omega (arith, lt)) (once_rising ns rise.1 m)

-- a rising list of some elements of another is not longer
pub few_of : (ns ms : List ℕ) → IsRising ns → IsRising ms → ((n : ℕ) → IsIn n ns → IsIn n ms) → length ns ≤ length ms
few_of [] ms rise above all = omega arith
few_of (n ∷ ns) [] rise above all = absurd (all n (inl refl))
few_of (n ∷ ns) (m ∷ ms) rise above all = go (λ le. few_of ns ms rise.1 above.1 le) (λ le. few_of (n ∷ ns) ms rise above.1 le) (all n (inl refl))
  where
    later : m < n → (k : ℕ) → IsIn k (n ∷ ns) → IsIn k ms
    later lt k i = elim (all k i) [ inl same ↦ absurd (elim i [ inl here ↦ omega (arith, lt, here, same) | inr j ↦ (let up = rise.0 k j in omega (arith, lt, up, same)) ]) | inr j ↦ j ]

    rest : n ≡ m → (k : ℕ) → IsIn k ns → IsIn k ms
    rest same k i = elim (all k (inr i)) [ inl here ↦ absurd (let up = rise.0 k i in omega (arith, up, here, same)) | inr j ↦ j ]

    go : (((k : ℕ) → IsIn k ns → IsIn k ms) → length ns ≤ length ms) → (((k : ℕ) → IsIn k (n ∷ ns) → IsIn k ms) → length (n ∷ ns) ≤ length ms)
        → (n ≡ m) ⊎ IsIn n ms → length (n ∷ ns) ≤ length (m ∷ ms)
    go both one (inl same) = let le = both (rest same) in omega (arith, le)
    go both one (inr j) = let le = one (later (above.0 n j)) in omega (arith, le)

-- numbers each of which is below all later ones rise
rising_pairs : (xs : List ℕ) → AllPairs (λ x y. x < y) xs → IsRising xs
rising_pairs [] all = tt
rising_pairs (x ∷ xs) all = (
  λ m i. let p = place-of 0 m xs i in let lt = p.1 in subst (λ n. x < n) p.2 (all zero (suc p.0) 0 (omega arith) (omega (arith, lt))),
  rising_pairs xs (λ i j d lt few. all (suc i) (suc j) d (omega (arith, lt)) (omega (arith, few))),
)

IsIn-Contains : (xs : List ℕ) (x : ℕ) → IsIn x xs → Contains xs x
IsIn-Contains xs x i = place-of x x xs i

IsIn-from_Contains : (xs : List ℕ) (x : ℕ) → Contains xs x → IsIn x xs
IsIn-from_Contains [] x (k, few, e) = absurd (omega (arith, few))
IsIn-from_Contains (y ∷ xs) x (zero, few, e) = inl (sym e)
IsIn-from_Contains (y ∷ xs) x (suc k, few, e) = inr (IsIn-from_Contains xs x (k, omega (arith, few), e))

-- a sorted list without what comes again has each number of the list once, in rising order
pub distinct : (old new : List ℕ) → SortsDistinct nat_cmp ◌==◌ old new → AreListedFrom old 0 new
distinct old new d = record {
  rising = subst IsRising (sym d.is) (rising_pairs (dedup ◌==◌ d.sorted) (AllPairs-from_increasing (dedup ◌==◌ d.sorted) (IsStrictlyIncreasing-dedup d.sorted d.in_order)));
  each = λ m. (
    λ on. (omega arith, IsIn-unpermuted m old d.sorted d.permutes (IsIn-from_Contains d.sorted m (Contains-from_dedup ◌==◌ d.sorted m (IsIn-Contains (dedup ◌==◌ d.sorted) m (subst (IsIn m) d.is on))))),
    λ h. subst (IsIn m) (sym d.is) (IsIn-from_Contains (dedup ◌==◌ d.sorted) m (Contains-dedup_nat d.sorted m (IsIn-Contains d.sorted m (IsIn-permuted m old d.sorted d.permutes h.1)))),
  );
}

-- what is listed of one item more
pub listed_more : {X A : Type 0} (f : X → List A) (before : List A) (xs : List X) (i : ℕ) (d : X) (ys zs : List A) → i < length xs
    → ys ≡ before ++ flat_map f (take i xs) → zs ≡ ys ++ f (get_or xs i d) → zs ≡ before ++ flat_map f (take (i + 1) xs)
listed_more f before xs i d ys zs here listed more =
    more ∙ ap (λ l. l ++ f (get_or xs i d)) listed ∙ flat_map_more f before (take i xs) (get_or xs i d)
    ∙ ap (λ l. before ++ flat_map f l) (sym (take_more xs i d here))
