-- The least numbers of a list that rises.
use Rattle.std.proofs.Common.{◌≡◌, ◌⊎◌, inl, inr, ℕ, zero, suc, ◌<◌, ◌≤◌, List, [], ◌∷◌, length, take, refl, sym, ap, subst, arith}
use Rattle.pid_types.specs.Membership.{IsIn}
use Rattle.pid_types.specs.Sound.{IsRising}
use Rattle.translate.specs.Pages.{AreListedFrom, AreLeastFrom}

IsIn-take : (n m : ℕ) (xs : List ℕ) → IsIn m (take n xs) → IsIn m xs
IsIn-take zero m xs on = absurd on
IsIn-take (suc n) m [] on = on
IsIn-take (suc n) m (x ∷ xs) (inl same) = inl same
IsIn-take (suc n) m (x ∷ xs) (inr on) = inr (IsIn-take n m xs on)

rising-take : (n : ℕ) (xs : List ℕ) → IsRising xs → IsRising (take n xs)
rising-take zero xs r = tt
rising-take (suc n) [] r = tt
rising-take (suc n) (x ∷ xs) r = (λ m on. r.0 m (IsIn-take n m xs on), rising-take n xs r.1)

few-take : (n : ℕ) (xs : List ℕ) → length (take n xs) ≤ n
few-take zero xs = omega arith
few-take (suc n) [] = omega arith
few-take (suc n) (x ∷ xs) = let few = few-take n xs in omega (arith, few)

-- what is behind the first ones is above them
above-take : (n m : ℕ) (xs : List ℕ) → IsRising xs → IsIn m xs → IsIn m (take n xs) ⊎ ((length (take n xs) ≡ n) × ((k : ℕ) → IsIn k (take n xs) → k < m))
above-take zero m xs r on = inr (refl, λ k none. absurd none)
above-take (suc n) m [] r on = absurd on
above-take (suc n) m (x ∷ xs) r (inl same) = inl (inl same)
above-take (suc n) m (x ∷ xs) r (inr on) = go (above-take n m xs r.1 on)
  where
    go : IsIn m (take n xs) ⊎ ((length (take n xs) ≡ n) × ((k : ℕ) → IsIn k (take n xs) → k < m))
        → IsIn m (take (suc n) (x ∷ xs)) ⊎ ((length (take (suc n) (x ∷ xs)) ≡ suc n) × ((k : ℕ) → IsIn k (take (suc n) (x ∷ xs)) → k < m))
    go (inl first) = inl (inr first)
    go (inr full) = inr (ap suc full.0, below)
      where
        below : (k : ℕ) → IsIn k (x ∷ take n xs) → k < m
        below k (inl same) = subst (λ j. j < m) (sym same) (r.0 m on)
        below k (inr first) = full.1 k first

-- the first ones of all are the least
pub least : (numbers : List ℕ) (from n : ℕ) (listed : List ℕ) → AreListedFrom numbers from listed → AreLeastFrom numbers from n (take n listed)
least numbers from n listed l = record {
  rising = rising-take n listed l.rising;
  few = few-take n listed;
  each = λ m on. (l.each m).0 (IsIn-take n m listed on);
  others = λ m le on. above-take n m listed l.rising ((l.each m).1 (le, on));
}

pub least_none : (numbers : List ℕ) (from n : ℕ) → AreListedFrom numbers from [] → AreLeastFrom numbers from n []
least_none numbers from n l = record { rising = tt; few = omega arith; each = λ m on. absurd on; others = λ m le on. absurd ((l.each m).1 (le, on)) }

-- where more might be listed, all are
pub whole : (numbers : List ℕ) (from most : ℕ) (listed : List ℕ) → AreLeastFrom numbers from most listed → length listed < most → AreListedFrom numbers from listed
whole numbers from most listed l more = record { rising = l.rising; each = λ m. (l.each m, λ h. all m (l.others m h.0 h.1)) }
  where
    all : (m : ℕ) → IsIn m listed ⊎ ((length listed ≡ most) × ((k : ℕ) → IsIn k listed → k < m)) → IsIn m listed
    all m (inl on) = on
    all m (inr full) = absurd (let many = full.0 in omega (arith, many, more))

-- the same numbers have the same least ones
pub same_least : (numbers others : List ℕ) (from most : ℕ) (listed : List ℕ) → ((m : ℕ) → IsIn m numbers → IsIn m others) → ((m : ℕ) → IsIn m others → IsIn m numbers)
    → AreLeastFrom numbers from most listed → AreLeastFrom others from most listed
same_least numbers others from most listed to back l = record {
  rising = l.rising;
  few = l.few;
  each = λ m on. (let h = l.each m on in (h.0, to m h.1));
  others = λ m le on. l.others m le (back m on);
}
