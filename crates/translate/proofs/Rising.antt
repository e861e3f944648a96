-- How often a number stands in a list, and lists that rise.
use Rattle.std.proofs.Common.{◌≡◌, ◌≢◌, inl, inr, ℕ, zero, suc, ◌+◌, ◌<◌, ◌≤◌, ◌==◌, Bool, true, false, List, [], ◌∷◌, filter, filter_map, Option, Some, None, cond, refl, sym, ap, subst, ◌∙◌, arith}
use Rattle.std.specs.List.{AllByRecursion}
use Rattle.std.specs.List.Sorted.{IsNonDecreasing, IsPermutation}
use Rattle.std.proofs.lemmas.Bool.{eq-eqb, eqb-true}
use Rattle.std.proofs.lemmas.List.Sums.{sum_by-cons}
use Rattle.std.proofs.lemmas.List.Sorted.{sum_by-IsPermutation}
use Rattle.member_lists.specs.Owners.{times}
use Rattle.pid_types.specs.Membership.{IsIn}
use Rattle.pid_types.specs.Sound.{IsRising}
use Rattle.model_laws.proofs.Lists.{IsIn-from_filter_map}
use Rattle.task_table.proofs.Places.{each-in, place-of}

-- what is not above 0 is 0
pub zero-of : (c : ℕ) → (0 < c → ⊥) → c ≡ 0
zero-of zero none = refl
zero-of (suc c) none = absurd (none (omega arith))

-- one number more
pub times-cons : (m x : ℕ) (xs : List ℕ) → times m (x ∷ xs) ≡ cond {A = ℕ} (x == m) 1 0 + times m xs
times-cons m x xs = sum_by-cons (λ j. cond {A = ℕ} (j == m) 1 0) x xs

here : (m x : ℕ) → x ≡ m → cond {A = ℕ} (x == m) 1 0 ≡ 1
here m x e = rw (eq-eqb x m e) refl

pub times-later : (m x : ℕ) (xs : List ℕ) → times m xs ≤ times m (x ∷ xs)
times-later m x xs = let e = times-cons m x xs in omega (arith, e)

-- who is in the list stands there
pub IsIn-times : (m : ℕ) (xs : List ℕ) → IsIn m xs → 0 < times m xs
IsIn-times m [] i = absurd i
IsIn-times m (x ∷ xs) (inl same) = let e = times-cons m x xs in let one = here m x (sym same) in omega (arith, e, one)
IsIn-times m (x ∷ xs) (inr later) = let more = IsIn-times m xs later in let le = times-later m x xs in omega (arith, more, le)

pub times-IsIn : (m : ℕ) (xs : List ℕ) → 0 < times m xs → IsIn m xs
times-IsIn m [] some = absurd (omega (arith, some))
times-IsIn m (x ∷ xs) some = go (times-IsIn m xs) (x == m) refl (times-cons m x xs)
  where
    go : (0 < times m xs → IsIn m xs) → (b : Bool) → (x == m) ≡ b → times m (x ∷ xs) ≡ cond {A = ℕ} b 1 0 + times m xs → IsIn m (x ∷ xs)
    go again true is e = inl (sym (eqb-true x m is))
    go again false is e = inr (again (omega (arith, some, e)))

-- where each that comes does so once, none comes twice
pub once-each : (P : ℕ → Type 0) (ns : List ℕ) → ((n : ℕ) → P n → times n ns ≡ 1) → AllByRecursion P ns → (n : ℕ) → times n ns ≤ 1
once-each P ns once all n = go (times n ns) refl
  where
    go : (c : ℕ) → times n ns ≡ c → times n ns ≤ 1
    go zero e = omega (arith, e)
    go (suc c) e = let one = once n (each-in P ns all n (times-IsIn n ns (omega (arith, e)))) in omega (arith, one)

-- one that is new comes before others
pub once-more : (m n : ℕ) (ns : List ℕ) → (IsIn n ns → ⊥) → times m ns ≤ 1 → times m (n ∷ ns) ≤ 1
once-more m n ns new few = go (n == m) refl (times-cons m n ns)
  where
    go : (b : Bool) → (n == m) ≡ b → times m (n ∷ ns) ≡ cond {A = ℕ} b 1 0 + times m ns → times m (n ∷ ns) ≤ 1
    go false is e = omega (arith, e, few)
    go true is e =
        let none = zero-of (times m ns) (λ some. new (subst (λ j. IsIn j ns) (sym (eqb-true n m is)) (times-IsIn m ns some))) in
        omega (arith, e, none)

-- what is looked up for keys, each of which comes once
module _ (f : ℕ → Option ℕ) (apart : (j k m : ℕ) → f j ≡ Some m → f k ≡ Some m → j ≡ k) where
  pub once-found : (keys : List ℕ) → ((k : ℕ) → times k keys ≤ 1) → (m : ℕ) → times m (filter_map f keys) ≤ 1
  once-found [] once m = omega arith
  once-found (k ∷ keys) once m = go (f k) refl (once-found keys (λ j. let le = times-later j k keys in let one = once j in omega (arith, le, one)) m)
    where
      fresh : (n : ℕ) → f k ≡ Some n → IsIn n (filter_map f keys) → ⊥
      fresh n is on =
          let g = IsIn-from_filter_map f n keys on in
          let same : k ≡ g.0 = apart k g.0 n is g.2 in
          let some = IsIn-times k keys (subst (λ j. IsIn j keys) (sym same) g.1) in
          let e = times-cons k k keys in
          let one : cond {A = ℕ} (k == k) 1 0 ≡ 1 = ap (λ b. cond {A = ℕ} b 1 0) (eq-eqb k k refl) in
          let few = once k in
          omega (arith, some, e, one, few)

      go : (o : Option ℕ) → f k ≡ o → times m (filter_map f keys) ≤ 1 → times m (filter_map f (k ∷ keys)) ≤ 1
      go None is rest = rw is rest
      go (Some n) is rest = rw is (once-more m n (filter_map f keys) (fresh n is) rest)

-- what a test lets through comes no more often
pub times-filter : (p : ℕ → Bool) (m : ℕ) (ns : List ℕ) → times m (filter p ns) ≤ times m ns
times-filter p m [] = omega arith
times-filter p m (n ∷ ns) = go (p n) (times-filter p m ns)
  where
    go : (b : Bool) → times m (filter p ns) ≤ times m ns → times m (cond b (n ∷ filter p ns) (filter p ns)) ≤ times m (n ∷ ns)
    go true le = let e = times-cons m n (filter p ns) in let f = times-cons m n ns in omega (arith, le, e, f)
    go false le = let f = times-later m n ns in omega (arith, le, f)

-- an order changes nothing of it
pub times-permuted : (m : ℕ) (xs ys : List ℕ) → IsPermutation xs ys → times m ys ≡ times m xs
times-permuted m xs ys p = sum_by-IsPermutation (λ j. cond {A = ℕ} (j == m) 1 0) xs ys p

pub IsIn-permuted : (m : ℕ) (xs ys : List ℕ) → IsPermutation xs ys → IsIn m xs → IsIn m ys
IsIn-permuted m xs ys p i = let e = times-permuted m xs ys p in let some = IsIn-times m xs i in times-IsIn m ys (omega (arith, e, some))

pub IsIn-unpermuted : (m : ℕ) (xs ys : List ℕ) → IsPermutation xs ys → IsIn m ys → IsIn m xs
IsIn-unpermuted m xs ys p i = let e = times-permuted m xs ys p in let some = IsIn-times m ys i in times-IsIn m xs (omega (arith, e, some))

tail : (x : ℕ) (xs : List ℕ) → IsNonDecreasing (x ∷ xs) → IsNonDecreasing xs
tail x xs h i j d le lt = h (suc i) (suc j) d (omega (arith, le)) (omega (arith, lt))

first : (x : ℕ) (xs : List ℕ) → IsNonDecreasing (x ∷ xs) → (m : ℕ) → IsIn m xs → x ≤ m
first x xs h m i =
    let p = place-of 0 m xs i in
    let lt = p.1 in
    let le = h zero (suc p.0) 0 (omega arith) (omega (arith, lt)) in
    let e = p.2 in
    subst (λ n. x ≤ n) e le

-- numbers that do not fall, none of them twice, rise
pub rising-once : (xs : List ℕ) → IsNonDecreasing xs → ((m : ℕ) → times m xs ≤ 1) → IsRising xs
rising-once [] h once = tt
rising-once (x ∷ xs) h once = (
  λ m i. above m i (first x xs h m i),
  rising-once xs (tail x xs h) (λ m. let le = times-later m x xs in let one = once m in omega (arith, le, one)),
)
  where
    above : (m : ℕ) → IsIn m xs → x ≤ m → x < m
    above m i le = go (x == m) refl
      where
        go : (b : Bool) → (x == m) ≡ b → x < m
        go true is =
            let some = IsIn-times m xs i in
            let e = times-cons m x xs in
            let one = here m x (eqb-true x m is) in
            let few = once m in
            absurd (omega (arith, some, e, one, few))
        go false is = let differ : x ≢ m = (λ same. let z : true ≡ false = sym (eq-eqb x m same) ∙ is in absurd (cc)) in omega (arith, le, differ)
