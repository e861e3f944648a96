-- What is read of a log whose bytes are in order.
use Rattle.std.proofs.Common.{◌≡◌, ℕ, zero, suc, ◌+◌, ◌≤◌, ◌==◌, List, [], ◌∷◌, ◌++◌, length, take, drop, refl, ap, sym, ◌∙◌, arith, eq-eqb, inl, inr}
use Rattle.std.proofs.lemmas.List.{append-nil}
use Rattle.std.specs.Prelude.{if◌then◌else◌, ◌⊎◌, max, false, true}
use Rattle.log_turns.specs.Disk.{numbers, front, put}

pub length-numbers : (a m : ℕ) → length (numbers a m) ≡ m
length-numbers a zero = refl
length-numbers a (suc m) = ap suc (length-numbers (suc a) m)

pub front-numbers : (a m : ℕ) → front a (numbers a m) ≡ m
front-numbers a zero = refl
front-numbers a (suc m) = rw (eq-eqb a a refl) (ap suc (front-numbers (suc a) m))

pub front-take : (k a : ℕ) (c : List ℕ) → take k c ≡ numbers a k → k ≤ front a c
front-take zero a c e = omega arith
front-take (suc k) a [] e = cc
front-take (suc k) a (b ∷ bs) e =
    let same : b ≡ a = cc in
    let rest : take k bs ≡ numbers (suc a) k = cc in
    let more : k ≤ front (suc a) bs = front-take k (suc a) bs rest in
    rw (eq-eqb b a same) (omega arith)

pub front-length : (a : ℕ) (c : List ℕ) → front a c ≤ length c
front-length a [] = omega arith
front-length a (b ∷ bs) =
    let more : front (suc a) bs ≤ length bs = front-length (suc a) bs in
    elim (b == a) as (λ v. (if v then suc (front (suc a) bs) else 0) ≤ suc (length bs)) [ true ↦ omega arith | false ↦ omega arith ]

pub take-numbers : (k m a : ℕ) → k ≤ m → take k (numbers a m) ≡ numbers a k
take-numbers zero m a h = refl
take-numbers (suc k) zero a h = absurd (omega arith)
take-numbers (suc k) (suc m) a h = ap (λ xs. a ∷ xs) (take-numbers k m (suc a) (omega arith))

pub numbers-append : (p n a b : ℕ) → b ≡ a + p → numbers a p ++ numbers b n ≡ numbers a (p + n)
numbers-append zero n a b e =
    let same : b ≡ a = omega arith in
    let none : zero + n ≡ n = omega arith in
    rw (same, none) refl
numbers-append (suc p) n a b e =
    let more : suc p + n ≡ suc (p + n) = omega arith in
    rw more (ap (λ xs. a ∷ xs) (numbers-append p n (suc a) b (omega arith)))

front_within : (n m a : ℕ) → n ≤ m → numbers a n ++ drop n (numbers a m) ≡ numbers a m
front_within zero m a h = refl
front_within (suc n) zero a h = absurd (omega arith)
front_within (suc n) (suc m) a h = ap (λ xs. a ∷ xs) (front_within n m (suc a) (omega arith))

front_beyond : (n m a : ℕ) → m ≤ n → numbers a n ++ drop n (numbers a m) ≡ numbers a n
front_beyond zero zero a h = refl
front_beyond zero (suc m) a h = absurd (omega arith)
front_beyond (suc n) zero a h = append-nil (numbers a (suc n))
front_beyond (suc n) (suc m) a h = ap (λ xs. a ∷ xs) (front_beyond n m (suc a) (omega arith))

-- what is put is what is there up to its end, and what was there behind
put_over : (p m a b n : ℕ) → p ≤ m → b ≡ a + p → put p (numbers b n) (numbers a m) ≡ numbers a (p + n) ++ drop (p + n) (numbers a m)
put_over p m a b n h e =
    let front : take p (numbers a m) ≡ numbers a p = take-numbers p m a h in
    let long : length (numbers b n) ≡ n = length-numbers b n in
    let both : numbers a p ++ numbers b n ≡ numbers a (p + n) = numbers-append p n a b e in
    rw (front, long, both) refl

pub put-within : (p m a b n : ℕ) → p + n ≤ m → b ≡ a + p → put p (numbers b n) (numbers a m) ≡ numbers a m
put-within p m a b n h e = put_over p m a b n (omega arith) e ∙ front_within (p + n) m a h

pub put-beyond : (p m a b n : ℕ) → p ≤ m → m ≤ p + n → b ≡ a + p → put p (numbers b n) (numbers a m) ≡ numbers a (p + n)
put-beyond p m a b n h k e = put_over p m a b n h e ∙ front_beyond (p + n) m a k

-- bytes that are in order, and how many they are
pub record IsFront (a from to : ℕ) (bytes : List ℕ) : Type 0 where
  pub in_order : bytes ≡ numbers a (length bytes)
  pub least : from ≤ length bytes
  pub most : length bytes ≤ to

IsFront-numbers : (a n from to : ℕ) (bytes : List ℕ) → bytes ≡ numbers a n → from ≤ n → n ≤ to → IsFront a from to bytes
IsFront-numbers a n from to bytes e h k =
    let long : length bytes ≡ n = ap length e ∙ length-numbers a n in
    record {
      in_order = e ∙ ap (numbers a) (sym long);
      least = omega arith;
      most = omega arith;
    }

pub IsFront-take : (a k : ℕ) (bytes : List ℕ) → bytes ≡ numbers a (length bytes) → k ≤ length bytes → IsFront a k k (take k bytes)
IsFront-take a k bytes e h =
    IsFront-numbers a k k k (take k bytes) (ap (take k) e ∙ take-numbers k (length bytes) a h) (omega arith) (omega arith)

pub IsFront-put :
    (a p b n : ℕ) (bytes : List ℕ) → bytes ≡ numbers a (length bytes) → p ≤ length bytes → b ≡ a + p
    → IsFront a (max (length bytes) (p + n)) (max (length bytes) (p + n)) (put p (numbers b n) bytes)
IsFront-put a p b n bytes e h f =
    elim (put_cases (length bytes) (p + n)) [
      | inl k ↦
          IsFront-numbers a (length bytes) _ _ _ (ap (put p (numbers b n)) e ∙ put-within p (length bytes) a b n k f) (omega arith) (omega arith)
      | inr k ↦
          IsFront-numbers a (p + n) _ _ _ (ap (put p (numbers b n)) e ∙ put-beyond p (length bytes) a b n h k f) (omega arith) (omega arith)
    ]
  where
    put_cases : (x y : ℕ) → (y ≤ x) ⊎ (x ≤ y)
    put_cases x y = grind arith
