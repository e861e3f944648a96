-- The numbers from a namespace inwards.
use Rattle.std.proofs.Common.{◌≡◌, ℕ, zero, suc, ◌<◌, true, false, ◌==◌, List, [], ◌∷◌, ◌++◌, length, get_or, take, drop, ◌-◌, ◌+◌, ◌≤◌, take-suc, if◌then◌else◌, refl, sym, ap, ◌∙◌, arith}
use Rattle.pid_numbers.proofs.Words.{reverse, slice_set, eq-eqb, or_parts, false_from_ne_true, length-reverse, reverse-append, contains, beside_from, IsDistinct}
use Rattle.pid_numbers.proofs.Words.{contains_at, place_of}
use Rattle.std.proofs.lemmas.List.Sorted.{list_any-IsPermutation, IsPermutation-reverse}

contains-reverse : (ts : List ℕ) (s : ℕ) → contains (reverse ts) s ≡ contains ts s
contains-reverse ts s = sym (list_any-IsPermutation (λ m. m == s) ts (reverse ts) (IsPermutation-reverse ts))

-- one level more
from-snoc : (s t n : ℕ) (ts ns : List ℕ) → length ts ≡ length ns
    → beside_from s (ts ++ t ∷ []) (ns ++ n ∷ []) ≡ (if contains ts s then beside_from s ts ns ++ n ∷ [] else (if t == s then n ∷ [] else []))
from-snoc s t n [] [] e = refl
from-snoc s t n [] (m ∷ ms) e = absurd (omega (arith, e))
from-snoc s t n (u ∷ us) [] e = absurd (omega (arith, e))
from-snoc s t n (u ∷ us) (m ∷ ms) e = grind (arith, from-snoc s t n us ms)

module _ (s t n : ℕ) (ts ns : List ℕ) (len : length ns ≡ length ts) where
  outwards : beside_from s (reverse (t ∷ ts)) (reverse (n ∷ ns)) ≡ (if contains ts s then beside_from s (reverse ts) (reverse ns) ++ n ∷ [] else (if t == s then n ∷ [] else []))
  outwards =
      ap (λ p. beside_from s p (reverse (n ∷ ns))) (reverse-append (t ∷ []) ts) ∙ ap (λ q. beside_from s (reverse ts ++ t ∷ []) q) (reverse-append (n ∷ []) ns)
      ∙ from-snoc s t n (reverse ts) (reverse ns) (length-reverse ts ∙ sym len ∙ sym (length-reverse ns))
      ∙ ap (λ b. if b then beside_from s (reverse ts) (reverse ns) ++ n ∷ [] else (if t == s then n ∷ [] else [])) (contains-reverse ts s)

-- they are the first ones up to the namespace's place, the other way round
pub from-place : (s : ℕ) (path numbers : List ℕ) → IsDistinct path → length numbers ≡ length path → (k : ℕ) → k < length path → get_or path k 0 ≡ s → beside_from s (reverse path) (reverse numbers) ≡ reverse (take (suc k) numbers)
from-place s [] numbers d len k lt at = absurd (omega (arith, lt))
from-place s (t ∷ ts) [] d len k lt at = absurd (omega (arith, len))
from-place s (t ∷ ts) (n ∷ ns) d len zero lt at =
    let off = false_from_ne_true (contains ts s) (λ on. let p = place_of ts s on in d 0 (suc p.0) (omega arith) (omega (arith, p.1)) (at ∙ sym p.2)) in
    outwards s t n ts ns (omega (arith, len)) ∙ rw (off, eq-eqb t s at) refl
from-place s (t ∷ ts) (n ∷ ns) d len (suc k) lt at =
    let low : k < length ts = omega (arith, lt) in
    let on : contains ts s ≡ true = ap (contains ts) (sym at) ∙ contains_at ts k low in
    outwards s t n ts ns (omega (arith, len))
    ∙ ap (λ b. if b then beside_from s (reverse ts) (reverse ns) ++ n ∷ [] else (if t == s then n ∷ [] else [])) on
    ∙ ap (λ l. l ++ n ∷ []) (from-place s ts ns (λ i j a b e. d (suc i) (suc j) (omega (arith, a)) (omega (arith, b)) e) (omega (arith, len)) k low at)
    ∙ sym (reverse-append (n ∷ []) (take (suc k) ns))

-- and none where it is not on the path
pub from-none : (s : ℕ) (path numbers : List ℕ) → contains path s ≡ false → beside_from s (reverse path) (reverse numbers) ≡ []
from-none s path numbers off = go (reverse path) (reverse numbers) (contains-reverse path s ∙ off)
  where
    go : (ts ns : List ℕ) → contains ts s ≡ false → beside_from s ts ns ≡ []
    go [] ns off = refl
    go (t ∷ ts) [] off = refl
    go (t ∷ ts) (n ∷ ns) off = grind (arith, or_parts, go ts ns)

-- A room whose last numbers are written from the back: one more.
set-last : (m x : ℕ) (xs rest : List ℕ) → m < length xs → slice_set (take (suc m) xs ++ rest) m x ≡ take m xs ++ x ∷ rest
set-last m x [] rest lt = absurd (omega (arith, lt))
set-last zero x (y ∷ ys) rest lt = refl
set-last (suc m) x (y ∷ ys) rest lt = ap (λ l. y ∷ l) (set-last m x ys rest (omega (arith, lt)))

pub one-more : (numbers room : List ℕ) (count k : ℕ) → k < count → count ≤ length numbers → count ≤ length room
    → slice_set (take (count - k) room ++ (reverse (take k numbers) ++ drop count room)) (count - 1 - k) (get_or numbers k 0)
    ≡ take (count - (k + 1)) room ++ (reverse (take (k + 1) numbers) ++ drop count room)
one-more numbers room count k lt there fits =
    let m = count - (k + 1) in
    let left : count - k ≡ suc m = omega (arith, lt) in
    let at : count - 1 - k ≡ m = omega (arith, lt) in
    let next : k + 1 ≡ suc k = omega arith in
    let more : reverse (take (suc k) numbers) ≡ get_or numbers k 0 ∷ reverse (take k numbers) =
    ap reverse (take-suc numbers k 0 (omega (arith, lt, there))) ∙ reverse-append (take k numbers) (get_or numbers k 0 ∷ []) in
    ap (λ n. slice_set (take n room ++ (reverse (take k numbers) ++ drop count room)) (count - 1 - k) (get_or numbers k 0)) left
    ∙ ap (λ n. slice_set (take (suc m) room ++ (reverse (take k numbers) ++ drop count room)) n (get_or numbers k 0)) at
    ∙ set-last m (get_or numbers k 0) room (reverse (take k numbers) ++ drop count room) (omega (arith, lt, fits))
    ∙ ap (λ l. take m room ++ (l ++ drop count room)) (sym more)
    ∙ ap (λ n. take m room ++ (reverse (take n numbers) ++ drop count room)) (sym next)
