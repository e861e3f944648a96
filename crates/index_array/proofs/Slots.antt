-- The slots of a leaf, by its word of presence and its values.
use Rattle.std.proofs.Common.{ℕ, zero, suc, ◌≡◌, ◌≢◌, ◌+◌, ◌<◌, ◌≤◌, sym, ap, ◌∙◌, arith, refl, List, [], ◌∷◌, length, get_or, replicate, Bool, true, false, is_some, Option, Some, None, inl, inr}
use Rattle.std.specs.Prelude.{if◌then◌else◌}
use Rattle.std.specs.Option.{unwrap_or}
use Rattle.std.proofs.Math.ListN.{set}
use Rattle.std.proofs.lemmas.List.{get_or-set_same, get_or-set_other, length-set, ext_get_or}
use Rattle.std.proofs.lemmas.Bool.{cases_eq}
use Rattle.index_array.specs.Words.{has_bit}
use Rattle.index_array.specs.Tree.{slots_from}

pub length-slots_from : (p k : ℕ) (vs : List ℕ) → length (slots_from p k vs) ≡ length vs
length-slots_from p k [] = refl
length-slots_from p k (v ∷ vs) = ap suc (length-slots_from p (suc k) vs)

-- a slot has its value where its bit is set
abbrev slot_if : Bool → ℕ → Option ℕ
slot_if on v = if on then Some v else None

get_or-slots_from : (p k : ℕ) (vs : List ℕ) (j : ℕ) → j < length vs → get_or (slots_from p k vs) j None ≡ slot_if (has_bit p (k + j)) (get_or vs j 0)
get_or-slots_from p k [] j b = absurd (omega (arith, b))
get_or-slots_from p k (v ∷ vs) zero b = ap (λ n. slot_if (has_bit p n) v) (omega arith)
get_or-slots_from p k (v ∷ vs) (suc j) b =
    get_or-slots_from p (suc k) vs j (omega (arith, b)) ∙ ap (λ n. slot_if (has_bit p n) (get_or vs j 0)) (omega arith)

slot_is : (p : ℕ) (vs : List ℕ) (j : ℕ) → j < length vs → get_or (slots_from p 0 vs) j None ≡ slot_if (has_bit p j) (get_or vs j 0)
slot_is p vs j b = get_or-slots_from p 0 vs j b ∙ ap (λ n. slot_if (has_bit p n) (get_or vs j 0)) (omega arith)

pub slot_some : (p : ℕ) (vs : List ℕ) (j : ℕ) → j < length vs → has_bit p j ≡ true → get_or (slots_from p 0 vs) j None ≡ Some (get_or vs j 0)
slot_some p vs j b on = slot_is p vs j b ∙ ap (λ t. slot_if t (get_or vs j 0)) on

pub slot_none : (p : ℕ) (vs : List ℕ) (j : ℕ) → j < length vs → has_bit p j ≡ false → get_or (slots_from p 0 vs) j None ≡ None
slot_none p vs j b off = slot_is p vs j b ∙ ap (λ t. slot_if t (get_or vs j 0)) off

-- a slot of which the value is written, and the bit set where there is one
pub slots_set : (p p' : ℕ) (vs : List ℕ) (i : ℕ) (o : Option ℕ) → length vs ≡ 64 → i < 64 → has_bit p' i ≡ is_some o → ((j : ℕ) → j < 64 → j ≢ i → has_bit p' j ≡ has_bit p j) → slots_from p' 0 (set vs i (unwrap_or o 0)) ≡ set (slots_from p 0 vs) i o
slots_set p p' vs i o n b here others =
    ext_get_or None (slots_from p' 0 (set vs i (unwrap_or o 0))) (set (slots_from p 0 vs) i o) (new ∙ sym old) (λ j within. each j (omega (arith, new, n, within)))
  where
    new : length (slots_from p' 0 (set vs i (unwrap_or o 0))) ≡ length vs
    new = length-slots_from p' 0 (set vs i (unwrap_or o 0)) ∙ length-set vs i (unwrap_or o 0)

    old : length (set (slots_from p 0 vs) i o) ≡ length vs
    old = length-set (slots_from p 0 vs) i o ∙ length-slots_from p 0 vs

    written : (q : Option ℕ) → slot_if (is_some q) (unwrap_or q 0) ≡ q
    written None = refl
    written (Some v) = refl

    each : (j : ℕ) → j < 64 → get_or (slots_from p' 0 (set vs i (unwrap_or o 0))) j None ≡ get_or (set (slots_from p 0 vs) i o) j None
    each j below =
        slot_is p' (set vs i (unwrap_or o 0)) j (omega (arith, length-set vs i (unwrap_or o 0), n, below)) ∙ elim (cases_eq j i) [
          | inl same ↦
              ap (λ m. slot_if (has_bit p' m) (get_or (set vs i (unwrap_or o 0)) m 0)) same ∙ ap (λ t. slot_if t (get_or (set vs i (unwrap_or o 0)) i 0)) here ∙ ap (slot_if (is_some o)) (get_or-set_same vs i (unwrap_or o 0) 0 (omega (arith, n, b))) ∙ written o ∙ sym (ap (λ m. get_or (set (slots_from p 0 vs) i o) m None) same ∙ get_or-set_same (slots_from p 0 vs) i o None (omega (arith, length-slots_from p 0 vs, n, b)))
          | inr ne ↦
              ap (λ t. slot_if t (get_or (set vs i (unwrap_or o 0)) j 0)) (others j below ne) ∙ ap (slot_if (has_bit p j)) (get_or-set_other vs i j (unwrap_or o 0) 0 ne) ∙ sym (slot_is p vs j (omega (arith, n, below))) ∙ sym (get_or-set_other (slots_from p 0 vs) i j o None ne)
        ]

-- a slot of which the bit is cleared
pub slots_cleared : (p p' : ℕ) (vs : List ℕ) (i : ℕ) → length vs ≡ 64 → i < 64 → has_bit p' i ≡ false → ((j : ℕ) → j < 64 → j ≢ i → has_bit p' j ≡ has_bit p j) → slots_from p' 0 vs ≡ set (slots_from p 0 vs) i None
slots_cleared p p' vs i n b off others =
    ext_get_or None (slots_from p' 0 vs) (set (slots_from p 0 vs) i None) (length-slots_from p' 0 vs ∙ sym old) (λ j within. each j (omega (arith, length-slots_from p' 0 vs, n, within)))
  where
    old : length (set (slots_from p 0 vs) i None) ≡ length vs
    old = length-set (slots_from p 0 vs) i None ∙ length-slots_from p 0 vs

    each : (j : ℕ) → j < 64 → get_or (slots_from p' 0 vs) j None ≡ get_or (set (slots_from p 0 vs) i None) j None
    each j below =
        slot_is p' vs j (omega (arith, n, below)) ∙ elim (cases_eq j i) [
          | inl same ↦
              ap (λ m. slot_if (has_bit p' m) (get_or vs m 0)) same ∙ ap (λ t. slot_if t (get_or vs i 0)) off ∙ sym (ap (λ m. get_or (set (slots_from p 0 vs) i None) m None) same ∙ get_or-set_same (slots_from p 0 vs) i None None (omega (arith, length-slots_from p 0 vs, n, b)))
          | inr ne ↦
              ap (λ t. slot_if t (get_or vs j 0)) (others j below ne) ∙ sym (slot_is p vs j (omega (arith, n, below))) ∙ sym (get_or-set_other (slots_from p 0 vs) i j None None ne)
        ]

-- where no bit is set nothing stands in a slot
pub slots_empty : (p k n : ℕ) → ((j : ℕ) → j < 64 → has_bit p j ≡ false) → k + n ≤ 64 → slots_from p k (replicate n 0) ≡ replicate n None
slots_empty p k zero off fits = refl
slots_empty p k (suc n) off fits =
    ap (λ t. slot_if t 0 ∷ slots_from p (suc k) (replicate n 0)) (off k (omega (arith, fits))) ∙ ap (λ xs. None ∷ xs) (slots_empty p (suc k) n off (omega (arith, fits)))
