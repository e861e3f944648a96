-- Levels, and the blocks that they stand in.
use Rattle.std.proofs.Common.{◌≡◌, ℕ, zero, suc, ◌+◌, ◌*◌, ◌<◌, ◌≤◌, List, [], ◌∷◌, ◌++◌, length, take, drop, get_or, refl, ap, ◌∙◌, arith}
use Rattle.std.proofs.lemmas.List.{get_or-drop, length-append, length-drop, take_more}
use Rattle.saved_form.specs.Form.{four, fours}

-- the places from those of this further block on
abbrev pub levels_from : ℕ → List ℕ → List ℕ
levels_from place levels = drop (4 + 10 * place) (levels ++ 0 ∷ [])

-- one place more is 0, as what is behind the end
get_or_one_more : (levels : List ℕ) (at : ℕ) → get_or (levels ++ 0 ∷ []) at 0 ≡ get_or levels at 0
get_or_one_more [] zero = refl
get_or_one_more [] (suc at) = refl
get_or_one_more (x ∷ levels) zero = refl
get_or_one_more (x ∷ levels) (suc at) = get_or_one_more levels at

pub level_from : (place i : ℕ) (levels : List ℕ) → get_or (levels_from place levels) i 0 ≡ get_or levels (4 + 10 * place + i) 0
level_from place i levels = get_or-drop (4 + 10 * place) (levels ++ 0 ∷ []) i 0 ∙ get_or_one_more levels (4 + 10 * place + i)

pub fours-append : (xs ys : List ℕ) → fours (xs ++ ys) ≡ fours xs ++ fours ys
fours-append [] ys = refl
fours-append (x ∷ xs) ys = ap (λ bytes. four x ++ bytes) (fours-append xs ys)

pub length-fours : (xs : List ℕ) → length (fours xs) ≡ 4 * length xs
length-fours [] = refl
length-fours (x ∷ xs) = omega (arith, length-fours xs)

-- one number more
pub fours_more : (xs : List ℕ) (i : ℕ) → i < length xs → fours (take (i + 1) xs) ≡ fours (take i xs) ++ four (get_or xs i 0)
fours_more xs i lt = ap fours (take_more xs i 0 lt) ∙ fours-append (take i xs) (get_or xs i 0 ∷ [])

-- there are ten places for each further block
pub ten_places : (place : ℕ) (levels : List ℕ) → place < 3 → length levels ≡ 33 → 10 ≤ length (levels_from place levels)
ten_places place levels lt e = omega (arith, length-drop (4 + 10 * place) (levels ++ 0 ∷ []), length-append levels (0 ∷ []))
