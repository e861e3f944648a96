-- Blocks with the checksums behind them.
use Rattle.std.proofs.Common.{◌≡◌, ℕ, ◌*◌, List, [], ◌∷◌, ◌++◌, length, refl, ap, sym, ◌∙◌, arith}
use Rattle.std.proofs.lemmas.List.{append_assoc, append-nil, length-append}
use Rattle.saved_form.specs.Crc.{crc64}
use Rattle.saved_form.specs.Form.{eight, sealed, sum_behind}

-- each block has 40 bytes that are summed
abbrev pub AreLong : List (List ℕ) → Type 0
AreLong [] = Unit {0}
AreLong (block ∷ blocks) = (length block ≡ 40) × AreLong blocks

pub sealed-append : (sum : ℕ) (xs ys : List (List ℕ)) → sealed sum (xs ++ ys) ≡ sealed sum xs ++ sealed (sum_behind sum xs) ys
unfolding sealed sum_behind
sealed-append sum [] ys = refl
sealed-append sum (x ∷ xs) ys =
    ap (λ bytes. x ++ eight (crc64 sum x) ++ bytes) (sealed-append (crc64 sum x) xs ys)
    ∙ sym (append_assoc (x ++ eight (crc64 sum x)) (sealed (crc64 sum x) xs) (sealed (sum_behind (crc64 sum x) xs) ys))

pub sum_behind-append : (sum : ℕ) (xs ys : List (List ℕ)) → sum_behind sum (xs ++ ys) ≡ sum_behind (sum_behind sum xs) ys
unfolding sum_behind
sum_behind-append sum [] ys = refl
sum_behind-append sum (x ∷ xs) ys = sum_behind-append (crc64 sum x) xs ys

pub length-sealed : (sum : ℕ) (xs : List (List ℕ)) → AreLong xs → length (sealed sum xs) ≡ 48 * length xs
unfolding sealed
length-sealed sum [] long = refl
length-sealed sum (x ∷ xs) long =
    omega (
      arith,
      length-append (x ++ eight (crc64 sum x)) (sealed (crc64 sum x) xs),
      length-append x (eight (crc64 sum x)),
      length-sealed (crc64 sum x) xs long.1,
      long.0,
    )

pub sealed_one : (sum : ℕ) (x : List ℕ) → sealed sum (x ∷ []) ≡ x ++ eight (crc64 sum x)
unfolding sealed
sealed_one sum x = append-nil (x ++ eight (crc64 sum x))

pub sum_behind_one : (sum : ℕ) (x : List ℕ) → sum_behind sum (x ∷ []) ≡ crc64 sum x
unfolding sum_behind
sum_behind_one sum x = refl
