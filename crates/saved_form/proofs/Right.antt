-- Blocks whose checksums are right.
use Rattle.std.proofs.Common.{◌≡◌, ℕ, zero, suc, ◌+◌, ◌*◌, ◌<◌, ◌≤◌, ◌^◌, List, [], ◌∷◌, ◌++◌, length, take, drop, refl, ap, sym, ◌∙◌, arith}
use Rattle.std.proofs.lemmas.List.{append_cancel_left, drop-drop}
use lib.Seq.{take-add}
use Rattle.saved_form.specs.Crc.{crc64}
use Rattle.saved_form.specs.Form.{eight, sealed, sum_behind}
use Rattle.saved_form.specs.Taking.{bodies, AreRight}
use Rattle.saved_form.proofs.Sealed.{sealed-append, sealed_one}

pub bodies_more : (count : ℕ) (bytes : List ℕ) → bodies (count + 1) bytes ≡ bodies count bytes ++ take 40 (drop (48 * count) bytes) ∷ []
unfolding bodies
bodies_more zero bytes = refl
bodies_more (suc count) bytes =
    let e : suc count + 1 ≡ suc (count + 1) = omega arith in
    let at : 48 + 48 * count ≡ 48 * suc count = omega arith in
    ap (λ n. bodies n bytes) e
    ∙ ap (λ blocks. take 40 bytes ∷ blocks)
    (bodies_more count (drop 48 bytes)
    ∙ ap (λ rest. bodies count (drop 48 bytes) ++ take 40 rest ∷ []) (drop-drop (48 * count) 48 bytes ∙ ap (λ n. drop n bytes) at))

pub crc64_fits : (sum : ℕ) (bytes : List ℕ) → crc64 sum bytes < 2 ^ 64
unfolding crc64
crc64_fits sum bytes = omega arith

pub none_right : (sum : ℕ) (bytes : List ℕ) → AreRight 0 sum bytes
unfolding bodies sealed
none_right sum bytes = record { there = omega arith; sums = refl }

-- what the checksum behind the next block should be
abbrev pub wanted_at : ℕ → ℕ → List ℕ → ℕ
wanted_at count sum bytes = crc64 (sum_behind sum (bodies count bytes)) (take 40 (drop (48 * count) bytes))

front_more : (count : ℕ) (bytes : List ℕ) → take (48 * (count + 1)) bytes
    ≡ take (48 * count) bytes ++ (take 40 (drop (48 * count) bytes) ++ take 8 (drop (48 * count + 40) bytes))
front_more count bytes =
    let at : ℕ = 48 * count in
    let e : 48 * (count + 1) ≡ at + (40 + 8) = omega arith in
    ap (λ n. take n bytes) e ∙ take-add at (40 + 8) bytes
    ∙ ap (λ rest. take at bytes ++ rest) (take-add 40 8 (drop at bytes) ∙ ap (λ rest. take 40 (drop at bytes) ++ take 8 rest) (drop-drop 40 at bytes))

sealed_more : (count sum : ℕ) (bytes : List ℕ) → sealed sum (bodies (count + 1) bytes)
    ≡ sealed sum (bodies count bytes) ++ (take 40 (drop (48 * count) bytes) ++ eight (wanted_at count sum bytes))
sealed_more count sum bytes =
    ap (sealed sum) (bodies_more count bytes)
    ∙ sealed-append sum (bodies count bytes) (take 40 (drop (48 * count) bytes) ∷ [])
    ∙ ap (λ rest. sealed sum (bodies count bytes) ++ rest) (sealed_one (sum_behind sum (bodies count bytes)) (take 40 (drop (48 * count) bytes)))

-- one block more is right where its checksum is the one that is wanted, and only there
pub right_more : (count sum : ℕ) (bytes : List ℕ) → 48 * (count + 1) ≤ length bytes → AreRight count sum bytes
    → take 8 (drop (48 * count + 40) bytes) ≡ eight (wanted_at count sum bytes) → AreRight (count + 1) sum bytes
right_more count sum bytes room before is = record {
  there = room;
  sums =
      front_more count bytes
      ∙ (λ i. before.sums i ++ (take 40 (drop (48 * count) bytes) ++ is i))
      ∙ sym (sealed_more count sum bytes);
}

pub wanted_from_right : (count sum : ℕ) (bytes : List ℕ) → AreRight count sum bytes → AreRight (count + 1) sum bytes
    → take 8 (drop (48 * count + 40) bytes) ≡ eight (wanted_at count sum bytes)
wanted_from_right count sum bytes before more =
    let body : List ℕ = take 40 (drop (48 * count) bytes) in
    append_cancel_left body _ _ (append_cancel_left (sealed sum (bodies count bytes)) _ _
    (ap (λ front. front ++ (body ++ take 8 (drop (48 * count + 40) bytes))) (sym before.sums)
    ∙ sym (front_more count bytes) ∙ more.sums ∙ sealed_more count sum bytes))
