-- Blocks in a room of bytes.
use Rattle.std.proofs.Common.{◌≡◌, ℕ, ◌+◌, ◌-◌, ◌≤◌, List, ◌++◌, length, take, drop, ap, ◌∙◌, arith}
use Rattle.std.proofs.lemmas.List.{append_assoc, drop-drop}
use Rattle.std.proofs.lemmas.Slice.{take-put_mid, drop-put_mid}
use borrow.Rule.Slice.PartMut.{put_mid, post_of}

-- two parts that are written one behind the other
pub put_two_parts : (xs ys zs : List ℕ) (at : ℕ) → at + 48 ≤ length xs → length ys ≡ 40 → length zs ≡ 8
    → put_mid (at + 40) (at + 48 - (at + 40)) (put_mid at (at + 40 - at) xs ys) zs ≡ take at xs ++ (ys ++ zs) ++ drop (at + 48) xs
put_two_parts xs ys zs at room ly lz =
    let inner : List ℕ = put_mid at (at + 40 - at) xs ys in
    let front : take (at + 40) inner ≡ take at xs ++ ys = take-put_mid at (at + 40 - at) xs ys (at + 40) (omega arith) (omega arith) in
    let end : at + 40 + (at + 48 - (at + 40)) ≡ at + 48 = omega arith in
    let back : drop (at + 48) inner ≡ drop (at + 48) xs = drop-put_mid at (at + 40 - at) xs ys (at + 48) (omega arith) (omega arith) (omega arith) in
    let behind : post_of (at + 40) (at + 48 - (at + 40)) inner ≡ drop (at + 48) xs = drop-drop (at + 48 - (at + 40)) (at + 40) inner ∙ ap (λ n. drop n inner) end ∙ back in
    (λ i. front i ++ (zs ++ behind i)) ∙ simp append_assoc
