-- A block that is written behind others.
use Rattle.std.proofs.Common.{◌≡◌, ℕ, ◌+◌, ◌*◌, List, [], ◌∷◌, ◌++◌, length, take, drop, ap, sym, ◌∙◌}
use Rattle.std.proofs.lemmas.List.{take_at, drop_at, drop-drop}
use Rattle.saved_form.specs.Crc.{crc64}
use Rattle.saved_form.specs.Form.{eight, sealed, sum_behind}
use Rattle.saved_form.proofs.Sealed.{AreLong, sealed-append, sum_behind-append, length-sealed, sealed_one, sum_behind_one}

-- what stands in the room once a block is written behind the blocks
pub put_behind : (sum : ℕ) (blocks : List (List ℕ)) (block room old : List ℕ) (at : ℕ)
    → AreLong blocks → at ≡ 48 * length blocks → room ≡ sealed sum blocks ++ drop at old
    → take at room ++ (block ++ eight (crc64 (sum_behind sum blocks) block)) ++ drop (at + 48) room
    ≡ sealed sum (blocks ++ block ∷ []) ++ drop (at + 48) old
put_behind sum blocks block room old at long place is =
    let front : List ℕ = sealed sum blocks in
    let size : length front ≡ at = length-sealed sum blocks long ∙ sym place in
    let before : take at room ≡ front = ap (take at) is ∙ take_at front (drop at old) at size in
    let behind : drop (at + 48) room ≡ drop (at + 48) old =
    sym (drop-drop 48 at room) ∙ ap (drop 48) (ap (drop at) is ∙ drop_at front (drop at old) at size) ∙ drop-drop 48 at old in
    let whole : sealed sum (blocks ++ block ∷ []) ≡ front ++ (block ++ eight (crc64 (sum_behind sum blocks) block)) =
    sealed-append sum blocks (block ∷ []) ∙ ap (λ bytes. front ++ bytes) (sealed_one (sum_behind sum blocks) block) in
    (λ i. before i ++ (block ++ eight (crc64 (sum_behind sum blocks) block)) ++ behind i) ∙ ap (λ bytes. bytes ++ drop (at + 48) old) (sym whole)

pub sum_behind_more : (sum : ℕ) (blocks : List (List ℕ)) (block : List ℕ) → sum_behind sum (blocks ++ block ∷ []) ≡ crc64 (sum_behind sum blocks) block
sum_behind_more sum blocks block = sum_behind-append sum blocks (block ∷ []) ∙ sum_behind_one (sum_behind sum blocks) block
