-- The blocks of an entry, one after another.
use Rattle.std.proofs.Common.{◌≡◌, ℕ, zero, suc, ◌+◌, ◌*◌, ◌<◌, ◌≤◌, List, [], ◌∷◌, ◌++◌, length, take, true, false, refl, ap, ◌∙◌, arith, if◌then◌else◌, ◌==◌}
use Rattle.std.proofs.lemmas.List.{length-append, length-take}
use Rattle.saved_form.specs.declared.numbers.EntryNumbers.{EntryNumbers}
use Rattle.saved_form.specs.declared.numbers.CallNumbers.{CallNumbers}
use Rattle.saved_form.specs.declared.numbers.ReplyNumbers.{ReplyNumbers}
use Rattle.saved_form.specs.Form.{four, eight, fours, asked, reply_bytes, first_block, level_block, level_blocks, further, entry_blocks, entry_size}
use Rattle.std.specs.Int.{w32, cast_unsigned}
use Rattle.saved_form.proofs.Levels.{levels_from, length-fours, ten_places}
use Rattle.saved_form.proofs.Sealed.{AreLong}

-- the first block, and so many further ones
abbrev pub laid : EntryNumbers → ℕ → List (List ℕ)
laid e count = first_block e ∷ level_blocks 0 count e.reply.levels

pub entry_blocks_laid : (e : EntryNumbers) → entry_blocks e ≡ laid e (further e.reply.kind e.reply.count)
unfolding entry_blocks
entry_blocks_laid e = refl

pub length-level_blocks : (place count : ℕ) (levels : List ℕ) → length (level_blocks place count levels) ≡ count
unfolding level_blocks
length-level_blocks place zero levels = refl
length-level_blocks place (suc count) levels = ap suc (length-level_blocks (suc place) count levels)

pub level_blocks_more : (place count : ℕ) (levels : List ℕ)
    → level_blocks place (count + 1) levels ≡ level_blocks place count levels ++ level_block (place + count) levels ∷ []
unfolding level_blocks
level_blocks_more place zero levels = let e : place ≡ place + 0 = omega arith in ap (λ n. level_block n levels ∷ []) e
level_blocks_more place (suc count) levels =
    let e : suc place + count ≡ place + suc count = omega arith in
    let n : suc count + 1 ≡ suc (count + 1) = omega arith in
    ap (λ m. level_blocks place m levels) n
    ∙ ap (λ blocks. level_block place levels ∷ blocks)
    (level_blocks_more (suc place) count levels ∙ ap (λ n. level_blocks (suc place) count levels ++ level_block n levels ∷ []) e)

pub laid_more : (e : EntryNumbers) (count : ℕ) → laid e (count + 1) ≡ laid e count ++ level_block count e.reply.levels ∷ []
laid_more e count = ap (λ blocks. first_block e ∷ blocks) (level_blocks_more 0 count e.reply.levels ∙ ap (λ n. level_blocks 0 count e.reply.levels ++ level_block n e.reply.levels ∷ []) at)
  where
    at : 0 + count ≡ count
    at = omega arith

pub entry_size_is : (e : EntryNumbers) → entry_size e ≡ 48 * (1 + further e.reply.kind e.reply.count)
entry_size_is e =
    ap (λ blocks. 48 * length blocks) (entry_blocks_laid e)
    ∙ ap (λ n. 48 * suc n) (length-level_blocks 0 (further e.reply.kind e.reply.count) e.reply.levels) ∙ omega arith

pub asked_long : (c : CallNumbers) → length (asked c) ≡ 8
unfolding asked
asked_long c = elim (c.operation == 7) as (λ b. length (if b then four (cast_unsigned w32 c.pid) ++ four (cast_unsigned w32 c.pgid) else eight c.id) ≡ 8) [ true ↦ refl | false ↦ refl ]

told_long : (r : ReplyNumbers) → length r.levels ≡ 33 → length (reply_bytes r) ≡ 16
unfolding reply_bytes
told_long r long = elim (r.kind == 3) as (λ b. length (if b then fours (take 4 r.levels) else eight r.first ++ eight r.second) ≡ 16)
    [ true ↦ omega (arith, length-fours (take 4 r.levels), length-take 4 r.levels) | false ↦ refl ]

pub first_block_long : (e : EntryNumbers) → length e.reply.levels ≡ 33 → length (first_block e) ≡ 40
unfolding first_block
first_block_long e long =
    let front : List ℕ =
    e.call.operation ∷ e.call.choice ∷ e.worker ∷ e.reply.kind ∷ e.reply.errno ∷ e.reply.refusal ∷ e.reply.count ∷ 0 ∷ []
    ++ four e.call.caller ++ four e.call.number in
    omega (arith, length-append (front ++ asked e.call) (reply_bytes e.reply), length-append front (asked e.call), asked_long e.call, told_long e.reply long)

pub level_block_long : (place : ℕ) (levels : List ℕ) → place < 3 → length levels ≡ 33 → length (level_block place levels) ≡ 40
unfolding level_block
level_block_long place levels lt long =
    omega (arith, length-fours (take 10 (levels_from place levels)), length-take 10 (levels_from place levels), ten_places place levels lt long)

level_blocks_long : (place count : ℕ) (levels : List ℕ) → place + count ≤ 3 → length levels ≡ 33 → AreLong (level_blocks place count levels)
unfolding level_blocks
level_blocks_long place zero levels le long = tt
level_blocks_long place (suc count) levels le long =
    (level_block_long place levels (omega arith) long, level_blocks_long (suc place) count levels (omega arith) long)

pub laid_long : (e : EntryNumbers) (count : ℕ) → count ≤ 3 → length e.reply.levels ≡ 33 → AreLong (laid e count)
laid_long e count le long = (first_block_long e long, level_blocks_long 0 count e.reply.levels (omega arith) long)
