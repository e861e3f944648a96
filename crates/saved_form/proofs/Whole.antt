-- What is at the front of bytes: an entry, a torn one, or a wrong byte, and never two of them.
use Rattle.std.proofs.Common.{◌≡◌, ℕ, zero, suc, ◌+◌, ◌-◌, ◌*◌, ◌/◌, ◌≤◌, List, [], ◌∷◌, ◌++◌, length, take, drop, get_or, true, false, refl, ap, sym, inl, inr, subst, ◌∙◌, arith, if◌then◌else◌, ◌==◌}
use Rattle.std.proofs.lemmas.Bool.Decides.{eqb_tells}
use Rattle.std.proofs.lemmas.List.{take_at, drop_at, drop-drop, take-take, take-append-drop, length-take, length-take-le, length-drop}
use Rattle.saved_form.specs.declared.numbers.EntryNumbers.{EntryNumbers}
use Rattle.saved_form.specs.Crc.{crc64}
use Rattle.saved_form.specs.Form.{eight, sealed, entry_blocks, further}
use Rattle.saved_form.specs.Places.{HasPlaces, FitsTypes}
use Rattle.saved_form.specs.Taking.IsWrongAt.{by_sum, too_many_levels, no_entry}
use Rattle.saved_form.specs.Taking.{bodies, blocks_said, AreRight, BeginsEntry, IsTorn, IsWholeEntry, IsWrongSum, IsWrongAt}
use Rattle.saved_form.proofs.Fronts.{regroup, begins_headed}
use Rattle.saved_form.proofs.Laid.{laid_long, entry_blocks_laid, length-level_blocks}
use Rattle.saved_form.proofs.Said.{further_none, said_plain, said_levels}
use Rattle.saved_form.proofs.Sealed.{AreLong, sealed-append, length-sealed}

-- what is summed of blocks that stand in bytes
bodies_sealed : (sum : ℕ) (blocks : List (List ℕ)) (rest : List ℕ) → AreLong blocks → bodies (length blocks) (sealed sum blocks ++ rest) ≡ blocks
unfolding bodies sealed
bodies_sealed sum [] rest long = refl
bodies_sealed sum (block ∷ blocks) rest long =
    let next : List ℕ = eight (crc64 sum block) in
    let more : List ℕ = sealed (crc64 sum block) blocks in
    let bytes : List ℕ = (block ++ next ++ more) ++ rest in
    let shape : bytes ≡ block ++ (next ++ (more ++ rest)) = regroup block next more rest in
    let first : take 40 bytes ≡ block = ap (take 40) shape ∙ take_at block (next ++ (more ++ rest)) 40 long.0 in
    let behind : drop 48 bytes ≡ more ++ rest =
    sym (drop-drop 8 40 bytes) ∙ ap (drop 8) (ap (drop 40) shape ∙ drop_at block (next ++ (more ++ rest)) 40 long.0) in
    (λ i. first i ∷ (ap (bodies (length blocks)) behind ∙ bodies_sealed (crc64 sum block) blocks rest long.1) i)

pub further_few : (kind count : ℕ) → count ≤ 33 → further kind count ≤ 3
further_few kind count few = elim (kind == 3) as (λ b. (if b then (count + 5) / 10 else 0) ≤ 3) [ true ↦ omega arith | false ↦ omega arith ]

entry_long : (e : EntryNumbers) → HasPlaces e → FitsTypes e → AreLong (entry_blocks e)
entry_long e places fits =
    let count : ℕ = further e.reply.kind e.reply.count in
    let few : count ≤ 3 = further_few e.reply.kind e.reply.count places.reply.count in
    subst AreLong (sym (entry_blocks_laid e)) (laid_long e count few fits.length)

pub begins_bodies : (sum : ℕ) (e : EntryNumbers) (bytes : List ℕ) → HasPlaces e → FitsTypes e → BeginsEntry sum e bytes
    → bodies (length (entry_blocks e)) bytes ≡ entry_blocks e
begins_bodies sum e bytes places fits begins =
    let size : ℕ = 48 * length (entry_blocks e) in
    let whole : bytes ≡ sealed sum (entry_blocks e) ++ drop size bytes =
    sym (take-append-drop size bytes) ∙ ap (λ front. front ++ drop size bytes) begins in
    ap (bodies (length (entry_blocks e))) whole ∙ bodies_sealed sum (entry_blocks e) (drop size bytes) (entry_long e places fits)

begins_right : (sum : ℕ) (e : EntryNumbers) (bytes : List ℕ) → HasPlaces e → FitsTypes e → BeginsEntry sum e bytes
    → AreRight (length (entry_blocks e)) sum bytes
begins_right sum e bytes places fits begins =
    let size : ℕ = 48 * length (entry_blocks e) in
    record {
      there = omega (arith, length-take size bytes, ap (length {A = ℕ}) begins, length-sealed sum (entry_blocks e) (entry_long e places fits));
      sums = begins ∙ ap (sealed sum) (sym (begins_bodies sum e bytes places fits begins));
    }

begins_said : (sum : ℕ) (e : EntryNumbers) (bytes : List ℕ) → HasPlaces e → BeginsEntry sum e bytes
    → blocks_said bytes ≡ length (entry_blocks e)
begins_said sum e bytes places begins =
    let found = begins_headed sum e bytes begins in
    let kind : get_or bytes 3 0 ≡ e.reply.kind = ap (λ front. get_or front 3 0) found.1 in
    let count : get_or bytes 6 0 ≡ e.reply.count = ap (λ front. get_or front 6 0) found.1 in
    let blocks : length (entry_blocks e) ≡ 1 + further e.reply.kind e.reply.count =
    ap (length {A = List ℕ}) (entry_blocks_laid e) ∙ omega (arith, length-level_blocks 0 (further e.reply.kind e.reply.count) e.reply.levels) in
    elim (eqb_tells e.reply.kind 3) [
      | inl at ↦ said_levels bytes (kind ∙ at.1) (omega (arith, count, places.reply.count))
          ∙ (λ i. 1 + further (kind i) (count i)) ∙ sym blocks
      | inr away ↦ said_plain bytes (ap (λ n. n == 3) kind ∙ away.0)
          ∙ omega (arith, blocks, further_none e.reply.kind e.reply.count away.0)
    ]

-- where an entry begins the bytes, its blocks are there and right
pub begins_whole : (sum : ℕ) (e : EntryNumbers) (bytes : List ℕ) → HasPlaces e → FitsTypes e → BeginsEntry sum e bytes → IsWholeEntry sum bytes
begins_whole sum e bytes places fits begins =
    let said : blocks_said bytes ≡ length (entry_blocks e) = begins_said sum e bytes places begins in
    record {
      some = omega (arith, said, ap (length {A = List ℕ}) (entry_blocks_laid e));
      right = subst (λ n. AreRight n sum bytes) (sym said) (begins_right sum e bytes places fits begins);
    }

bodies-add : (a b : ℕ) (bytes : List ℕ) → bodies (a + b) bytes ≡ bodies a bytes ++ bodies b (drop (48 * a) bytes)
unfolding bodies
bodies-add zero b bytes = let e : 0 + b ≡ b = omega arith in ap (λ n. bodies n bytes) e
bodies-add (suc a) b bytes =
    let e : suc a + b ≡ suc (a + b) = omega arith in
    let at : 48 + 48 * a ≡ 48 * suc a = omega arith in
    ap (λ n. bodies n bytes) e
    ∙ ap (λ blocks. take 40 bytes ∷ blocks)
    (bodies-add a b (drop 48 bytes) ∙ ap (λ rest. bodies a (drop 48 bytes) ++ bodies b rest) (drop-drop (48 * a) 48 bytes ∙ ap (λ n. drop n bytes) at))

length-bodies : (count : ℕ) (bytes : List ℕ) → length (bodies count bytes) ≡ count
unfolding bodies
length-bodies zero bytes = refl
length-bodies (suc count) bytes = ap suc (length-bodies count (drop 48 bytes))

bodies_long : (count : ℕ) (bytes : List ℕ) → 48 * count ≤ length bytes → AreLong (bodies count bytes)
unfolding bodies
bodies_long zero bytes room = tt
bodies_long (suc count) bytes room =
    (length-take-le 40 bytes (omega arith), bodies_long count (drop 48 bytes) (omega (arith, length-drop 48 bytes)))

-- fewer blocks of those that are right are right
pub right_front : (a b sum : ℕ) (bytes : List ℕ) → AreRight (a + b) sum bytes → AreRight a sum bytes
right_front a b sum bytes right =
    let cut : take (48 * a) bytes ≡ sealed sum (bodies a bytes) =
    sym (take-take (48 * a) (48 * (a + b)) bytes (omega arith)) ∙ ap (take (48 * a)) right.sums
    ∙ ap (λ blocks. take (48 * a) (sealed sum blocks)) (bodies-add a b bytes)
    ∙ ap (take (48 * a)) (sealed-append sum (bodies a bytes) (bodies b (drop (48 * a) bytes)))
    ∙ take_at (sealed sum (bodies a bytes)) _ (48 * a)
    (length-sealed sum (bodies a bytes) (bodies_long a bytes (omega (arith, right.there))) ∙ ap (λ n. 48 * n) (length-bodies a bytes)) in
    record { there = omega (arith, right.there); sums = cut }

torn_not_whole : (sum wanted : ℕ) (bytes : List ℕ) → IsTorn sum bytes wanted → IsWholeEntry sum bytes → ⊥
torn_not_whole sum wanted bytes torn whole =
    elim torn [
      | inl short ↦ omega (arith, short.0, whole.some, whole.right.there)
      | inr within ↦ omega (arith, within.0.fewer, whole.right.there)
    ]

torn_not_wrong_sum : (sum count wanted : ℕ) (bytes : List ℕ) → IsTorn sum bytes wanted → IsWrongSum count sum bytes → ⊥
torn_not_wrong_sum sum count wanted bytes torn bad =
    elim torn [
      | inl short ↦ omega (arith, short.0, bad.there)
      | inr within ↦
          let whole : ℕ = length bytes / 48 in
          let split : whole ≡ count + 1 + (whole - (count + 1)) = omega (arith, bad.there) in
          bad.wrong (right_front (count + 1) (whole - (count + 1)) sum bytes (subst (λ n. AreRight n sum bytes) split within.0.right))
    ]

pub torn_not_wrong : (sum wanted place : ℕ) (bytes : List ℕ) → IsTorn sum bytes wanted → IsWrongAt sum bytes place → ⊥
torn_not_wrong sum wanted _ bytes torn (by_sum count bad) = torn_not_wrong_sum sum count wanted bytes torn bad
torn_not_wrong sum wanted _ bytes torn (too_many_levels there none) =
    elim torn [
      | inl short ↦ omega (arith, short.0, there)
      | inr within ↦ omega (arith, within.0.fewer, none)
    ]
torn_not_wrong sum wanted _ bytes torn (no_entry whole) = torn_not_whole sum wanted bytes torn whole

pub torn_one : (sum a b : ℕ) (bytes : List ℕ) → IsTorn sum bytes a → IsTorn sum bytes b → a ≡ b
torn_one sum a b bytes ta tb =
    elim ta [
      | inl short ↦ elim tb [ inl other ↦ short.1 ∙ sym other.1 | inr within ↦ absurd (omega (arith, short.0, within.0.there)) ]
      | inr within ↦ elim tb [ inl short ↦ absurd (omega (arith, short.0, within.0.there)) | inr other ↦ within.1 ∙ sym other.1 ]
    ]
