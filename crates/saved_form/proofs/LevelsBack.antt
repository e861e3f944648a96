-- An entry's levels, read again.
use Rattle.std.proofs.Common.{◌≡◌, ℕ, zero, suc, ◌+◌, ◌-◌, ◌*◌, ◌/◌, ◌%◌, ◌<◌, ◌≤◌, ◌^◌, List, ◌∷◌, ◌++◌, length, take, drop, get_or, Bool, true, false, ap, sym, inl, inr, subst, ◌∙◌, arith, if◌then◌else◌}
use Rattle.std.specs.Int.{w32, from_le_bytes}
use Rattle.std.specs.Prelude.{nat_lt}
use Rattle.std.proofs.lemmas.Bool.{cases_lt, eq-eqb, lt-ltb, le-ltb}
use Rattle.std.proofs.lemmas.List.{append_assoc, drop_at, drop-drop, take-append-drop, get_or-take, length-take, ext_get_or}
use Rattle.saved_form.specs.declared.numbers.EntryNumbers.{EntryNumbers}
use Rattle.saved_form.specs.Crc.{crc64}
use Rattle.saved_form.specs.Form.{eight, fours, reply_bytes, first_block, level_block, level_blocks, entry_blocks, sealed, sum_behind, further}
use Rattle.saved_form.specs.Places.{HasPlaces, FitsTypes, IsZeroFrom}
use Rattle.saved_form.specs.Reading.{four_in, level_place, ReadsLevels}
use Rattle.saved_form.specs.Taking.{BeginsEntry}
use Rattle.saved_form.proofs.Fronts.{regroup, begins_headed, told_at, told_levels}
use Rattle.saved_form.proofs.Laid.{laid, laid_long, entry_blocks_laid, length-level_blocks}
use Rattle.saved_form.proofs.Levels.{levels_from, level_from, ten_places}
use Rattle.saved_form.proofs.Sealed.{AreLong, sealed-append, length-sealed}
use Rattle.saved_form.proofs.Words.{number_in_fours}

-- the further blocks up to one, that one, and those behind it
level_blocks_split : (place a b : ℕ) (levels : List ℕ) → level_blocks place (a + suc b) levels
    ≡ level_blocks place a levels ++ level_block (place + a) levels ∷ level_blocks (suc (place + a)) b levels
unfolding level_blocks
level_blocks_split place zero b levels =
    let e : 0 + suc b ≡ suc b = omega arith in
    let at : place ≡ place + 0 = omega arith in
    ap (λ n. level_blocks place n levels) e ∙ ap (λ n. level_block n levels ∷ level_blocks (suc n) b levels) at
level_blocks_split place (suc a) b levels =
    let e : suc a + suc b ≡ suc (a + suc b) = omega arith in
    let at : suc place + a ≡ place + suc a = omega arith in
    ap (λ n. level_blocks place n levels) e
    ∙ ap (λ blocks. level_block place levels ∷ blocks)
    (level_blocks_split (suc place) a b levels
    ∙ ap (λ n. level_blocks (suc place) a levels ++ level_block n levels ∷ level_blocks (suc n) b levels) at)

laid_split : (e : EntryNumbers) (a b n : ℕ) → n ≡ a + suc b
    → laid e n ≡ laid e a ++ level_block a e.reply.levels ∷ level_blocks (suc a) b e.reply.levels
laid_split e a b n is =
    let none : 0 + a ≡ a = omega arith in
    let levels : List ℕ = e.reply.levels in
    ap (laid e) is ∙ ap (λ blocks. first_block e ∷ blocks)
    (level_blocks_split 0 a b levels ∙ ap (λ m. level_blocks 0 a levels ++ level_block m levels ∷ level_blocks (suc m) b levels) none)

-- what stands behind the first block and some further ones is the next one, and what is behind that
behind_some : (sum : ℕ) (blocks more : List (List ℕ)) (block : List ℕ) (behind : List ℕ) → AreLong blocks
    → (rest : List ℕ) × (drop (48 * length blocks) (sealed sum (blocks ++ block ∷ more) ++ behind) ≡ block ++ rest)
unfolding sealed
behind_some sum blocks more block behind long =
    let front : List ℕ = sealed sum blocks in
    let s : ℕ = sum_behind sum blocks in
    let next : List ℕ = eight (crc64 s block) in
    let after : List ℕ = sealed (crc64 s block) more in (
      next ++ (after ++ behind),
      ap (λ bytes. drop (48 * length blocks) (bytes ++ behind)) (sealed-append sum blocks (block ∷ more))
          ∙ ap (drop (48 * length blocks)) (append_assoc front (block ++ next ++ after) behind)
          ∙ drop_at front ((block ++ next ++ after) ++ behind) (48 * length blocks) (length-sealed sum blocks long)
          ∙ regroup block next after behind,
    )

first_level : (sum : ℕ) (e : EntryNumbers) (bytes : List ℕ) (k : ℕ) → BeginsEntry sum e bytes → FitsTypes e
    → e.reply.kind ≡ 3 → k < 4 → four_in bytes (24 + 4 * k) ≡ get_or e.reply.levels k 0
first_level sum e bytes k begins fits is lt =
    let levels : List ℕ = e.reply.levels in
    let found = begins_headed sum e bytes begins in
    let behind : drop 24 bytes ≡ fours (take 4 levels) ++ found.0 =
    ap (drop 24) found.1 ∙ told_at e.call e.worker e.reply (reply_bytes e.reply ++ found.0)
    ∙ ap (λ middle. middle ++ found.0) (told_levels e.reply (eq-eqb e.reply.kind 3 is)) in
    let item : get_or (take 4 levels) k 0 ≡ get_or levels k 0 = get_or-take 4 levels k 0 lt in
    let small : get_or levels k 0 < 2 ^ 32 = fits.levels k 0 (omega (arith, fits.length)) in
    ap (from_le_bytes w32) (sym (drop-drop (4 * k) 24 bytes) ∙ ap (drop (4 * k)) behind)
    ∙ number_in_fours (take 4 levels) found.0 k (omega (arith, length-take 4 levels, fits.length)) (subst (λ n. n < 2 ^ 32) (sym item) small)
    ∙ item

block_level : (levels rest : List ℕ) (place m : ℕ) → length levels ≡ 33 → place < 3 → m < 10 → get_or levels (4 + 10 * place + m) 0 < 2 ^ 32
    → from_le_bytes w32 (drop (4 * m) (level_block place levels ++ rest)) ≡ get_or levels (4 + 10 * place + m) 0
unfolding level_block
block_level levels rest place m long lt within small =
    let from : List ℕ = levels_from place levels in
    let item : get_or (take 10 from) m 0 ≡ get_or levels (4 + 10 * place + m) 0 =
    get_or-take 10 from m 0 within ∙ level_from place m levels in
    number_in_fours (take 10 from) rest m (omega (arith, length-take 10 from, ten_places place levels lt long)) (subst (λ n. n < 2 ^ 32) (sym item) small)
    ∙ item

further_level : (sum : ℕ) (e : EntryNumbers) (bytes : List ℕ) (k : ℕ) → BeginsEntry sum e bytes → HasPlaces e → FitsTypes e
    → e.reply.kind ≡ 3 → 4 ≤ k → k < e.reply.count
    → four_in bytes (48 * (1 + (k - 4) / 10) + 4 * ((k - 4) % 10)) ≡ get_or e.reply.levels k 0
further_level sum e bytes k begins places fits is ge lt =
    let levels : List ℕ = e.reply.levels in
    let place : ℕ = (k - 4) / 10 in
    let m : ℕ = (k - 4) % 10 in
    let count : further e.reply.kind e.reply.count ≡ (e.reply.count + 5) / 10 = ap (λ n. further n e.reply.count) is in
    let few : e.reply.count ≤ 33 = places.reply.count in
    let more : ℕ = (e.reply.count + 5) / 10 - place - 1 in
    let split : further e.reply.kind e.reply.count ≡ place + suc more = omega (arith, count) in
    let third : place < 3 = omega arith in
    let blocks : entry_blocks e ≡ laid e place ++ level_block place levels ∷ level_blocks (suc place) more levels =
    entry_blocks_laid e ∙ laid_split e place more (further e.reply.kind e.reply.count) split in
    let size : ℕ = 48 * length (entry_blocks e) in
    let whole : bytes ≡ sealed sum (laid e place ++ level_block place levels ∷ level_blocks (suc place) more levels) ++ drop size bytes =
    sym (take-append-drop size bytes) ∙ ap (λ front. front ++ drop size bytes) (begins ∙ ap (sealed sum) blocks) in
    let found = behind_some sum (laid e place) (level_blocks (suc place) more levels) (level_block place levels) (drop size bytes)
    (laid_long e place (omega arith) fits.length) in
    let at : 48 * (1 + place) ≡ 48 * length (laid e place) = omega (arith, length-level_blocks 0 place levels) in
    let behind : drop (48 * (1 + place)) bytes ≡ level_block place levels ++ found.0 = (λ i. drop (at i) (whole i)) ∙ found.1 in
    let same : 4 + 10 * place + m ≡ k = omega arith in
    let small : get_or levels (4 + 10 * place + m) 0 < 2 ^ 32 = fits.levels (4 + 10 * place + m) 0 (omega (arith, fits.length)) in
    ap (from_le_bytes w32) (sym (drop-drop (4 * m) (48 * (1 + place)) bytes) ∙ ap (drop (4 * m)) behind)
    ∙ block_level levels found.0 place m fits.length third (omega arith) small
    ∙ ap (λ n. get_or levels n 0) same

pub level_back : (sum : ℕ) (e : EntryNumbers) (bytes : List ℕ) (k : ℕ) → BeginsEntry sum e bytes → HasPlaces e → FitsTypes e
    → e.reply.kind ≡ 3 → k < e.reply.count → four_in bytes (level_place k) ≡ get_or e.reply.levels k 0
level_back sum e bytes k begins places fits is lt =
    let choose : (b : Bool) → nat_lt k 4 ≡ b → level_place k ≡ (if b then 24 + 4 * k else 48 * (1 + (k - 4) / 10) + 4 * ((k - 4) % 10)) =
    λ b test. ap (λ t. if t then 24 + 4 * k else 48 * (1 + (k - 4) / 10) + 4 * ((k - 4) % 10)) test in
    elim (cases_lt k 4) [
      | inl below ↦ ap (four_in bytes) (choose true (lt-ltb k 4 below)) ∙ first_level sum e bytes k begins fits is below
      | inr from ↦ ap (four_in bytes) (choose false (le-ltb k 4 from)) ∙ further_level sum e bytes k begins places fits is from lt
    ]

-- lists of 33 with the same items up to a place, and zeroes from there on, are one
pub levels_back : (count : ℕ) (bytes xs ys : List ℕ) → ReadsLevels count bytes xs → length ys ≡ 33
    → ((k : ℕ) → k < count → four_in bytes (level_place k) ≡ get_or ys k 0) → IsZeroFrom count ys → xs ≡ ys
levels_back count bytes xs ys has long each behind =
    let fronts : take count xs ≡ take count ys =
    ext_get_or 0 (take count xs) (take count ys) (omega (arith, length-take count xs, length-take count ys, has.long, long))
    (λ k lt. let within : k < count = omega (arith, length-take count xs) in
    get_or-take count xs k 0 within ∙ has.each k within ∙ each k within ∙ sym (get_or-take count ys k 0 within)) in
    sym (take-append-drop count xs) ∙ (λ i. fronts i ++ (has.behind ∙ sym behind) i) ∙ take-append-drop count ys
