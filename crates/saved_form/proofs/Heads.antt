-- A head, read again.
use Rattle.std.proofs.Common.{◌≡◌, ℕ, ◌≤◌, List, [], ◌∷◌, ◌++◌, length, take, drop, refl, ap, sym, ◌∙◌, arith, rules}
use Rattle.std.proofs.lemmas.List.{append_assoc, take-append-drop, take_all, take_at, length-take}
use Rattle.std.proofs.lemmas.Nat.{from_le_bytes-to_le_bytes_4, from_le_bytes-to_le_bytes_8}
use Rattle.saved_form.specs.declared.numbers.Head.{Head}
use Rattle.saved_form.specs.Crc.{crc64}
use Rattle.saved_form.specs.Form.{eight, magic, head_block, sealed, sum_behind}
use Rattle.saved_form.specs.Places.{HeadFits}
use Rattle.saved_form.specs.Reading.{four_in, head_in}
use Rattle.saved_form.specs.Taking.{bodies, AreRight, MayBegin, IsOtherVersion, BeginsHead, IsTakenHead}
use Rattle.saved_form.proofs.Sealed.{sealed_one}

length-head_block : (h : Head) → length (head_block h) ≡ 40
unfolding head_block
length-head_block h = refl

shape : (h : Head) (bytes : List ℕ) → BeginsHead h bytes → bytes ≡ head_block h ++ (eight (crc64 0 (head_block h)) ++ drop 48 bytes)
shape h bytes begins =
    sym (take-append-drop 48 bytes) ∙ ap (λ front. front ++ drop 48 bytes) (begins ∙ sealed_one 0 (head_block h))
    ∙ append_assoc (head_block h) (eight (crc64 0 (head_block h))) (drop 48 bytes)

pub begins_there : (h : Head) (bytes : List ℕ) → BeginsHead h bytes → 48 ≤ length bytes
unfolding head_block
begins_there h bytes begins = omega (arith, length-take 48 bytes, ap (length {A = ℕ}) (begins ∙ sealed_one 0 (head_block h)))

pub begins_may : (h : Head) (bytes : List ℕ) → BeginsHead h bytes → MayBegin bytes
unfolding head_block
begins_may h bytes begins =
    ap (take 8) (shape h bytes begins) ∙ sym (take_all (length bytes) magic (omega (arith, begins_there h bytes begins)))

pub begins_version : (h : Head) (bytes : List ℕ) → BeginsHead h bytes → four_in bytes 8 ≡ 1
unfolding head_block
begins_version h bytes begins = ap (λ front. four_in front 8) (shape h bytes begins)

pub begins_back : (h : Head) (bytes : List ℕ) → HeadFits h → BeginsHead h bytes → head_in bytes ≡ h
unfolding head_block
begins_back h bytes fits begins =
    ap head_in (shape h bytes begins)
    ∙ (λ i. record {
      pid_max = from_le_bytes-to_le_bytes_4 h.pid_max fits.pid_max i;
      workers = from_le_bytes-to_le_bytes_4 h.workers fits.workers i;
      first_stamp = from_le_bytes-to_le_bytes_8 h.first_stamp fits.first_stamp i;
    })

pub begins_block : (h : Head) (bytes : List ℕ) → BeginsHead h bytes → take 40 bytes ≡ head_block h
begins_block h bytes begins =
    ap (take 40) (shape h bytes begins) ∙ take_at (head_block h) (eight (crc64 0 (head_block h)) ++ drop 48 bytes) 40 (length-head_block h)

pub begins_right : (h : Head) (bytes : List ℕ) → BeginsHead h bytes → AreRight 1 0 bytes
unfolding bodies
begins_right h bytes begins = record {
  there = begins_there h bytes begins;
  sums = begins ∙ ap (λ block. sealed 0 (block ∷ [])) (sym (begins_block h bytes begins));
}

pub taken : (h : Head) (sum : ℕ) (bytes : List ℕ) → AreRight 1 0 bytes → sum ≡ sum_behind 0 (bodies 1 bytes) → take 40 bytes ≡ head_block h
    → IsTakenHead bytes (record { head = h; sum = sum })
unfolding bodies
taken h sum bytes right is same = record {
  front = right.sums ∙ ap (λ block. sealed 0 (block ∷ [])) same;
  checksum = is ∙ ap (λ block. sum_behind 0 (block ∷ [])) same;
}

-- where the number is that of this version, the version is no other
pub same_version : (bytes : List ℕ) → four_in bytes 8 ≡ 1 → IsOtherVersion bytes → ⊥
same_version bytes is other = search (rules, other.other)
