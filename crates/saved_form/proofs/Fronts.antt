-- An entry's first block, read again.
use Rattle.std.proofs.Common.{◌≡◌, ◌≢◌, ℕ, ◌-◌, ◌*◌, ◌<◌, ◌^◌, pos, List, ◌∷◌, ◌++◌, length, take, drop, replicate, true, false, ap, sym, inl, inr, subst, ◌∙◌, arith, if◌then◌else◌, ◌==◌}
use Rattle.std.specs.Int.{w32, w64, cast_unsigned, cast_signed, from_le_bytes}
use Rattle.std.specs.Prelude.{FitsSigned}
use Rattle.std.proofs.lemmas.Bool.Decides.{eqb_tells}
use Rattle.std.proofs.lemmas.Int.{to_z-of_z}
use Rattle.std.proofs.Math.Facts.{Fits-of_z}
use Rattle.std.proofs.lemmas.List.{append_assoc, drop_at, drop-drop, take-append-drop}
use Rattle.std.proofs.lemmas.Nat.{from_le_bytes-to_le_bytes_4, from_le_bytes-to_le_bytes_8}
use Rattle.saved_form.specs.declared.numbers.CallNumbers.{CallNumbers}
use Rattle.saved_form.specs.declared.numbers.ReplyNumbers.{ReplyNumbers}
use Rattle.saved_form.specs.declared.numbers.EntryNumbers.{EntryNumbers}
use Rattle.saved_form.specs.Form.{level_blocks, four, eight, fours, asked, reply_bytes, first_block, entry_blocks, sealed, further}
use Rattle.saved_form.specs.Crc.{crc64}
use Rattle.saved_form.specs.Places.{HasCallPlaces, HasPlaces, FitsTypes}
use Rattle.saved_form.specs.Reading.{four_in, eight_in, call_in, plain_reply_in, levels_reply_in}
use Rattle.saved_form.specs.Taking.{BeginsEntry}
use Rattle.saved_form.proofs.Laid.{asked_long}

-- the bytes of a first block up to the caller's number, and others behind them
abbrev pub headed : CallNumbers → ℕ → ReplyNumbers → List ℕ → List ℕ
headed c worker r rest =
    c.operation ∷ c.choice ∷ worker ∷ r.kind ∷ r.errno ∷ r.refusal ∷ r.count ∷ 0 ∷ (four c.caller ++ (four c.number ++ rest))

pub first_block_headed : (e : EntryNumbers) (rest : List ℕ)
    → first_block e ++ rest ≡ headed e.call e.worker e.reply (asked e.call ++ (reply_bytes e.reply ++ rest))
unfolding first_block
first_block_headed e rest = ap (headed e.call e.worker e.reply) (append_assoc (asked e.call) (reply_bytes e.reply) rest)

group_back : (c : CallNumbers) (worker : ℕ) (r : ReplyNumbers) (rest : List ℕ)
    → HasCallPlaces c → c.caller < 2 ^ 32 → c.number < 2 ^ 32 → FitsSigned w32 c.pid → FitsSigned w32 c.pgid
    → (c.operation == 7) ≡ true → c.operation ≡ 7
    → call_in (headed c worker r ((four (cast_unsigned w32 c.pid) ++ four (cast_unsigned w32 c.pgid)) ++ rest)) ≡ c
group_back c worker r rest places caller number pid pgid test is =
    let bytes : List ℕ = headed c worker r ((four (cast_unsigned w32 c.pid) ++ four (cast_unsigned w32 c.pgid)) ++ rest) in
    let id : (if c.operation == 7 then 0 else eight_in bytes 16) ≡ c.id =
    ap (λ b. if b then 0 else eight_in bytes 16) test ∙ sym (places.group is) in
    let first : (if c.operation == 7 then cast_signed w32 (four_in bytes 16) else pos 0) ≡ c.pid =
    ap (λ b. if b then cast_signed w32 (four_in bytes 16) else pos 0) test
    ∙ ap (cast_signed w32) (from_le_bytes-to_le_bytes_4 (cast_unsigned w32 c.pid) (omega (arith, Fits-of_z pid))) ∙ to_z-of_z w32 c.pid pid in
    let second : (if c.operation == 7 then cast_signed w32 (four_in bytes 20) else pos 0) ≡ c.pgid =
    ap (λ b. if b then cast_signed w32 (four_in bytes 20) else pos 0) test
    ∙ ap (cast_signed w32) (from_le_bytes-to_le_bytes_4 (cast_unsigned w32 c.pgid) (omega (arith, Fits-of_z pgid))) ∙ to_z-of_z w32 c.pgid pgid in
    λ i. record {
      operation = c.operation;
      caller = from_le_bytes-to_le_bytes_4 c.caller caller i;
      id = id i;
      number = from_le_bytes-to_le_bytes_4 c.number number i;
      choice = c.choice;
      pid = first i;
      pgid = second i;
    }

other_back : (c : CallNumbers) (worker : ℕ) (r : ReplyNumbers) (rest : List ℕ)
    → HasCallPlaces c → c.caller < 2 ^ 32 → c.number < 2 ^ 32 → c.id < 2 ^ 64
    → (c.operation == 7) ≡ false → c.operation ≢ 7 → call_in (headed c worker r (eight c.id ++ rest)) ≡ c
other_back c worker r rest places caller number id test is =
    let bytes : List ℕ = headed c worker r (eight c.id ++ rest) in
    let back : (if c.operation == 7 then 0 else eight_in bytes 16) ≡ c.id =
    ap (λ b. if b then 0 else eight_in bytes 16) test ∙ from_le_bytes-to_le_bytes_8 c.id id in
    let first : (if c.operation == 7 then cast_signed w32 (four_in bytes 16) else pos 0) ≡ c.pid =
    ap (λ b. if b then cast_signed w32 (four_in bytes 16) else pos 0) test ∙ sym (places.other is).0 in
    let second : (if c.operation == 7 then cast_signed w32 (four_in bytes 20) else pos 0) ≡ c.pgid =
    ap (λ b. if b then cast_signed w32 (four_in bytes 20) else pos 0) test ∙ sym (places.other is).1 in
    λ i. record {
      operation = c.operation;
      caller = from_le_bytes-to_le_bytes_4 c.caller caller i;
      id = back i;
      number = from_le_bytes-to_le_bytes_4 c.number number i;
      choice = c.choice;
      pid = first i;
      pgid = second i;
    }

asked_group : (c : CallNumbers) → (c.operation == 7) ≡ true → asked c ≡ four (cast_unsigned w32 c.pid) ++ four (cast_unsigned w32 c.pgid)
unfolding asked
asked_group c test = ap (λ b. if b then four (cast_unsigned w32 c.pid) ++ four (cast_unsigned w32 c.pgid) else eight c.id) test

asked_other : (c : CallNumbers) → (c.operation == 7) ≡ false → asked c ≡ eight c.id
unfolding asked
asked_other c test = ap (λ b. if b then four (cast_unsigned w32 c.pid) ++ four (cast_unsigned w32 c.pgid) else eight c.id) test

pub call_back : (e : EntryNumbers) (rest : List ℕ) → HasPlaces e → FitsTypes e
    → call_in (headed e.call e.worker e.reply (asked e.call ++ rest)) ≡ e.call
call_back e rest places fits =
    let c : CallNumbers = e.call in
    let read : List ℕ → CallNumbers = λ middle. call_in (headed c e.worker e.reply (middle ++ rest)) in
    elim (eqb_tells c.operation 7) [
      | inl at ↦ ap read (asked_group c at.0)
          ∙ group_back c e.worker e.reply rest places.call fits.caller fits.number fits.pid fits.pgid at.0 at.1
      | inr away ↦ ap read (asked_other c away.0)
          ∙ other_back c e.worker e.reply rest places.call fits.caller fits.number fits.id away.0 away.1
    ]

pub told_plain : (r : ReplyNumbers) → (r.kind == 3) ≡ false → reply_bytes r ≡ eight r.first ++ eight r.second
unfolding reply_bytes
told_plain r test = ap (λ b. if b then fours (take 4 r.levels) else eight r.first ++ eight r.second) test

pub told_levels : (r : ReplyNumbers) → (r.kind == 3) ≡ true → reply_bytes r ≡ fours (take 4 r.levels)
unfolding reply_bytes
told_levels r test = ap (λ b. if b then fours (take 4 r.levels) else eight r.first ++ eight r.second) test

-- what the reply tells stands behind the call
pub told_at : (c : CallNumbers) (worker : ℕ) (r : ReplyNumbers) (rest : List ℕ) → drop 24 (headed c worker r (asked c ++ rest)) ≡ rest
told_at c worker r rest = drop_at (asked c) rest 8 (asked_long c)

pub plain_back : (e : EntryNumbers) (rest : List ℕ) → HasPlaces e → FitsTypes e → (e.reply.kind == 3) ≡ false → e.reply.kind ≢ 3
    → plain_reply_in (headed e.call e.worker e.reply (asked e.call ++ (reply_bytes e.reply ++ rest))) ≡ e.reply
plain_back e rest places fits test is =
    let r : ReplyNumbers = e.reply in
    let bytes : List ℕ = headed e.call e.worker r (asked e.call ++ (reply_bytes r ++ rest)) in
    let behind : drop 24 bytes ≡ (eight r.first ++ eight r.second) ++ rest =
    told_at e.call e.worker r (reply_bytes r ++ rest) ∙ ap (λ middle. middle ++ rest) (told_plain r test) in
    let first : eight_in bytes 24 ≡ r.first = ap (from_le_bytes w64) behind ∙ from_le_bytes-to_le_bytes_8 r.first fits.first in
    let second : eight_in bytes 32 ≡ r.second =
    ap (from_le_bytes w64) (sym (drop-drop 8 24 bytes) ∙ ap (drop 8) behind) ∙ from_le_bytes-to_le_bytes_8 r.second fits.second in
    let none : r.count ≡ 0 = places.reply.other is in
    let levels : r.levels ≡ replicate 33 0 = subst (λ n. drop n r.levels ≡ replicate (33 - n) 0) none places.reply.behind in
    λ i. record {
      kind = r.kind;
      errno = r.errno;
      refusal = r.refusal;
      count = sym none i;
      first = first i;
      second = second i;
      levels = sym levels i;
    }

pub leveled_back : (e : EntryNumbers) (levels rest : List ℕ) → HasPlaces e → e.reply.kind ≡ 3 → levels ≡ e.reply.levels
    → levels_reply_in levels (headed e.call e.worker e.reply rest) ≡ e.reply
leveled_back e levels rest places is same =
    let r : ReplyNumbers = e.reply in
    let none = places.reply.levels is in
    λ i. record {
      kind = sym is i;
      errno = r.errno;
      refusal = r.refusal;
      count = r.count;
      first = sym none.0 i;
      second = sym none.1 i;
      levels = same i;
    }

pub regroup : (a b c d : List ℕ) → (a ++ b ++ c) ++ d ≡ a ++ (b ++ (c ++ d))
regroup a b c d = simp append_assoc

-- the bytes that begin with those of an entry are its first block, and others behind it
pub begins_headed : (sum : ℕ) (e : EntryNumbers) (bytes : List ℕ) → BeginsEntry sum e bytes
    → (rest : List ℕ) × (bytes ≡ headed e.call e.worker e.reply (asked e.call ++ (reply_bytes e.reply ++ rest)))
unfolding entry_blocks sealed
begins_headed sum e bytes begins =
    let first : List ℕ = first_block e in
    let behind : List ℕ = drop (48 * length (entry_blocks e)) bytes in
    let more : List ℕ = sealed (crc64 sum first) (level_blocks 0 (further e.reply.kind e.reply.count) e.reply.levels) in
    let rest : List ℕ = eight (crc64 sum first) ++ (more ++ behind) in (
      rest,
      sym (take-append-drop (48 * length (entry_blocks e)) bytes) ∙ ap (λ front. front ++ behind) begins
          ∙ regroup first (eight (crc64 sum first)) more behind ∙ first_block_headed e rest,
    )
