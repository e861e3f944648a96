use Rattle.std.proofs.Common.{◌≡◌, ◌≢◌, ℕ, ◌+◌, ◌<◌, ◌≤◌, pos, List, ◌++◌, get_or, refl, ap, sym, inl, inr, subst, ◌∙◌, arith, if◌then◌else◌}
use Rattle.std.specs.Int.{w32, cast_signed}
use Rattle.std.proofs.lemmas.Bool.{eq-eqb}
use Rattle.std.proofs.lemmas.Bool.Decides.{eqb_tells}
use Rattle.saved_form.specs.declared.numbers.ReplyNumbers.{ReplyNumbers}
use Rattle.saved_form.specs.Form.{further, asked, reply_bytes}
use Rattle.saved_form.specs.Places.{HasCallPlaces, HasReplyPlaces}
use Rattle.saved_form.specs.Reading.{four_in, eight_in, call_in, plain_reply_in, levels_reply_in, ReadsLevels, IsReplyIn}
use Rattle.saved_form.specs.Taking.{blocks_said}
use Rattle.saved_form.proofs.Fronts.{begins_headed, call_back, plain_back, leveled_back}
use Rattle.saved_form.proofs.LevelsBack.{level_back, levels_back}
use Rattle.saved_form.proofs.Said.{ne-eqb, further_none, said_plain, said_levels, said_few}
use Rattle.saved_form.proofs.read.read_entry.Goals as goal

call_places : (bytes : List ℕ) → ((i : ℕ) → get_or bytes i 0 < 256) → HasCallPlaces (call_in bytes)
call_places bytes small =
    let operation : ℕ = get_or bytes 0 0 in
    record {
      operation = small 0;
      choice = small 1;
      group = λ is. ap (λ b. if b then 0 else eight_in bytes 16) (eq-eqb operation 7 is);
      other = λ away. (
        ap (λ b. if b then cast_signed w32 (four_in bytes 16) else pos 0) (ne-eqb operation 7 away),
        ap (λ b. if b then cast_signed w32 (four_in bytes 20) else pos 0) (ne-eqb operation 7 away),
      );
    }

leveled_places : (bytes levels : List ℕ) → ((i : ℕ) → get_or bytes i 0 < 256) → get_or bytes 6 0 ≤ 33
    → ReadsLevels (get_or bytes 6 0) bytes levels → HasReplyPlaces (levels_reply_in levels bytes)
leveled_places bytes levels small few has = record {
  kind = omega arith;
  errno = small 4;
  refusal = small 5;
  count = few;
  levels = λ is. (refl, refl);
  other = λ away. absurd (away refl);
  behind = has.behind;
}

plain_places : (bytes : List ℕ) → ((i : ℕ) → get_or bytes i 0 < 256) → get_or bytes 3 0 ≢ 3 → HasReplyPlaces (plain_reply_in bytes)
plain_places bytes small away = record {
  kind = small 3;
  errno = small 4;
  refusal = small 5;
  count = omega arith;
  levels = λ is. absurd (away is);
  other = λ other. refl;
  behind = refl;
}

reply_places : (bytes : List ℕ) (r : ReplyNumbers) → ((i : ℕ) → get_or bytes i 0 < 256) → 0 < blocks_said bytes → IsReplyIn bytes r → HasReplyPlaces r
reply_places bytes r small some is =
    elim (eqb_tells (get_or bytes 3 0) 3) [
      | inl at ↦ let found = is.leveled at.1 in
          subst HasReplyPlaces (sym found.2) (leveled_places bytes found.0 small (said_few bytes at.1 some) found.1)
      | inr away ↦ subst HasReplyPlaces (sym (is.plain away.1)) (plain_places bytes small away.1)
    ]

pub returns-clause-places : goal.returns-clause-places
returns-clause-places c =
    let bytes : List ℕ = c.args.bytes.now in
    let small : (i : ℕ) → get_or bytes i 0 < 256 = λ i. omega (arith, c.type_inv.bytes i) in
    record {
      worker = small 2;
      call = subst HasCallPlaces (sym c.read_call.ensures) (call_places bytes small);
      reply = reply_places bytes c.read_reply.result small c.requires.some c.read_reply.ensures;
    }

blocks_of : (bytes : List ℕ) (r : ReplyNumbers) → 0 < blocks_said bytes → IsReplyIn bytes r → 1 + further r.kind r.count ≡ blocks_said bytes
blocks_of bytes r some is =
    elim (eqb_tells (get_or bytes 3 0) 3) [
      | inl at ↦ let found = is.leveled at.1 in
          ap (λ told. 1 + further told.kind told.count) found.2 ∙ ap (λ kind. 1 + further kind (get_or bytes 6 0)) (sym at.1)
          ∙ sym (said_levels bytes at.1 (said_few bytes at.1 some))
      | inr away ↦ ap (λ told. 1 + further told.kind told.count) (is.plain away.1)
          ∙ omega (arith, further_none (get_or bytes 3 0) 0 away.0, said_plain bytes away.0)
    ]

pub returns-clause-blocks : goal.returns-clause-blocks
returns-clause-blocks c = blocks_of c.args.bytes.now c.read_reply.result c.requires.some c.read_reply.ensures

pub returns-clause-one : goal.returns-clause-one
returns-clause-one c sum e places fits begins =
    let bytes : List ℕ = c.args.bytes.now in
    let found = begins_headed sum e bytes begins in
    let worker : get_or bytes 2 0 ≡ e.worker = ap (λ front. get_or front 2 0) found.1 in
    let kind : get_or bytes 3 0 ≡ e.reply.kind = ap (λ front. get_or front 3 0) found.1 in
    let count : get_or bytes 6 0 ≡ e.reply.count = ap (λ front. get_or front 6 0) found.1 in
    let call : c.read_call.result ≡ e.call = c.read_call.ensures ∙ ap call_in found.1 ∙ call_back e (reply_bytes e.reply ++ found.0) places fits in
    let reply : c.read_reply.result ≡ e.reply = elim (eqb_tells e.reply.kind 3) [
      | inl at ↦ let read = c.read_reply.ensures.leveled (kind ∙ at.1) in
          let levels : read.0 ≡ e.reply.levels =
          levels_back e.reply.count bytes read.0 e.reply.levels (subst (λ n. ReadsLevels n bytes read.0) count read.1) fits.length
          (λ k lt. level_back sum e bytes k begins places fits at.1 lt) places.reply.behind in
          read.2 ∙ ap (levels_reply_in read.0) found.1 ∙ leveled_back e read.0 (asked e.call ++ (reply_bytes e.reply ++ found.0)) places at.1 levels
      | inr away ↦ c.read_reply.ensures.plain (λ is. away.1 (sym kind ∙ is)) ∙ ap plain_reply_in found.1
          ∙ plain_back e found.0 places fits away.0 away.1
    ] in
    λ i. record { worker = worker i; call = call i; reply = reply i }
