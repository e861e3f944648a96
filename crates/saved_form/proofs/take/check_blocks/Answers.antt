use Rattle.std.proofs.Common.{◌≡◌, ℕ, ◌+◌, ◌-◌, ◌*◌, ◌<◌, List, take, drop, get_or, refl, ap, sym, subst, ◌∙◌, arith}
use Rattle.std.proofs.lemmas.List.{get_or-drop, length-drop}
use Rattle.saved_form.specs.Crc.{crc64}
use Rattle.saved_form.specs.Form.{sum_behind}
use Rattle.saved_form.specs.Taking.{bodies}
use Rattle.saved_form.proofs.Put.{sum_behind_more}
use Rattle.saved_form.proofs.Right.{bodies_more, crc64_fits, none_right, wanted_at, right_more, wanted_from_right}
use Rattle.saved_form.proofs.Words.{eight_from_word, word_from_eight}
use Rattle.saved_form.proofs.take.check_blocks.Goals as goal

pub loop-place-init : goal.loop-place-init
unfolding bodies sum_behind
loop-place-init c = record { right = none_right c.args.sum c.args.bytes.now; behind = refl }

pub returns-then-eight_at-wanted-clause-wrong : goal.returns-then-eight_at-wanted-clause-wrong
returns-then-eight_at-wanted-clause-wrong c =
    let bytes : List ℕ = c.args.bytes.now in
    let count : ℕ = c.loop-place.place in
    let at : ℕ = 48 * count in
    let forty : at + 40 - at ≡ 40 = omega arith in
    let wanted : c.sum_of-wanted.result ≡ wanted_at count c.args.sum bytes =
    c.sum_of-wanted.ensures.value ∙ (λ i. crc64 (c.loop-place.invariant.behind i) (take (forty i) (drop at bytes))) in (
      c.loop-place-test.true,
      c.loop-place.invariant.right,
      λ more. c.if-eight_at-wanted.true
          (c.eight_at.ensures
          ∙ word_from_eight (drop (at + 40) bytes) (wanted_at count c.args.sum bytes) (crc64_fits _ _)
          (wanted_from_right count c.args.sum bytes c.loop-place.invariant.right more)
          ∙ sym wanted),
    )

pub loop-place-preserved : goal.loop-place-preserved
loop-place-preserved c =
    let bytes : List ℕ = c.args.bytes.now in
    let count : ℕ = c.loop-place.place in
    let at : ℕ = 48 * count in
    let forty : at + 40 - at ≡ 40 = omega arith in
    let wanted : c.sum_of-wanted.result ≡ wanted_at count c.args.sum bytes =
    c.sum_of-wanted.ensures.value ∙ (λ i. crc64 (c.loop-place.invariant.behind i) (take (forty i) (drop at bytes))) in
    let fits : (k : ℕ) → get_or (drop (at + 40) bytes) k 0 < 256 =
    λ k. subst (λ m. m < 256) (sym (get_or-drop (at + 40) bytes k 0)) (omega (arith, c.type_inv.bytes (at + 40 + k))) in
    record {
      right = right_more count c.args.sum bytes (omega arith) c.loop-place.invariant.right
          (eight_from_word (drop (at + 40) bytes) (wanted_at count c.args.sum bytes) (omega (arith, length-drop (at + 40) bytes)) fits
          (sym c.eight_at.ensures ∙ c.if-eight_at-wanted.false ∙ wanted));
      behind =
          wanted ∙ sym (ap (sum_behind c.args.sum) (bodies_more count bytes) ∙ sum_behind_more c.args.sum (bodies count bytes) (take 40 (drop at bytes)));
    }
