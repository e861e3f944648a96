use Rattle.std.proofs.Common.{◌≡◌, ℕ, ◌+◌, ◌*◌, List, [], ◌∷◌, length, take, drop, get_or, ap, sym, ◌∙◌, arith}
use Rattle.saved_form.specs.declared.numbers.EntryNumbers.{EntryNumbers}
use Rattle.saved_form.specs.Form.{level_blocks, level_block, entry_blocks, further}
use Rattle.saved_form.specs.Taking.{bodies}
use Rattle.saved_form.proofs.Laid.{laid, laid_more, entry_blocks_laid, length-level_blocks}
use Rattle.saved_form.proofs.Right.{bodies_more}
use Rattle.saved_form.proofs.Tests.{one_more_same}
use Rattle.saved_form.proofs.take.is_laid.Goals as goal

pub loop-place-init : goal.loop-place-init
unfolding bodies level_blocks
loop-place-init c = (
  (λ h. ap (λ block. block ∷ []) (c.is_block-same.ensures.0 h ∙ c.first_block.ensures)),
  (λ h. c.is_block-same.ensures.1 (ap (λ blocks. get_or {A = List ℕ} blocks 0 []) h ∙ sym c.first_block.ensures)),
)

pub loop-place-preserved : goal.loop-place-preserved
loop-place-preserved c =
    let e : EntryNumbers = c.args.entry.now in
    let bytes : List ℕ = c.args.bytes.now in
    let place : ℕ = c.loop-place.place in
    let step = one_more_same c.loop-place.same c.is_block-same-in-loop-place.result (bodies (place + 1) bytes) (laid e place)
    (take 40 (drop (48 * (place + 1)) bytes)) (level_block place e.reply.levels) c.loop-place.invariant (
      (λ h. c.is_block-same-in-loop-place.ensures.0 h ∙ c.level_block-block.ensures),
      (λ h. c.is_block-same-in-loop-place.ensures.1 (h ∙ sym c.level_block-block.ensures)),
    ) in (
      (λ h. bodies_more (place + 1) bytes ∙ step.0 h ∙ sym (laid_more e place)),
      (λ h. step.1 (sym (bodies_more (place + 1) bytes) ∙ h ∙ laid_more e place)),
    )

pub returns : goal.returns
returns c =
    let e : EntryNumbers = c.args.entry.now in
    let all : c.loop-place.place ≡ further e.reply.kind e.reply.count = omega arith in
    let blocks : laid e c.loop-place.place ≡ entry_blocks e = ap (laid e) all ∙ sym (entry_blocks_laid e) in
    let count : c.loop-place.place + 1 ≡ length (entry_blocks e) =
    omega (arith, ap (length {A = List ℕ}) blocks, length-level_blocks 0 c.loop-place.place e.reply.levels) in
    let bodies_are : bodies (c.loop-place.place + 1) c.args.bytes.now ≡ bodies (length (entry_blocks e)) c.args.bytes.now =
    ap (λ n. bodies n c.args.bytes.now) count in
    ((λ h. sym bodies_are ∙ c.loop-place.invariant.0 h ∙ blocks), (λ h. c.loop-place.invariant.1 (bodies_are ∙ h ∙ sym blocks)))
