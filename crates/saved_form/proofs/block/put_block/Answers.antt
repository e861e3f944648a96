use Rattle.std.proofs.Common.{rules, ◌≡◌, ◌+◌, ◌-◌, ℕ, List, refl, ap, ◌∙◌, arith}
use borrow.Rule.Slice.PartMut.{put_mid}
use Rattle.saved_form.specs.Crc.{crc64}
use Rattle.saved_form.specs.Form.{eight}
use Rattle.saved_form.proofs.Blocks.{put_two_parts}
use Rattle.saved_form.proofs.block.put_block.Goals as goal

pub returns-clause-bytes : goal.returns-clause-bytes
returns-clause-bytes c =
    let at : ℕ = c.args.at in
    let bytes : List ℕ = c.args.bytes.now in
    let sum : c.copy_from_slice-2.new.self ≡ eight (crc64 c.args.sum c.args.block.now) =
    c.copy_from_slice-2.ensures.after ∙ c.to_le_bytes.ensures ∙ ap eight c.sum_of-behind.ensures.value in
    (λ i. put_mid (at + 40) (at + 48 - (at + 40)) (put_mid at (at + 40 - at) bytes (c.copy_from_slice.ensures.after i)) (sum i))
    ∙ put_two_parts bytes c.args.block.now (eight (crc64 c.args.sum c.args.block.now)) at (omega arith) (search rules) refl

pub returns-clause-sum : goal.returns-clause-sum
returns-clause-sum c = search rules
