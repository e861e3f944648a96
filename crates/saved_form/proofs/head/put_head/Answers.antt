use Rattle.std.proofs.Common.{ℕ, List, ◌++◌, drop, ap, sym, ◌∙◌}
use Rattle.saved_form.specs.Crc.{crc64}
use Rattle.saved_form.specs.Form.{eight}
use Rattle.saved_form.specs.Form as form
use Rattle.saved_form.proofs.Sealed.{sealed_one, sum_behind_one}
use Rattle.saved_form.proofs.head.put_head.Goals as goal

pub returns-clause-bytes : goal.returns-clause-bytes
returns-clause-bytes c =
    let behind : List ℕ = drop 48 c.args.bytes.now in
    c.put_block.ensures.bytes
    ∙ (λ i. (c.head_block.ensures i ++ eight (crc64 0 (c.head_block.ensures i))) ++ behind)
    ∙ ap (λ bytes. bytes ++ behind) (sym (sealed_one 0 (form.head_block c.args.head.now)))

pub returns-clause-sum : goal.returns-clause-sum
returns-clause-sum c =
    c.put_block.ensures.sum ∙ ap (crc64 0) c.head_block.ensures ∙ sym (sum_behind_one 0 (form.head_block c.args.head.now))
