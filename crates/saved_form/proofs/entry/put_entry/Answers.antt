use Rattle.std.proofs.Common.{rules, ◌≡◌, ℕ, ◌+◌, ◌*◌, List, ◌++◌, length, take, drop, ap, sym, ◌∙◌, arith}
use Rattle.saved_form.specs.Crc.{crc64}
use Rattle.saved_form.specs.declared.numbers.EntryNumbers.{EntryNumbers}
use Rattle.saved_form.specs.Form.{level_blocks, eight, sealed, sum_behind, first_block, level_block, entry_blocks, entry_size, further}
use Rattle.saved_form.proofs.Sealed.{AreLong, sealed_one, sum_behind_one}
use Rattle.saved_form.proofs.Laid.{laid, laid_more, laid_long, entry_blocks_laid, entry_size_is, length-level_blocks}
use Rattle.saved_form.proofs.Put.{put_behind, sum_behind_more}
use Rattle.saved_form.proofs.entry.put_entry.Goals as goal

pub put_block-behind-requires : goal.put_block-behind-requires
put_block-behind-requires c = omega (arith, entry_size_is c.args.entry.now)

pub loop-place-init : goal.loop-place-init
unfolding level_blocks
loop-place-init c =
    let sum : ℕ = c.args.sum in
    let first : List ℕ = first_block c.args.entry.now in
    record {
      bytes =
          c.put_block-behind.ensures.bytes
          ∙ (λ i. (c.first_block.ensures i ++ eight (crc64 sum (c.first_block.ensures i))) ++ drop 48 c.args.bytes.now)
          ∙ ap (λ bytes. bytes ++ drop 48 c.args.bytes.now) (sym (sealed_one sum first));
      behind = c.put_block-behind.ensures.sum ∙ ap (crc64 sum) c.first_block.ensures ∙ sym (sum_behind_one sum first);
      room = search rules;
    }

pub put_block-behind-requires-in-loop-place : goal.put_block-behind-requires-in-loop-place
put_block-behind-requires-in-loop-place c = omega (arith, entry_size_is c.args.entry.now)

pub loop-place-preserved : goal.loop-place-preserved
loop-place-preserved c =
    let e : EntryNumbers = c.args.entry.now in
    let place : ℕ = c.loop-place.place in
    let at : ℕ = 48 * (place + 1) in
    let old : List ℕ = c.args.bytes.now in
    let block : List ℕ = level_block place e.reply.levels in
    let blocks : List (List ℕ) = laid e place in
    let levels : length e.reply.levels ≡ 33 = search rules in
    let long : AreLong blocks = laid_long e place (omega arith) levels in
    let next : at + 48 ≡ 48 * (place + 1 + 1) = omega arith in
    record {
      bytes =
          c.put_block-behind-in-loop-place.ensures.bytes
          ∙ (λ i. take at c.loop-place.bytes
          ++ (c.level_block-block.ensures i ++ eight (crc64 (c.loop-place.invariant.behind i) (c.level_block-block.ensures i)))
          ++ drop (at + 48) c.loop-place.bytes)
          ∙ put_behind c.args.sum blocks block c.loop-place.bytes old at long
          (omega (arith, length-level_blocks 0 place e.reply.levels)) c.loop-place.invariant.bytes
          ∙ (λ i. sealed c.args.sum (sym (laid_more e place) i) ++ drop (next i) old);
      behind =
          c.put_block-behind-in-loop-place.ensures.sum
          ∙ (λ i. crc64 (c.loop-place.invariant.behind i) (c.level_block-block.ensures i))
          ∙ sym (sum_behind_more c.args.sum blocks block) ∙ ap (sum_behind c.args.sum) (sym (laid_more e place));
      room = search rules ∙ c.loop-place.invariant.room;
    }

pub returns-clause-bytes : goal.returns-clause-bytes
returns-clause-bytes c =
    let e : EntryNumbers = c.args.entry.now in
    let all : c.loop-place.place ≡ further e.reply.kind e.reply.count = omega arith in
    let blocks : laid e c.loop-place.place ≡ entry_blocks e = ap (laid e) all ∙ sym (entry_blocks_laid e) in
    let size : 48 * (c.loop-place.place + 1) ≡ entry_size e = omega (arith, entry_size_is e, all) in
    c.loop-place.invariant.bytes ∙ (λ i. sealed c.args.sum (blocks i) ++ drop (size i) c.args.bytes.now)

pub returns-clause-sum : goal.returns-clause-sum
returns-clause-sum c =
    let e : EntryNumbers = c.args.entry.now in
    let all : c.loop-place.place ≡ further e.reply.kind e.reply.count = omega arith in
    c.loop-place.invariant.behind ∙ ap (sum_behind c.args.sum) (ap (laid e) all ∙ sym (entry_blocks_laid e))
