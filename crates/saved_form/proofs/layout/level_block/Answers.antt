use Rattle.std.proofs.Common.{◌≡◌, ℕ, List, ◌+◌, ◌-◌, ◌*◌, ◌<◌, ◌≤◌, ◌++◌, length, take, get_or, ap, sym, ◌∙◌, arith}
use Rattle.std.proofs.lemmas.List.{take_all}
use Rattle.std.proofs.lemmas.Slice.{take-put_mid}
use borrow.Rule.Slice.PartMut.{same_len_mid}
use Rattle.saved_form.specs.Form.{four, fours, level_block}
use Rattle.saved_form.proofs.Levels.{levels_from, level_from, fours_more, ten_places}
use Rattle.saved_form.proofs.layout.level_block.Goals as goal

pub loop-i-preserved : goal.loop-i-preserved
loop-i-preserved c =
    let i : ℕ = c.loop-i.i in
    let at : ℕ = 4 * i in
    let xs : List ℕ = levels_from c.args.place c.args.levels.now in
    let room : i < length xs = omega (arith, ten_places c.args.place c.args.levels.now c.requires c.told-levels) in
    let level : c.copy_from_slice.new.self ≡ four (get_or xs i 0) =
    c.copy_from_slice.ensures.after ∙ c.to_le_bytes.ensures
    ∙ ap four (c.level_at-level.ensures ∙ sym (level_from c.args.place i c.args.levels.now)) in
    let next : 4 * (i + 1) ≡ at + length c.copy_from_slice.new.self = omega (arith, ap length level) in
    let within : at ≤ length c.loop-i.block = omega (arith, c.loop-i.invariant.long) in
    record {
      front =
          take-put_mid at (at + 4 - at) c.loop-i.block c.copy_from_slice.new.self (4 * (i + 1)) next within
          ∙ (λ k. c.loop-i.invariant.front k ++ level k) ∙ sym (fours_more xs i room);
      long = same_len_mid at (at + 4 - at) c.loop-i.block c.copy_from_slice.new.self c.copy_from_slice.ensures.len ∙ c.loop-i.invariant.long;
    }

pub returns : goal.returns
unfolding level_block
returns c =
    let ten : c.loop-i.i ≡ 10 = omega arith in
    let xs : List ℕ = levels_from c.args.place c.args.levels.now in
    sym (take_all 40 c.loop-i.block (omega arith)) ∙ (λ k. take (4 * sym ten k) c.loop-i.block) ∙ c.loop-i.invariant.front
    ∙ (λ k. fours (take (ten k) xs))
