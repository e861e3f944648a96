use Rattle.std.proofs.Common.{◌≡◌, ◌<◌, eqb, length, map, sym, ap, ◌∙◌, arith, w8}
use Rattle.std.proofs.lemmas.Simd.{bitmask_splat, leading_from_mask_l, length-chunk, trailing_mask_l}
use lib.Count.{count_trailing_zeros}
use lib.Lanes.{chunk, mask_l}
use Rattle.pid_script.proofs.bytes.run_without.Goals as goal

pub returns-then-equal-eq0 : goal.returns-then-equal-eq0
returns-then-equal-eq0 c =
    let v = chunk c.args.index 16 c.args.bytes.now in
    let long : length v ≡ 16 = length-chunk c.args.index 16 c.args.bytes.now c.requires in
    let mask = bitmask_splat w8 eqb v 16 c.args.byte long (omega arith) in
    sym (leading_from_mask_l (λ b. eqb b c.args.byte) v (sym mask ∙ c.if-equal-eq0.true) ∙ long)

pub returns : goal.returns
returns c =
    let v = chunk c.args.index 16 c.args.bytes.now in
    let long : length v ≡ 16 = length-chunk c.args.index 16 c.args.bytes.now c.requires in
    let mask = bitmask_splat w8 eqb v 16 c.args.byte long (omega arith) in
    let some : 0 < mask_l (map (λ b. eqb b c.args.byte) v) = omega (arith, mask, c.if-equal-eq0.false) in
    ap (count_trailing_zeros 64) mask ∙ trailing_mask_l (λ b. eqb b c.args.byte) 64 v (omega arith) some
