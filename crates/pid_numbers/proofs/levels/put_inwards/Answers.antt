use Rattle.std.proofs.Common.{arith, ◌∙◌, ap, ◌-◌}
use Rattle.pid_numbers.proofs.Words.{slice_set, slice_index_or}
use Rattle.pid_numbers.proofs.Inwards as inwards
use Rattle.pid_numbers.proofs.levels.put_inwards.Goals as goal

pub loop-k-preserved : goal.loop-k-preserved
loop-k-preserved c =
    let k = c.loop-k.k in
    ap (λ room. slice_set room (c.args.count - 1 - k) (slice_index_or c.args.numbers.now k 0)) c.loop-k.invariant
    ∙ inwards.one-more c.args.numbers.now c.args.room.now c.args.count k (omega (arith, c.loop-k-test.true)) c.requires.there (omega (arith, c.told-room, c.requires.few))
