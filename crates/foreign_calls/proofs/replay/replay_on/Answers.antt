use Rattle.std.proofs.Common.{arith, inl}
use Rattle.foreign_calls.proofs.Replaying.{replays_next, waits_next}
use Rattle.foreign_calls.proofs.replay.replay_on.Goals as goal

pub loop-i-preserved : goal.loop-i-preserved
loop-i-preserved c = record {
  left = replays_next _ c.args.saved.now _ _ c.loop-i.i _ c.loop-i-test.true c.loop-i.invariant.left (c.replay_one-status.ensures.done c.if-status-ne-DONE.false);
  waits = waits_next c.loop-i.i _ _ _ c.loop-i.invariant.waits (c.replay_one-status.ensures.moved (inl c.if-status-ne-DONE.false));
  room = omega (arith, c.loop-i.invariant.room, c.replay_one-status.ensures.room);
}
