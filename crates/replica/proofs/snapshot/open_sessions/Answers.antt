use Rattle.std.proofs.Common.{◌≡◌, suc, ◌+◌, ◌-◌, ◌∙◌, arith}
use Rattle.replica.proofs.Opened.{all_opened, more_step, one_more, room_for_one}
use Rattle.replica.proofs.snapshot.open_sessions.Goals as goal

pub loop-preserved : goal.loop-preserved
loop-preserved c =
    let ok = c.in_ok-rest.ensures.ok in
    let left : c.args.count - c.loop.counter ≡ suc (c.args.count - (c.loop.counter + 1)) = omega arith in record {
      more =
          more_step (c.args.count - c.loop.counter) (c.args.count - (c.loop.counter + 1)) c.loop.sessions c.loop.rest.now
          (c.open_next.new.sessions, c.in_ok-rest.rest.now) left ok
          ∙ c.loop.invariant.more;
      number = one_more c.loop.sessions c.loop.rest.now (c.open_next.new.sessions, c.in_ok-rest.rest.now) ok ∙ (let n = c.loop.invariant.number in omega arith);
    }

pub open_next-requires : goal.open_next-requires
open_next-requires c = record { room = room_for_one _ c.loop.counter c.args.count c.loop.invariant.number c.loop-test.true c.if-count.false }

pub returns-clause-ok : goal.returns-clause-ok
returns-clause-ok c =
    all_opened c.args.count c.loop.counter c.loop.sessions c.args.lines.now c.loop.rest.now c.if-count.false c.loop-test.false c.loop.invariant.more
