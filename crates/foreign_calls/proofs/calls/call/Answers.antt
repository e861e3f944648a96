use Rattle.std.proofs.Common.{arith}
use Rattle.foreign_calls.proofs.Told.{by_worker_0}
use Rattle.foreign_calls.proofs.calls.call.Goals as goal

pub returns-in-Bare-2-clause-makes : goal.returns-in-Bare-2-clause-makes
returns-in-Bare-2-clause-makes c =
    by_worker_0 c.args.held.now c.in-Bare.field-0 c.args.worker c.args.made c.args.ordinal.now c.call_bare.result _ c.in-Bare.is (omega (arith, c.if-worker-gt0.false)) c.call_bare.ensures.makes
