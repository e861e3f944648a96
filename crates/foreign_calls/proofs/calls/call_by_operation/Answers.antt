use Rattle.std.proofs.Common.{arith, Option, subst}
use Rattle.pid_types.specs.declared.call.Call.{Call}
use Rattle.foreign_handles.specs.declared.held.Held.TheVariants.{Bare}
use Rattle.foreign_calls.specs.Calls.{MakesSaid}
use Rattle.foreign_calls.proofs.Told.{said_by_worker_0}
use Rattle.foreign_calls.proofs.calls.call_by_operation.Goals as goal

pub returns-in-Bare-2 : goal.returns-in-Bare-2
returns-in-Bare-2 c =
    let place = c.args.ordinal.now in
    let makes = said_by_worker_0 c.args.held.now c.in-Bare.field-0 c.args.worker c.read_call.result c.args.reply.now c.said_bare.new.reply place c.said_bare.result _ c.in-Bare.is (omega (arith, c.if-worker-gt0.false)) c.said_bare.ensures in
    subst (λ (said : Option Call). MakesSaid c.args.held.now c.args.worker said c.args.reply.now c.said_bare.new.reply place place c.said_bare.result (Bare c.said_bare.new.held)) c.read_call.ensures makes
