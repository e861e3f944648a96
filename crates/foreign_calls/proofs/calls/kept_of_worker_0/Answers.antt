use Rattle.std.proofs.Common.{Option, subst}
use Rattle.pid_types.specs.declared.call.Call.{Call}
use Rattle.foreign_handles.specs.declared.held.Held.TheVariants.{Recorded}
use Rattle.foreign_calls.specs.Calls.{MakesSaid}
use Rattle.foreign_calls.proofs.calls.kept_of_worker_0.Goals as goal

pub returns : goal.returns
returns c =
    let place = c.said_any_kept.new.ordinal in
    (place, subst (λ (said : Option Call). MakesSaid (Recorded c.args.kept.now) 0 said c.args.reply.now c.said_any_kept.new.reply 0 place c.said_any_kept.result (Recorded c.said_any_kept.new.held)) c.read_call.ensures c.said_any_kept.ensures)
