use Rattle.std.proofs.Common.{◌<◌, subst}
use Rattle.foreign_calls.proofs.Told.{makes_recorded, makes_none}
use Rattle.foreign_calls.proofs.kept_calls.make_kept.Goals as goal

pub returns-in-Err-clause-makes : goal.returns-in-Err-clause-makes
returns-in-Err-clause-makes c =
    let known = subst (λ n. c.args.worker < n) c.workers.ensures c.if-worker-workers.false in
    makes_none c.make_call.result c.in-Err.fault c.args.held.now c.make_call.new.self c.args.worker c.args.made c.args.ordinal.now c.status_of.result c.in-Err.is known
    c.in-Err.ensures.err c.make_call.ensures.spent c.make_call.ensures.no_memory c.status_of.ensures.no_memory c.status_of.ensures.spent

pub returns-clause-makes : goal.returns-clause-makes
returns-clause-makes c =
    let known = subst (λ n. c.args.worker < n) c.workers.ensures c.if-worker-workers.false in
    makes_recorded c.args.held.now c.make_call.new.self c.args.worker c.args.made c.args.ordinal.now c.total-place.result known
    (λ spent. let never = c.in-Ok.ensures.spent.1 spent in cc) c.total-place.ensures.value c.in-Ok.ensures.history c.in-Ok.ensures.step c.in-Ok.ensures.others c.in-Ok.ensures.moved

pub returns-clause-reply : goal.returns-clause-reply
returns-clause-reply c = λ _. c.in-Ok.ensures.reply

pub returns-clause-room : goal.returns-clause-room
returns-clause-room c = c.make_call.ensures.room
