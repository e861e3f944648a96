use Rattle.std.proofs.Common.{sym, ap}
use Rattle.pid_types.specs.Outcome.{Outcome}
use Rattle.fork_calls.proofs.Places.{fork-refused}
use Rattle.fork_calls.proofs.would.would_fork.Goals as goal

pub returns-in-Err : goal.returns-in-Err
returns-in-Err c = sym (ap (λ (o : Outcome). o.reply) (fork-refused c.args.store.now c.args.stamp c.args.caller c.args.new_space c.in-Some.found c.in-Some.ensures.row c.in-Err.refusal c.in-Err.ensures.err))
