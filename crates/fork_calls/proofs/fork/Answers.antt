use Rattle.std.proofs.Common.{sym, ap, rules}
use Rattle.pid_types.specs.Outcome.{Outcome}
use Rattle.fork_calls.proofs.Places.{fork-refused}
use Rattle.fork_calls.proofs.fork.Goals as goal

pub returns-in-Err-clause-state : goal.returns-in-Err-clause-state
returns-in-Err-clause-state c = sym (ap (λ (o : Outcome). o.state) (fork-refused c.args.store.now c.args.stamp c.args.caller c.args.new_space c.in-Some.found c.in-Some.ensures.row c.in-Err.refusal c.in-Err.ensures.err))

pub returns-in-Err-clause-reply : goal.returns-in-Err-clause-reply
returns-in-Err-clause-reply c = sym (ap (λ (o : Outcome). o.reply) (fork-refused c.args.store.now c.args.stamp c.args.caller c.args.new_space c.in-Some.found c.in-Some.ensures.row c.in-Err.refusal c.in-Err.ensures.err))

pub fork_into-requires-clause-id : goal.fork_into-requires-clause-id
fork_into-requires-clause-id c = search rules
