use Rattle.std.proofs.Common.{sym}
use Rattle.thread_ends.proofs.Endings.{ends-alone}
use Rattle.ns_teardown.proofs.Good.{good-tasks}
use Rattle.ns_teardown.proofs.Ended.{HasEnded, ended, processes-left}
use Rattle.ns_teardown.proofs.end_task.Goals as goal

pub exit-requires-clause-good : goal.exit-requires-clause-good
exit-requires-clause-good c = good-tasks c.args.store.now c.laws.ensures c.requires.whole

pub returns-clause-state : goal.returns-clause-state
returns-clause-state c =
    let old = c.args.store.now in
    let new = c.exit.new.store in
    let h = c.exit.ensures.parents in
    let e : HasEnded old new c.args.found.now.key h.0 c.args.found.now.task c.args.status =
    record { tasks = c.exit.ensures.tasks; parents = h.2; numbers = c.exit.ensures.numbers; homes = c.exit.ensures.homes; members = c.exit.ensures.members; threads = c.exit.ensures.threads; tree = c.exit.ensures.tree } in
    sym (ended old new c.laws.ensures c.laws-2.ensures c.requires.whole c.args.found.now.key h.0 c.args.found.now.task c.args.status c.requires.there e c.thread_laws.ensures c.thread_laws-2.ensures c.requires.live c.requires.inner h.1)

pub returns-clause-processes : goal.returns-clause-processes
returns-clause-processes c =
    let old = c.args.store.now in
    let new = c.exit.new.store in
    let h = c.exit.ensures.parents in
    let e : HasEnded old new c.args.found.now.key h.0 c.args.found.now.task c.args.status =
    record { tasks = c.exit.ensures.tasks; parents = h.2; numbers = c.exit.ensures.numbers; homes = c.exit.ensures.homes; members = c.exit.ensures.members; threads = c.exit.ensures.threads; tree = c.exit.ensures.tree } in
    processes-left old new c.laws.ensures c.laws-2.ensures c.requires.whole c.args.found.now.key h.0 c.args.found.now.task c.args.status c.requires.there e

pub returns-clause-alone : goal.returns-clause-alone
returns-clause-alone c = ends-alone c.args.store.now.threads c.exit.new.store.threads _ c.exit.ensures.threads
