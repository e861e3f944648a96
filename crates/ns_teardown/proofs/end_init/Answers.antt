use Rattle.std.proofs.Common.{sym, ap, is_some}
use Rattle.task_table.proofs.LookUps.{named}
use Rattle.thread_ends.proofs.Endings.{ends-alone}
use Rattle.ns_teardown.proofs.Good.{good-tasks}
use Rattle.ns_teardown.proofs.Fallen.{HasFallen, fallen, processes-after}
use Rattle.ns_teardown.proofs.end_init.Goals as goal

pub fall-requires-clause-good : goal.fall-requires-clause-good
fall-requires-clause-good c = good-tasks c.args.store.now c.laws.ensures c.requires.whole

pub fall-requires-clause-root : goal.fall-requires-clause-root
fall-requires-clause-root c = ap is_some c.requires.whole.sound.coherent.controls.root.1

pub returns-clause-state : goal.returns-clause-state
returns-clause-state c =
    let old = c.args.store.now in
    let new = c.fall.new.store in
    let u = named old c.laws.ensures c.args.init.now.key c.args.init.now.task c.requires.there in
    let b = c.fall.ensures.numbers u.0 u.1 in
    let f : HasFallen old new u.0.space c.args.init.now.key c.args.status =
    record { slots = c.fall.ensures.slots u.0 u.1; marked = b.0; falls = b.1; laws = b.2; less = b.3; homes = c.fall.ensures.homes; parents = c.fall.ensures.tree; threads = c.fall.ensures.threads u.0 u.1 } in
    sym (fallen old new c.laws.ensures c.laws-2.ensures c.requires.whole c.args.init.now.key c.args.init.now.task c.args.status c.requires.there u.0 u.1 (c.requires.top u.0 u.1).0 f c.thread_laws.ensures c.thread_laws-2.ensures)

pub returns-clause-processes : goal.returns-clause-processes
returns-clause-processes c =
    let old = c.args.store.now in
    let new = c.fall.new.store in
    let u = named old c.laws.ensures c.args.init.now.key c.args.init.now.task c.requires.there in
    let b = c.fall.ensures.numbers u.0 u.1 in
    let f : HasFallen old new u.0.space c.args.init.now.key c.args.status =
    record { slots = c.fall.ensures.slots u.0 u.1; marked = b.0; falls = b.1; laws = b.2; less = b.3; homes = c.fall.ensures.homes; parents = c.fall.ensures.tree; threads = c.fall.ensures.threads u.0 u.1 } in
    processes-after old new c.laws.ensures c.laws-2.ensures c.requires.whole c.args.init.now.key c.args.init.now.task c.args.status c.requires.there u.0 u.1 (c.requires.top u.0 u.1).0 f

pub returns-clause-alone : goal.returns-clause-alone
returns-clause-alone c =
    let u = named c.args.store.now c.laws.ensures c.args.init.now.key c.args.init.now.task c.requires.there in
    ends-alone c.args.store.now.threads c.fall.new.store.threads _ (c.fall.ensures.threads u.0 u.1)
