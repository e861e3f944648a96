use Rattle.std.proofs.Common.{arith}
use Rattle.task_table.specs.Store.{HasNoThreads, AreUsed}
use Rattle.task_table.proofs.Threaded as threads
use Rattle.task_table.proofs.view.laws.Goals as goal

pub returns : goal.returns
returns c =
    let used : HasNoThreads c.args.store.now.threads → AreUsed c.args.store.now.numbering = threads.used c.args.store.now.numbering c.args.store.now.threads c.thread_laws.ensures in
    grind (arith, used)
