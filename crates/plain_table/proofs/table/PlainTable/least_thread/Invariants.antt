use Rattle.std.proofs.Common.{◌≡◌, take}
use Rattle.std.specs.Prelude.{filter_map}
use Rattle.pid_types.specs.Chains.{least_of}
use Rattle.plain_table.specs.Least.{thread_from}
use Rattle.plain_table.proofs.table.PlainTable.least_thread.Given as goal

abbrev pub invariant-loop-thread : goal.invariant-loop-thread
invariant-loop-thread l = l.least ≡ least_of (filter_map (thread_from l.view l.space l.from) (take l.thread-index l.thread-items))
