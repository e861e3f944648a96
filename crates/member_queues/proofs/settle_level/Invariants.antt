use Rattle.member_queues.specs.Heap.{nil, Keeps}
use Rattle.member_queues.proofs.settle_level.Given as goal

abbrev pub invariant-loop : goal.invariant-loop
invariant-loop l = Keeps l.initial.forest l.forest nil
