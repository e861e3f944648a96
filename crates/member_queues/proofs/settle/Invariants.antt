use Rattle.member_queues.specs.Heap.{nil, Keeps}
use Rattle.member_queues.proofs.settle.Given as goal

abbrev pub invariant-loop-level : goal.invariant-loop-level
invariant-loop-level l = Keeps l.initial.forest l.forest nil
