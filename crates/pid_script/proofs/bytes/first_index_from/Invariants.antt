use Rattle.pid_script.specs.Reading.{IsFreeOf}
use Rattle.pid_script.proofs.bytes.first_index_from.Given as goal

abbrev pub invariant-loop-index : goal.invariant-loop-index
invariant-loop-index l = IsFreeOf l.byte l.index l.bytes
