use Rattle.saved_form.specs.Reading.{ReadsLevels}
use Rattle.saved_form.proofs.read.read_levels.Given as goal

abbrev pub invariant-loop-k : goal.invariant-loop-k
invariant-loop-k l = ReadsLevels l.k l.bytes l.levels
