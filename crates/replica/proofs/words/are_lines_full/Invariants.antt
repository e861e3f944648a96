use Rattle.std.proofs.Common.{◌≡◌, length}
use Rattle.replica.specs.Reading.{are_full, lines_in}
use Rattle.replica.proofs.words.are_lines_full.Given as goal

abbrev pub invariant-loop-line : goal.invariant-loop-line
invariant-loop-line l = are_full (lines_in l.rest) ≡ are_full (lines_in l.lines)

abbrev pub decreases-loop-line : goal.decreases-loop-line
decreases-loop-line l = length l.rest
