use Rattle.std.proofs.Common.{◌≡◌, ◌+◌, length}
use Rattle.replica.specs.Reading.{lines_in}
use Rattle.replica.proofs.words.count_lines.Given as goal

abbrev pub invariant-loop-after : goal.invariant-loop-after
invariant-loop-after l = l.count + length (lines_in l.rest) ≡ length (lines_in l.lines) + 1

abbrev pub decreases-loop-after : goal.decreases-loop-after
decreases-loop-after l = length l.rest
