use Rattle.std.proofs.Common.{◌≡◌, ◌++◌, List, ℕ, length}
use Rattle.sha2.specs.Hashers.{Holds256}
use Rattle.replica.specs.Reading.{lines_in}
use Rattle.replica.specs.Replicas.{MakesFront, after_lines, answers_to, dialogue}
use Rattle.stamped_table.specs.Stamped.{Stamped}
use Rattle.replica.proofs.lines.make_lines.Given as goal

-- what is left to make, behind what was made, comes to what there was to make
abbrev pub invariant-loop-line : goal.invariant-loop-line
invariant-loop-line l =
    let start = l.initial.table in
    let now = l.table in
    record {
      after : after_lines now (lines_in l.rest) ≡ after_lines start (lines_in l.lines);
      front : (t : Stamped) → MakesFront (lines_in l.rest) now t → MakesFront (lines_in l.lines) start t;
      answer : l.answers.items ++ answers_to now (lines_in l.rest) ≡ l.initial.answers.items ++ answers_to start (lines_in l.lines);
      hashed : (m : List ℕ) → Holds256 l.initial.hasher m
          → (k : List ℕ) × Holds256 l.hasher k × (k ++ dialogue now (lines_in l.rest) ≡ m ++ dialogue start (lines_in l.lines));
    }

abbrev pub decreases-loop-line : goal.decreases-loop-line
decreases-loop-line l = length l.rest
