use Rattle.std.proofs.Common.{◌≡◌, ◌+◌, ◌≤◌, ◌++◌, List, length}
use Rattle.script_session.proofs.Names.{Line, said_within, kept_after, Adds}
use Rattle.script_session.proofs.job.Job.push_bytes.Given as goal

abbrev pub invariant-loop-end : goal.invariant-loop-end
invariant-loop-end l = record {
  lines : List Line;
  added : Adds l.initial.self.calls.items l.initial.self.lines l.self.calls.items l.self.lines lines;
  said : lines ++ said_within l.self.part l.rest ≡ said_within l.initial.self.part l.bytes;
  kept : kept_after l.self.part l.rest ≡ kept_after l.initial.self.part l.bytes;
  few : l.self.lines + length l.rest ≤ l.initial.self.lines + length l.bytes;
}

abbrev pub decreases-loop-end : goal.decreases-loop-end
decreases-loop-end l = length l.rest
