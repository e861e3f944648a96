use Rattle.std.proofs.Common.{◌≡◌, ◌+◌, ◌^◌, ◌≤◌, List, ℕ, [], Some, length}
use Rattle.script_session.proofs.Names.{Consumes, said_within, kept_after, Adds}
use Rattle.script_session.proofs.job.read_job.Given as goal

abbrev pub invariant-loop-turn : goal.invariant-loop-turn
invariant-loop-turn g l = record {
  read : List ℕ;
  consumed : Consumes (g.S.Source.remaining l.initial.source) (g.S.Source.remaining l.source) read;
  added : Adds [] 0 l.job.calls.items l.job.lines (said_within (Some []) read);
  part : l.job.part ≡ kept_after (Some []) read;
  room : l.room + length read ≡ 2 ^ 20;
  few : l.job.lines ≤ length read;
  long : l._turn ≤ length read;
  size : length l.chunk ≡ 4096;
}
