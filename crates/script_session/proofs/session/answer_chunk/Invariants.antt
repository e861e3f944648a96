use Rattle.std.proofs.Common.{◌≡◌, ◌+◌, ◌≤◌, ◌++◌, List, length}
use Rattle.script_session.proofs.Names.{Line, said_within, kept_after, Sends, progress_of, Answers, IsTallied}
use Rattle.script_session.proofs.session.answer_chunk.Given as goal

abbrev pub invariant-loop-end : goal.invariant-loop-end
invariant-loop-end g l = record {
  lines : List Line;
  answered : Answers g.T.Table.may_starve (progress_of (g.T.Table.state l.initial.table) (g.T.Table.stamp l.initial.table) l.initial.session.tally l.initial.session.outbox)
      (progress_of (g.T.Table.state l.table) (g.T.Table.stamp l.table) l.session.tally l.session.outbox)
      (Sends (g.K.Sink.did l.initial.sink l.sink)) (g.T.Table.did l.initial.table l.table) lines;
  said : lines ++ said_within l.session.part l.rest ≡ said_within l.initial.session.part l.chunk;
  kept : kept_after l.session.part l.rest ≡ kept_after l.initial.session.part l.chunk;
  counted : IsTallied l.session.tally;
  few : l.session.tally.lines + length l.rest ≤ l.initial.session.tally.lines + length l.chunk;
}

abbrev pub decreases-loop-end : goal.decreases-loop-end
decreases-loop-end g l = length l.rest
