use Rattle.std.proofs.Common.{◌≡◌, ◌*◌, ◌≤◌, false, List, [], Some, length}
use Rattle.script_session.proofs.Names.{Event, heard, readings, at_start, said_within, kept_after, progress_of, IsTallied}
use Rattle.script_session.proofs.Turns.{GoesOn}
use Rattle.script_session.proofs.session.run_dialogue.Given as goal

abbrev pub invariant-loop-turn : goal.invariant-loop-turn
invariant-loop-turn g l = record {
  events : List Event;
  done : g.D.Source.did l.initial.devices l.devices events;
  on : GoesOn g.T.Table.may_starve (at_start (g.T.Table.state l.initial.table) (g.T.Table.stamp l.initial.table))
      (progress_of (g.T.Table.state l.table) (g.T.Table.stamp l.table) l.session.tally l.session.outbox) (g.T.Table.did l.initial.table l.table)
      (said_within (Some []) (heard events)) events false;
  part : l.session.part ≡ kept_after (Some []) (heard events);
  empty : l.session.outbox ≡ [];
  counted : IsTallied l.session.tally;
  turns : length (readings events) ≡ l._turn;
  few : l.session.tally.lines ≤ length (heard events);
  long : l._turn ≤ length (heard events);
  short : length (heard events) ≤ 4096 * l._turn;
  size : length l.chunk ≡ 4096;
}
