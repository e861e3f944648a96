use Rattle.std.proofs.Common.{◌-◌, ◌<◌, length}
use Rattle.sound_store.specs.Ways.{Reaches}
use Rattle.sound_store.proofs.Marks.{IsAhead}
use Rattle.sound_store.proofs.chains.leads_up.Given as goal

abbrev pub invariant-loop : goal.invariant-loop
invariant-loop l = record {
  room : l.at < length l.known;
  ahead : IsAhead l.store l.known l.key (l.store.numbering.pid_max - l.counter) l.at;
  back : Reaches l.store l.at → Reaches l.store l.key;
}
