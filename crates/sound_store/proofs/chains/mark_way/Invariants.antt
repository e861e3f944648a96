use Rattle.std.proofs.Common.{◌<◌, length}
use Rattle.sound_store.specs.Ways.{Reaches, AreReached}
use Rattle.sound_store.proofs.chains.mark_way.Given as goal

abbrev pub invariant-loop : goal.invariant-loop
invariant-loop l = record { marked : AreReached l.store l.known; room : l.at < length l.known; reach : Reaches l.store l.at }
