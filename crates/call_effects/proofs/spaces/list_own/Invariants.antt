use Rattle.std.proofs.Common.{◌≡◌, flat_map, take}
use Rattle.call_effects.specs.Spaces.{watched_spaces}
use Rattle.call_effects.proofs.spaces.list_own.Given as goal

abbrev pub invariant-loop-watched : goal.invariant-loop-watched
invariant-loop-watched l = record { own : l.ids.items ≡ flat_map watched_spaces (take l.watched-index l.tasks) }
