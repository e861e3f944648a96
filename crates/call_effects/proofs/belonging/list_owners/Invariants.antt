use Rattle.std.proofs.Common.{◌≡◌, map, take}
use Rattle.call_effects.specs.Belonging.{owner_by}
use Rattle.call_effects.proofs.belonging.list_owners.Given as goal

abbrev pub invariant-loop-watched : goal.invariant-loop-watched
invariant-loop-watched l = record { owners : l.owners.items ≡ map (owner_by l.kind) (take l.watched-index l.tasks) }
