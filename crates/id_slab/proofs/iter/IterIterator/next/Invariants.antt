use Rattle.std.proofs.Common.{◌≡◌, length}
use Rattle.id_slab.specs.Entries.{live}
use Rattle.id_slab.proofs.iter.IterIterator.next.Given as goal

abbrev pub invariant-loop-first : goal.invariant-loop-first
invariant-loop-first l = live l.self-inside.entries.now ≡ live l.initial.self-inside.entries.now

abbrev pub decreases-loop-first : goal.decreases-loop-first
decreases-loop-first l = length l.self-inside.entries.now
