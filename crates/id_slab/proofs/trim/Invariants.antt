use Rattle.std.proofs.Common.{◌≡◌, length}
use Rattle.id_slab.specs.Entries.{live, Rise}
use Rattle.id_slab.proofs.trim.Given as goal

abbrev pub invariant-loop-last : goal.invariant-loop-last
invariant-loop-last l = record {
  rise : Rise l.entries.items;
  same : live l.entries.items ≡ live l.initial.entries.items;
}

abbrev pub decreases-loop-last : goal.decreases-loop-last
decreases-loop-last l = length l.entries.items
