use Rattle.std.proofs.Common.{◌≡◌, ◌∷◌, take}
use Rattle.ns_tree.proofs.places.path_below.Given as goal

abbrev pub invariant-loop-k : goal.invariant-loop-k
invariant-loop-k l = l.path.items ≡ l.key ∷ take l.k l.around
