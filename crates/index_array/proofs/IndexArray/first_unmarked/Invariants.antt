use Rattle.std.proofs.Common.{◌≡◌, ℕ, ◌<◌, ◌≤◌, ◌-◌, false}
use Rattle.index_array.specs.Place.{entry_at, is_unmarked}
use Rattle.index_array.proofs.IndexArray.first_unmarked.Given as goal

abbrev pub invariant-loop-at : goal.invariant-loop-at
invariant-loop-at l = record {
  above : l.from ≤ l.at;
  passed : (k : ℕ) → l.from ≤ k → k < l.at → is_unmarked (entry_at l.self k) ≡ false;
}

abbrev pub decreases-loop-at : goal.decreases-loop-at
decreases-loop-at l = l.end - l.at
