use Rattle.std.proofs.Common.{◌≡◌, ℕ, ◌<◌, vec_len, ◌+◌, ◌≤◌, get_or, vec_items}
use Rattle.std.specs.Prelude.{vec_capacity}
use Rattle.std.specs.Vec.Iter.{into_iter_items, into_iter_len}
use Rattle.worker_jobs.proofs.serve.start_all.Given as goal

abbrev pub invariant-loop-seat : goal.invariant-loop-seat
invariant-loop-seat g l =
    (goal.iterator-loop-seat g).can_next l.seat-iterator
    × (goal.iterator-loop-seat g).is_finite l.seat-iterator
    × (l.worker + into_iter_len l.seat-iterator ≡ g.row.N)
    × ((k : ℕ) (d : _) → k < into_iter_len l.seat-iterator → (get_or (into_iter_items l.seat-iterator) k d).worker ≡ l.worker + k)
    × (vec_len l.handles ≡ l.worker)
    × (g.row.N ≤ vec_capacity l.handles)
    × ((k : ℕ) (d : _) → k < l.worker → (get_or (vec_items l.handles) k d).promise.worker ≡ k)
    × ((k : ℕ) (d : _) (j : _) → k < l.worker → (get_or (vec_items l.handles) k d).promise.calls.now ≡ (get_or l.jobs k j).items)
    × ((k : ℕ) (d : _) → k < l.worker → (get_or (vec_items l.handles) k d).promise.gate.now ≡ l.gate)
