use Rattle.std.proofs.Common.{◌≡◌, ℕ, ◌<◌, vec_len, ◌+◌, ◌≤◌, get_or, vec_items, Ok}
use Rattle.std.specs.Prelude.{vec_capacity}
use Rattle.std.specs.Vec.Iter.{into_iter_items, into_iter_len}
use Rattle.worker_jobs.proofs.serve.part.Given as goal

abbrev pub invariant-loop-done : goal.invariant-loop-done
invariant-loop-done g l =
    (goal.iterator-loop-done g).can_next l.done-iterator
    × (goal.iterator-loop-done g).is_finite l.done-iterator
    × (vec_len l.seats + into_iter_len l.done-iterator ≡ vec_len l.fn.dones)
    × (vec_len l.works ≡ vec_len l.seats)
    × (vec_len l.fn.dones ≤ vec_capacity l.seats)
    × (vec_len l.fn.dones ≤ vec_capacity l.works)
    × ((k : ℕ) (d : _) (e : _) → k < into_iter_len l.done-iterator → get_or (into_iter_items l.done-iterator) k d ≡ get_or (vec_items l.fn.dones) (vec_len l.seats + k) e)
    × ((k : ℕ) (d : _) → k < vec_len l.seats → (e : _) → get_or (vec_items l.seats) k d ≡ (get_or (vec_items l.fn.dones) k e).seat)
    × ((k : ℕ) (d : _) → k < vec_len l.seats → (e : _) → (get_or (vec_items l.fn.dones) k e).work ≡ Ok (get_or (vec_items l.works) k d))
