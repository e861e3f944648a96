-- The draw is the cyclic one.
use Rattle.model_laws.proofs.Words.{◌≡◌, ℕ, ◌<◌, ◌≤◌, max, false, cond, List, Some, None, arith, inl, inr, nat_lt, ltb-true, ltb-false, cond_both, contains, least_free, restart, cyclic_draw}
use Rattle.pid_types.proofs.LeastFree as LeastFree
use Rattle.model_laws.specs.Draws.{IsLeastFree, IsFull, IsCyclicDraw}

-- the least number from low on that is not taken is the least free one of the range, if it is below the bound
IsLeastFree-below : (ns : List ℕ) (low high : ℕ) → least_free ns low < high → IsLeastFree ns low high (least_free ns low)
IsLeastFree-below ns low high h =
    let f = LeastFree.least_free-IsLeastFree ns low in
    record { from = f.from; below = h; free = f.absent; least = f.least }

-- and else all of the range are taken
IsFull-above : (ns : List ℕ) (low high : ℕ) → high ≤ least_free ns low → IsFull ns low high
IsFull-above ns low high h n from below = (LeastFree.least_free-IsLeastFree ns low).least n from (omega arith)

-- the draw is the cyclic one
pub draw_is_least : (pid_max cursor : ℕ) (ns : List ℕ) → IsCyclicDraw pid_max cursor ns (cyclic_draw pid_max cursor ns)
unfolding cyclic_draw
draw_is_least pid_max cursor ns =
    cond_both (nat_lt upper pid_max) (Some upper) (cond (nat_lt lower pid_max) (Some lower) None) (IsCyclicDraw pid_max cursor ns)
    (λ e. inl (IsLeastFree-below ns (max cursor low) pid_max (ltb-true _ _ e)))
    (λ e. cond_both (nat_lt lower pid_max) (Some lower) None (IsCyclicDraw pid_max cursor ns)
    (λ f. inr (IsFull-above ns (max cursor low) pid_max (ltb-false _ _ e), IsLeastFree-below ns low pid_max (ltb-true _ _ f)))
    (λ f. IsFull-above ns low pid_max (ltb-false _ _ f)))
  where
    low : ℕ
    low = restart cursor

    upper : ℕ
    upper = least_free ns (max cursor low)

    lower : ℕ
    lower = least_free ns low

-- a number that a draw gives is not taken, above 0 and below the bound
pub draw-Some : (pid_max cursor : ℕ) (ns : List ℕ) (n : ℕ) → cyclic_draw pid_max cursor ns ≡ Some n
    → (contains ns n ≡ false) × (0 < n) × (n < pid_max)
draw-Some pid_max cursor ns n h =
    let d = LeastFree.draw-Some pid_max cursor ns n h in
    let above_zero : 0 < restart cursor = cond_both (nat_lt 300 cursor) 300 1 (λ x. 0 < x) (λ _. omega arith) (λ _. omega arith) in
    (d.0, omega (arith, d.1, above_zero), d.2)
