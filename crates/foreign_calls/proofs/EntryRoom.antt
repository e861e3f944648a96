-- What is seen of a room in which one place is written.
use Rattle.std.proofs.Common.{◌≡◌, ◌≢◌, ℕ, zero, suc, ◌<◌, List, [], ◌∷◌, length, set, Some, slice_get, refl, ap, arith}

pub written : {X : Type 0} (xs : List X) (k : ℕ) (y : X) → k < length xs → slice_get (set xs k y) k ≡ Some y
written [] k y lt = absurd (omega (arith, lt))
written (x ∷ xs) zero y lt = refl
written (x ∷ xs) (suc k) y lt = written xs k y (omega (arith, lt))

pub beside : {X : Type 0} (xs : List X) (k s : ℕ) (y : X) → s ≢ k → slice_get (set xs k y) s ≡ slice_get xs s
beside [] k s y differs = refl
beside (x ∷ xs) zero zero y differs = absurd (differs refl)
beside (x ∷ xs) zero (suc s) y differs = refl
beside (x ∷ xs) (suc k) zero y differs = refl
beside (x ∷ xs) (suc k) (suc s) y differs = beside xs k s y (λ e. differs (ap suc e))
