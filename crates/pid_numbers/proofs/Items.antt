-- The numbers of namespaces, each at its key: what is seen of one that is written.
use Rattle.pid_numbers.proofs.Words.{zero, suc, ◌≡◌, ◌≢◌, ℕ, ◌<◌, Bool, true, List, [], ◌∷◌, length, get_or, set, Option, Some, refl, sym, ap, ◌∙◌}
use Rattle.pid_numbers.proofs.Words.{arith, slice_get, cases_eq, length-set, get_or-set_same, slice_get_read, everywhere}

module _ {X : Type 0} where
  -- what is at a key below their number
  pub got : (xs : List X) (k : ℕ) → k < length xs → (x : X) × (slice_get xs k ≡ Some x)
  got [] k lt = absurd (omega (arith, lt))
  got (x ∷ xs) zero lt = (x, refl)
  got (x ∷ xs) (suc k) lt = got xs k (omega (arith, lt))

  pub set_same : (xs : List X) (k : ℕ) (y : X) → k < length xs → slice_get (set xs k y) k ≡ Some y
  set_same xs k y lt = slice_get_read (set xs k y) (length xs) k y (sym (length-set xs k y)) lt (sym (get_or-set_same xs k y y lt))

  pub set_other : (xs : List X) (k s : ℕ) (y : X) → s ≢ k → slice_get (set xs k y) s ≡ slice_get xs s
  set_other [] k s y differs = refl
  set_other (x ∷ xs) zero zero y differs = absurd (differs refl)
  set_other (x ∷ xs) zero (suc s) y differs = refl
  set_other (x ∷ xs) (suc k) zero y differs = refl
  set_other (x ∷ xs) (suc k) (suc s) y differs = set_other xs k s y (λ e. differs (ap suc e))

  -- one is written over
  pub record Written (old : List X) (key : ℕ) (was now : X) : Type 0 where
    pub before : slice_get old key ≡ Some was
    pub after : slice_get (set old key now) key ≡ Some now
    pub others : (s : ℕ) → s ≢ key → slice_get (set old key now) s ≡ slice_get old s

  pub written : (xs : List X) (key : ℕ) (y z : X) → key < length xs → y ≡ get_or xs key y → Written xs key y z
  written xs key y z lt at = record {
    before = slice_get_read xs (length xs) key y refl lt at;
    after = set_same xs key z lt;
    others = λ s differs. set_other xs key s z differs;
  }

  module _ {old : List X} {key : ℕ} {was now : X} (w : Written old key was now) where
    -- what it shows as before is shown everywhere as before
    pub same : {Y : Type 0} (f : Option X → Y) → f (Some now) ≡ f (Some was) → (s : ℕ) → f (slice_get (set old key now) s) ≡ f (slice_get old s)
    same f e = everywhere (λ s. f (slice_get (set old key now) s)) (λ s. f (slice_get old s)) key (ap f w.after ∙ e ∙ sym (ap f w.before)) (λ s differs. ap f (w.others s differs))

    -- and what is true of it stays true everywhere
    pub kept : (f : Option X → Bool) → (f (Some was) ≡ true → f (Some now) ≡ true) → (s : ℕ) → f (slice_get old s) ≡ true → f (slice_get (set old key now) s) ≡ true
    kept f e s had = grind (arith, cases_eq)
