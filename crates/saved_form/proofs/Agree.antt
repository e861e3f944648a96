-- What a test says of each number below a bound, by computing it for all of them.
use Rattle.std.proofs.Common.{◌≡◌, ℕ, zero, suc, ◌<◌, Bool, true, ◌&&◌, nat_eq, arith, inl, inr}
use Rattle.std.proofs.lemmas.Bool.{cases_eq, eqb-true}
use Rattle.saved_form.proofs.Tests.{both_of}

-- the two are equal at each number below the bound
unfoldable pub agree_below : (ℕ → ℕ) → (ℕ → ℕ) → ℕ → Bool
agree_below f g zero = true
agree_below f g (suc n) = nat_eq (f n) (g n) && agree_below f g n

pub agree_at : (f g : ℕ → ℕ) (n : ℕ) → agree_below f g n ≡ true → (k : ℕ) → k < n → f k ≡ g k
unfolding agree_below
agree_at f g zero h k lt = absurd (omega arith)
agree_at f g (suc n) h k lt =
    let both = both_of (nat_eq (f n) (g n)) (agree_below f g n) h in
    elim (cases_eq k n) [ inl same ↦ rw same (eqb-true _ _ both.0) | inr other ↦ agree_at f g n both.1 k (omega arith) ]
