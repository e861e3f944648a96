-- A walk up the ancestors to the first that passes a test.
use Rattle.std.proofs.Common.{◌≡◌, ℕ, zero, suc, ◌+◌, ◌-◌, ◌<◌, Bool, true, false, cond, [], ◌∷◌, Option, Some, None, refl, sym, ap, ◌∙◌, arith}
use Rattle.std.specs.Prelude.{find}
use Rattle.std.specs.Option.{option_map_or}
use Rattle.pid_types.specs.Chains.{climb}

-- one step of a climb
pub climb-step : (f : ℕ → Option ℕ) (most n id : ℕ) → most ≡ n + 1 → climb f most id ≡ id ∷ option_map_or (climb f n) (f id) []
unfolding climb
climb-step f zero n id e = absurd (omega (arith, e))
climb-step f (suc most) n id e = let same : most ≡ n = omega (arith, e) in ap (λ m. id ∷ option_map_or (climb f m) (f id) []) same

-- what is found from the ancestors of a key on, of which at most so many are looked at
abbrev pub found_above : (ℕ → Option ℕ) → (ℕ → Bool) → ℕ → ℕ → Option ℕ
found_above f test most key = find test (option_map_or (climb f most) (f key) [])

module _ (f : ℕ → Option ℕ) (test : ℕ → Bool) where
  step_up : (limit count key up : ℕ) → count < limit → f key ≡ Some up
      → found_above f test (limit - count) key ≡ cond (test up) (Some up) (found_above f test (limit - (count + 1)) up)
  step_up limit count key up below is =
      rw (is, climb-step f (limit - count) (limit - (count + 1)) up (omega (arith, below))) refl

  -- the next ancestor passes
  pub found-here : (limit count key up : ℕ) (whole : Option ℕ) → count < limit → f key ≡ Some up → test up ≡ true → found_above f test (limit - count) key ≡ whole → Some up ≡ whole
  found-here limit count key up whole below is passes h = rw passes at (sym (step_up limit count key up below is)) ∙ h

  -- it does not, so the search goes on above it
  pub found-further : (limit count key up : ℕ) (whole : Option ℕ) → count < limit → f key ≡ Some up → test up ≡ false → found_above f test (limit - count) key ≡ whole → found_above f test (limit - (count + 1)) up ≡ whole
  found-further limit count key up whole below is fails h = rw fails at (sym (step_up limit count key up below is)) ∙ h

  -- there is no further ancestor
  pub found-top : (most key : ℕ) (whole : Option ℕ) → f key ≡ None → found_above f test most key ≡ whole → None ≡ whole
  found-top most key whole is h = rw is at h

  -- no more may be looked at
  pub found-limit : (most key : ℕ) (whole : Option ℕ) → most ≡ 0 → found_above f test most key ≡ whole → None ≡ whole
  unfolding climb
  found-limit most key whole is h = go (f key) (rw is at h)
    where
      go : (o : Option ℕ) → find test (option_map_or (climb f 0) o []) ≡ whole → None ≡ whole
      go None e = e
      go (Some up) e = e
