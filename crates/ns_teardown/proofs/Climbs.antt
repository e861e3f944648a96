-- Climbs that end, and climbs that go in step.
use Rattle.std.proofs.Common.{◌≡◌, inl, inr, ℕ, zero, suc, ◌<◌, ◌≤◌, Bool, cond, [], ◌∷◌, length, map, Option, Some, None, refl, sym, ap, subst, ◌∙◌, arith, option_map}
use Rattle.std.specs.Prelude.{find}
use Rattle.std.specs.Option.{option_map_or}
use Rattle.pid_types.specs.Chains.{climb}
use Rattle.pid_types.specs.Membership.{IsIn}
use Rattle.pid_types.proofs.Ancestors.{found_above, climb-step}
use Rattle.model_laws.proofs.Chains.{Stops, climb-None, climb-Some, climb_cases}

-- a climb that meets one without a parent stops
pub Stops-at_top : (f : ℕ → Option ℕ) (k id a : ℕ) → f a ≡ None → IsIn a (climb f k id) → Stops f k id
unfolding climb
Stops-at_top f zero id a top i = i
Stops-at_top f (suc k) id a top i = elim (climb_cases f k id a i) [
  | inl e ↦ inl (subst (λ x. f x ≡ None) e top)
  | inr r ↦ inr (r.0, r.1, Stops-at_top f k r.0 a top r.2)
]

-- and is no longer for more steps
pub climb-enough : (f : ℕ → Option ℕ) (k m id : ℕ) → Stops f k id → k ≤ m → climb f m id ≡ climb f k id
climb-enough f zero m id s le = absurd s
climb-enough f (suc k) zero id s le = absurd (omega (arith, le))
climb-enough f (suc k) (suc m) id (inl e) le = climb-None f m id e ∙ sym (climb-None f k id e)
climb-enough f (suc k) (suc m) id (inr r) le =
    climb-Some f m id r.0 r.1 ∙ ap (λ xs. id ∷ xs) (climb-enough f k m r.0 r.2 (omega (arith, le))) ∙ sym (climb-Some f k id r.0 r.1)

-- the climb from the parent stops too, a step sooner
Stops-up : (f : ℕ → Option ℕ) (k id up : ℕ) → Stops f (suc k) id → f id ≡ Some up → Stops f k up
Stops-up f k id up (inl none) is = absurd (cc)
Stops-up f k id up (inr r) is = let same : r.0 ≡ up = cc in subst (Stops f k) same r.2

-- so it is shorter
pub climb-shorter : (f : ℕ → Option ℕ) (k id up : ℕ) → Stops f k id → f id ≡ Some up → length (climb f k up) < length (climb f k id)
climb-shorter f zero id up s is = absurd s
climb-shorter f (suc k) id up s is =
    let same = ap length (climb-enough f k (suc k) up (Stops-up f k id up s is) (omega arith)) in
    let longer = ap length (climb-Some f k id up is) in
    omega (arith, same, longer)

-- and what is found above a key is the parent, if that passes, or else what is found above the parent
pub found-up : (f : ℕ → Option ℕ) (test : ℕ → Bool) (k id up : ℕ) → Stops f k id → f id ≡ Some up → found_above f test k id ≡ cond (test up) (Some up) (found_above f test k up)
found-up f test zero id up s is = absurd s
found-up f test (suc k) id up s is =
    let stops = Stops-up f k id up s is in
    ap (λ o. find test (option_map_or (climb f (suc k)) o [])) is
    ∙ ap (find test) (climb-enough f k (suc k) up stops (omega arith) ∙ sym (climb-enough f k (suc (suc k)) up stops (omega arith)) ∙ climb-step f (suc (suc k)) (suc k) up (omega arith))

-- what a climb keeps holds of all that it meets
pub climb-all : (f : ℕ → Option ℕ) (G : ℕ → Type 0) → ((x y : ℕ) → G x → f x ≡ Some y → G y) → (n x : ℕ) → G x → (y : ℕ) → IsIn y (climb f n x) → G y
unfolding climb
climb-all f G up zero x good y i = absurd i
climb-all f G up (suc n) x good y i = elim (climb_cases f n x y i) [
  | inl e ↦ subst G (sym e) good
  | inr r ↦ climb-all f G up n r.0 (up x r.0 good r.1) y r.2
]

-- where each step from a key is the step from its number, the climbs are in step
pub climb-mapped : (f g : ℕ → Option ℕ) (h : ℕ → ℕ) (G : ℕ → Type 0) → ((x y : ℕ) → G x → f x ≡ Some y → G y) → ((x : ℕ) → G x → g (h x) ≡ option_map h (f x))
    → (n x : ℕ) → G x → climb g n (h x) ≡ map h (climb f n x)
unfolding climb
climb-mapped f g h G up step zero x good = refl
climb-mapped f g h G up step (suc n) x good =
    ap (λ o. h x ∷ option_map_or (climb g n) o []) (step x good) ∙ go (λ y k. climb-mapped f g h G up step n y k) (f x) refl
  where
    go : ((y : ℕ) → G y → climb g n (h y) ≡ map h (climb f n y)) → (o : Option ℕ) → f x ≡ o
        → h x ∷ option_map_or (climb g n) (option_map h o) [] ≡ map h (x ∷ option_map_or (climb f n) o [])
    go again None e = refl
    go again (Some y) e = ap (λ l. h x ∷ l) (again y (up x y good e))
