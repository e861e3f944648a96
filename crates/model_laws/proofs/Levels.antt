-- A name's number in a namespace is the entry at the namespace's level.
use Rattle.model_laws.proofs.Words.{◌≡◌, ◌≤◌, ℕ, zero, suc, ◌+◌, not, ◌==◌, List, [], ◌∷◌, ◌++◌, reverse, length, drop, Option, refl, sym, ap, ◌∙◌, inl, inr, arith, length-append, slice_get, reverse-append, length-reverse, append_assoc, eq-eqb, ne_eqb, and_left, not_from_false, cases_Bool, State, climb, parent_space, path_up, level, beside, beside_from, number, numbers_from, taken, parent_control, control_path, is_dead, sweep, IsIn, IsSound, ◌-◌}
use Rattle.model_laws.proofs.Ground.{IsIn-reverse, filter-all, number-within, number-on_path, Stops, Stops-at_root, climb-None, climb-Some, climb-stopped, climb_suffix, length-climb}
use Rattle.model_laws.specs.NumberLaws.{LevelsAreBounded, NamesHaveNumbers, NumberIsAtLevel, NumbersFromLevel, SweepKeepsNumbered}
use Rattle.model_laws.proofs.Sweeps.{kept-by_name, to_kept}

-- the number beside an id is the first of those from it on
beside-first : (s : ℕ) (ts ns : List ℕ) → beside s ts ns ≡ slice_get (beside_from s ts ns) 0
beside-first s [] ns = refl
beside-first s (t ∷ ts) [] = refl
beside-first s (t ∷ ts) (n ∷ ns) = grind (arith, beside-first s ts ns)

-- the first that is left
first-drop : (k : ℕ) (ns : List ℕ) → slice_get (drop k ns) 0 ≡ slice_get ns k
first-drop zero ns = refl
first-drop (suc k) [] = refl
first-drop (suc k) (n ∷ ns) = first-drop k ns

-- a chain that stops begins with its id, which stands there once
climb_once : (f : ℕ → Option ℕ) (k id : ℕ) → Stops f k id → (rest : List ℕ) × (climb f k id ≡ id ∷ rest) × (IsIn id rest → ⊥)
climb_once f zero id s = elim s [ ]
climb_once f (suc k) id (inl none) = ([], climb-None f k id none, λ i. i)
climb_once f (suc k) id (inr r) = (
  climb f k r.0,
  climb-Some f k id r.0 r.1,
  λ i.
      let t = climb_suffix f k r.0 id r.2 i in
      let a : length (climb f k r.0) ≡ length t.0 + length (climb f k id) = ap length t.1 ∙ length-append t.0 (climb f k id) in
      let b : length (climb f (suc k) id) ≡ length (climb f k id) = ap length (climb-stopped f k id t.2) in
      let c : length (climb f (suc k) id) ≡ suc (length (climb f k r.0)) = ap length (climb-Some f k id r.0 r.1) in
      omega arith,
)

-- from an id on stand the numbers behind as many as are before it
beside_from-place : (s : ℕ) (ts us ns : List ℕ) → (IsIn s ts → ⊥) → beside_from s (ts ++ s ∷ us) ns ≡ drop (length ts) ns
beside_from-place s [] us [] off = refl
beside_from-place s [] us (n ∷ ns) off = rw (eq-eqb s s refl) refl
beside_from-place s (t ∷ ts) us [] off = refl
beside_from-place s (t ∷ ts) us (n ∷ ns) off = rw (ne_eqb t s (λ e. off (inl (sym e)))) (beside_from-place s ts us ns (λ i. off (inr i)))

-- a name's numbers from a namespace on its path inwards are those from the level of that namespace on: it stands on the path once
pub numbers_are_from_level : NumbersFromLevel
unfolding numbers_from level path_up
numbers_are_from_level spaces name s root on one_each i =
    let f : ℕ → Option ℕ = parent_space spaces in
    let t = climb_suffix f 33 name.space s (Stops-at_root f 33 name.space root on) i in
    let o = climb_once f 33 s t.2 in
    let path : climb f 33 name.space ≡ t.0 ++ s ∷ o.0 = t.1 ∙ ap (λ xs. t.0 ++ xs) o.1 in
    let a : length (climb f 33 s) ≡ suc (length o.0) = ap length o.1 in
    let deep : length (reverse o.0) ≡ length (climb f 33 s) - 1 = omega (arith, a, length-reverse o.0) in
    ap (λ xs. beside_from s xs name.numbers.items) (ap reverse path ∙ reverse-append t.0 (s ∷ o.0) ∙ ap (λ xs. xs ++ reverse t.0) (reverse-append (s ∷ []) o.0)
    ∙ append_assoc (reverse o.0) (s ∷ []) (reverse t.0))
    ∙ beside_from-place s (reverse o.0) (reverse t.0) name.numbers.items (λ j. o.2 (IsIn-reverse s o.0 j)) ∙ ap (λ k. drop k name.numbers.items) deep

-- its number there is the first of them
pub number_is_at_level : NumberIsAtLevel
unfolding number numbers_from
number_is_at_level spaces name s root on one_each i =
    beside-first s _ name.numbers.items ∙ ap (λ ns. slice_get ns 0) (numbers_are_from_level spaces name s root on one_each i)
    ∙ first-drop (level spaces s) name.numbers.items

-- the sweep takes no namespace in which a name in use has a number
pub sweep_keeps_numbered : SweepKeepsNumbered
sweep_keeps_numbered state s name n i used e = to_kept state s i (kept-by_name state name s.id n used e s i refl)

-- a name in use has a number exactly on its path
pub names_have_numbers : NamesHaveNumbers
names_have_numbers state name s sound used =
    (λ i. let n = number-on_path state.spaces name s (sound.coherent.numbered name used).one_each i in rw n.1 refl, λ h. grind (arith, number-within state.spaces name s))

-- a sound state has no dead namespace
pub sound_needs_no_sweep : (state : State) → IsSound state → sweep state ≡ state
unfolding sweep
sound_needs_no_sweep state sound =
    ap (λ spaces. record state { spaces = spaces }) (filter-all (λ s. not (is_dead state s)) state.spaces (λ s i. not_from_false (is_dead state s)
    (elim (cases_Bool s.fallen) [
      | inl e ↦ let u = sound.named s i e in kept-by_name state u.0 s.id u.1 u.2 u.3 s i refl
      | inr e ↦ and_left s.fallen (length (taken state s.id) == 0) e
    ])))

-- the root is at most so many levels above each namespace and each control group
pub levels_bounded : LevelsAreBounded
unfolding level path_up control_path
levels_bounded state sound = (
  λ s i. (sound.coherent.spaces.chains s i, (let l : length (climb (parent_space state.spaces) 33 s.id) ≤ 33 = length-climb (parent_space state.spaces) 33 s.id in omega arith)),
  λ c i. (sound.coherent.controls.chains c i, length-climb (parent_control state.controls) 65 c.id),
)
