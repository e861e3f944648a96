-- Namespaces that are marked as fallen, all at once.
use Rattle.std.proofs.Common.{inl, inr, suc, zero}
use Rattle.pid_numbers.proofs.Words.{◌≡◌, ◌∙◌, ◌<◌, ◌||◌, ℕ, Bool, true, false, List, [], ◌∷◌, Option, Some, None, IsSome, ap, arith, refl, sym, length, get_or, option_map, slice_get}
use Rattle.pid_numbers.proofs.Words.{option_map_or, or_cases, or_left, or_right}
use Rattle.pid_numbers.proofs.Words.{Node, IsPathTree, IsPath, Entry, AreFallen, leads, namespace_of}
use Rattle.pid_numbers.specs.Restore.{is_flagged, felled_if, fallen_if}

or_false : (b : Bool) → (b || false) ≡ b
or_false true = refl
or_false false = refl

-- a namespace without a flag stays as it is
pub unmarked : (flag : Bool) → flag ≡ false → (o : Option Node) → option_map (felled_if flag) o ≡ o
unmarked flag e None = refl
unmarked flag e (Some t) = ap (λ b. Some (record t { fallen = t.fallen || b })) e ∙ ap (λ b. Some (record t { fallen = b })) (or_false t.fallen)

-- whether it has fallen then
pub falls : (flag : Bool) (o : Option Node) → IsSome o → option_map_or (λ t. t.fallen) (option_map (felled_if flag) o) false ≡ (option_map_or (λ t. t.fallen) o false || flag)
falls flag None some = absurd (cc)
falls flag (Some t) some = refl

-- it keeps its path, and its cursor
pub path : (flag : Bool) (o : Option Node) → option_map_or (λ t. t.path) (option_map (felled_if flag) o) [] ≡ option_map_or (λ t. t.path) o []
path flag None = refl
path flag (Some t) = refl

pub seen : (flag : Bool) (cursor : ℕ) (o : Option Node) → option_map (namespace_of cursor) (option_map (felled_if flag) o) ≡ option_map (fallen_if flag) (option_map (namespace_of cursor) o)
seen flag cursor None = refl
seen flag cursor (Some t) = refl

-- what has fallen is there
pub there : (flag : Bool) (o : Option Node) → option_map_or (λ t. t.fallen) (option_map (felled_if flag) o) false ≡ true → IsSome o
there flag None e = absurd (cc)
there flag (Some t) e = refl

module _ (ways : ℕ → List ℕ) (tree : IsPathTree ways) (flags : List Bool)
    (inner : (s outer : ℕ) → slice_get (ways s) 1 ≡ Some outer → is_flagged flags outer ≡ true → is_flagged flags s ≡ true) where
  -- a flag goes from each namespace of a path to the innermost one
  inwards : (p : List ℕ) → IsPath ways p → (j : ℕ) → j < length p → is_flagged flags (get_or p j 0) ≡ true → is_flagged flags (get_or p 0 0) ≡ true
  inwards [] h j lt e = absurd (omega (arith, lt))
  inwards (q ∷ rest) h zero lt e = e
  inwards (q ∷ []) h (suc j) lt e = absurd (omega (arith, lt))
  inwards (q ∷ r ∷ rest) h (suc j) lt e = inner q r (ap (λ p. slice_get p 1) h.0) (inwards (r ∷ rest) h.1 j (omega (arith, lt)) e)

  pub flagged-inside : (t j : ℕ) → j < length (ways t) → is_flagged flags (get_or (ways t) j 0) ≡ true → is_flagged flags t ≡ true
  flagged-inside t j lt e = elim (tree.head t) [
    | inl none ↦ absurd (let l = ap length none in omega (arith, lt, l))
    | inr some ↦ ap (is_flagged flags) (sym (ap (λ p. get_or p 0 0) some.1)) ∙ inwards (ways t) (tree.paths t) j lt e
  ]

  module _ (at : ℕ → ℕ → Option (Entry ℕ)) (fell fell' : ℕ → Bool) (f : AreFallen ways at fell) (root : is_flagged flags 0 ≡ false)
      (is : (s : ℕ) → 0 < length (ways s) → fell' s ≡ (fell s || is_flagged flags s)) (some : (s : ℕ) → fell' s ≡ true → 0 < length (ways s))
      (held : (s : ℕ) → 0 < length (ways s) → is_flagged flags s ≡ true → (n : ℕ) × (i : ℕ) × (leads at s n ≡ Some i)) where
    at_root : 0 < length (ways 0)
    at_root = let l = ap length tree.root in omega (arith, l)

    pub fallen-marked : AreFallen ways at fell'
    fallen-marked = record {
      stands = is 0 at_root ∙ ap (λ b. b || is_flagged flags 0) f.stands ∙ root;
      inner = λ t j lt e.
          let s = get_or (ways t) j 0 in
          let there = some s e in
          let here : 0 < length (ways t) = omega (arith, lt) in
          elim (or_cases (fell s) (is_flagged flags s) (sym (is s there) ∙ e)) [
            | inl was ↦ is t here ∙ or_left (fell t) (is_flagged flags t) (f.inner t j lt was)
            | inr now ↦ is t here ∙ or_right (fell t) (is_flagged flags t) (flagged-inside t j lt now)
          ];
      held = λ s e.
          let there = some s e in
          elim (or_cases (fell s) (is_flagged flags s) (sym (is s there) ∙ e)) [
            | inl was ↦ f.held s was
            | inr now ↦ held s there now
          ];
    }
