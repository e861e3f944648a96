-- Lists of keys, and the paths of a tree.
use Rattle.std.proofs.Common.{◌≡◌, ◌≢◌, inl, inr, ℕ, zero, suc, ◌+◌, ◌-◌, ◌<◌, ◌≤◌, true, false, ◌==◌, ◌||◌, List, [], ◌∷◌, length, get_or, drop, length-drop, refl, sym, ap, subst, ◌∙◌, arith}
use Rattle.std.proofs.lemmas.List.{get_or-drop}
use Rattle.std.proofs.lemmas.Bool.{cases_eq, eq-eqb, ne_eqb, or_right, false_from_ne_true}
use Rattle.pid_types.specs.Chains.{contains}
use Rattle.ns_tree.specs.Tree.{IsDistinct, IsPath, IsPathTree}
pub use Rattle.std.proofs.lemmas.Bool.{cases_Bool as cases}

-- a list holds what stands in a place of it
pub contains_at : (ns : List ℕ) (j : ℕ) → j < length ns → contains ns (get_or ns j 0) ≡ true
contains_at [] j lt = absurd (omega (arith, lt))
contains_at (n ∷ ns) zero lt = ap (λ b. b || contains ns n) (eq-eqb n n refl)
contains_at (n ∷ ns) (suc j) lt = or_right (n == get_or ns j 0) (contains ns (get_or ns j 0)) (contains_at ns j (omega (arith, lt)))

-- and what it holds stands in one
pub place_of : (ns : List ℕ) (n : ℕ) → contains ns n ≡ true → (j : ℕ) × (j < length ns) × (get_or ns j 0 ≡ n)
place_of [] n e = absurd (cc)
place_of (m ∷ ms) n e = elim (cases_eq m n) [
  | inl same ↦ (0, omega arith, same)
  | inr differs ↦ let r = place_of ms n (rw (ne_eqb m n differs) at e) in (suc r.0, omega (arith, r.1), r.2)
]

-- so one that holds something is not empty
pub held-some : (ns : List ℕ) (n : ℕ) → contains ns n ≡ true → 0 < length ns
held-some [] n e = absurd (cc)
held-some (m ∷ ms) n e = omega arith

-- one key and the others
pub everywhere : {X : Type 0} (f g : ℕ → X) (key : ℕ) → f key ≡ g key → ((s : ℕ) → s ≢ key → f s ≡ g s) → (s : ℕ) → f s ≡ g s
everywhere f g key here others s = elim (cases_eq s key) [
  | inl e ↦ ap f e ∙ here ∙ sym (ap g e)
  | inr differs ↦ others s differs
]

-- each namespace of a path leads to the rest of it
pub at-path : (ways : ℕ → List ℕ) (path : List ℕ) → IsPath ways path → (j : ℕ) → j < length path → ways (get_or path j 0) ≡ drop j path
at-path ways [] h j lt = absurd (omega (arith, lt))
at-path ways (s ∷ ss) h zero lt = h.0
at-path ways (s ∷ ss) h (suc j) lt = at-path ways ss h.1 j (omega (arith, lt))

-- so each of them has a path
pub on-path : (ways : ℕ → List ℕ) (path : List ℕ) → IsPath ways path → (j : ℕ) → j < length path → 0 < length (ways (get_or path j 0))
on-path ways path h j lt = let rest = ap length (at-path ways path h j lt) in let l = length-drop j path in omega (arith, lt, rest, l)

pub distinct-path : (ways : ℕ → List ℕ) (path : List ℕ) → IsPath ways path → IsDistinct path
distinct-path ways path h i j lo lt same =
    let a = at-path ways path h i (omega (arith, lo, lt)) in
    let b = at-path ways path h j lt in
    let e : length (drop i path) ≡ length (drop j path) = ap length (sym a ∙ ap ways same ∙ b) in
    let x = length-drop i path in
    let y = length-drop j path in
    omega (arith, lo, lt, e, x, y)

module _ (ways : ℕ → List ℕ) (tree : IsPathTree ways) where
  -- the path of a namespace that is there begins with it
  pub own-first : (s : ℕ) → 0 < length (ways s) → get_or (ways s) 0 0 ≡ s
  own-first s some = elim (tree.head s) [
    | inl none ↦ absurd (let l = ap length none in omega (arith, l, some))
    | inr way ↦ ap (λ l. get_or l 0 0) way.1
  ]

  -- so it is on it
  pub own-in : (s : ℕ) → 0 < length (ways s) → contains (ways s) s ≡ true
  own-in s some = ap (contains (ways s)) (sym (own-first s some)) ∙ contains_at (ways s) 0 some

  -- what is around one that is around another
  pub around-around : (t j k : ℕ) → j < length (ways t) → k < length (ways (get_or (ways t) j 0)) → (j + k < length (ways t)) × (get_or (ways t) (j + k) 0 ≡ get_or (ways (get_or (ways t) j 0)) k 0)
  around-around t j k lt below =
      let e = at-path ways (ways t) (tree.paths t) j lt in
      let l = length-drop j (ways t) in
      let k_lt : k < length (drop j (ways t)) = subst (λ (p : List ℕ). k < length p) e below in
      (omega (arith, l, k_lt, lt), sym (get_or-drop j (ways t) k 0) ∙ ap (λ p. get_or p k 0) (sym e))

-- where a namespace stands on the path of another
module _ (ways : ℕ → List ℕ) (tree : IsPathTree ways) (key outer : ℕ) where
  pub within : contains (ways key) outer ≡ true → (0 < length (ways outer)) × (length (ways outer) ≤ length (ways key)) × (get_or (ways key) (length (ways key) - length (ways outer)) 0 ≡ outer)
  within e =
      let p = place_of (ways key) outer e in
      let rest : ways outer ≡ drop p.0 (ways key) = ap ways (sym p.2) ∙ at-path ways (ways key) (tree.paths key) p.0 p.1 in
      let len : length (ways outer) ≡ length (drop p.0 (ways key)) = ap length rest in
      let dropped = length-drop p.0 (ways key) in
      let lt = p.1 in
      let place : length (ways key) - length (ways outer) ≡ p.0 = omega (arith, len, dropped, lt) in
      (omega (arith, len, dropped, lt), omega (arith, len, dropped, lt), ap (λ j. get_or (ways key) j 0) place ∙ p.2)

  pub not-within : (0 < length (ways outer) → length (ways outer) ≤ length (ways key) → ⊥) → false ≡ contains (ways key) outer
  not-within h = sym (false_from_ne_true (contains (ways key) outer) (λ e. let w = within e in h w.0 w.1))

  pub within-by : (j : ℕ) → 0 < length (ways outer) → length (ways outer) ≤ length (ways key) → j ≡ length (ways key) - length (ways outer) → (get_or (ways key) j 0 == outer) ≡ contains (ways key) outer
  within-by j some few is = elim (cases_eq (get_or (ways key) j 0) outer) [
    | inl e ↦ eq-eqb (get_or (ways key) j 0) outer e ∙ sym (ap (contains (ways key)) (sym e) ∙ contains_at (ways key) j (omega (arith, some, few, is)))
    | inr d ↦ ne_eqb (get_or (ways key) j 0) outer d ∙ sym (false_from_ne_true (contains (ways key) outer) (λ e. d (ap (λ k. get_or (ways key) k 0) is ∙ (within e).2)))
  ]
