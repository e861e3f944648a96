-- Namespaces that fall, and those that go.
use Rattle.std.proofs.Common.{◌≡◌, ◌≢◌, inl, inr, ℕ, zero, suc, ◌+◌, ◌-◌, ◌<◌, Bool, true, false, ◌==◌, ◌||◌, List, [], ◌∷◌, length, get_or, Option, Some, None, is_some, if◌then◌else◌, refl, sym, ap, subst, ◌∙◌, arith, option_map}
use Rattle.pid_numbers.proofs.Words.{MatchBool, cases_eq, eq-eqb, ne_eqb, or_cases, or_left, or_right, both_ways, false_from_ne_true, true≢false, false≢true}
use Rattle.pid_numbers.proofs.Words.{none-some, nat_tests, contains, beside, Entry, Place, entry_at, indexes, contains_indexes, Identifier, number_in, Ids}
use Rattle.pid_numbers.proofs.Words.{TreeOfSpaces, IsPathTree, way, fell, Table, ident_at, entry_on, bound_on, IsNumbering, IsNumberTable, AreFallen, leads, IsDistinct}
use Rattle.ns_tree.proofs.Paths as paths
use Rattle.pid_numbers.proofs.Ties as ties
pub use Rattle.ns_tree.proofs.Paths.{cases, contains_at, place_of}

-- the namespaces that have fallen stay, where none loses its last number
pub fallen-kept : (ways ways' : ℕ → List ℕ) (at at' : ℕ → ℕ → Option (Entry ℕ)) (fell fell' : ℕ → Bool) → AreFallen ways at fell → ((s : ℕ) → ways' s ≡ ways s) → ((s : ℕ) → fell' s ≡ fell s)
    → ((s n i : ℕ) → leads at s n ≡ Some i → (j : ℕ) × (leads at' s n ≡ Some j)) → AreFallen ways' at' fell'
fallen-kept ways ways' at at' fell fell' f same_ways same_fell more = record {
  stands = same_fell 0 ∙ f.stands;
  inner = λ t j lt e. same_fell t ∙ f.inner t j (subst (λ (p : List ℕ). j < length p) (same_ways t) lt) (sym (ap (λ p. fell (get_or p j 0)) (same_ways t)) ∙ sym (same_fell (get_or (ways' t) j 0)) ∙ e);
  held = λ s e.
      let r = f.held s (sym (same_fell s) ∙ e) in
      let m = more s r.0 r.1 r.2 in
      (r.0, m.0, m.1);
}

-- so all that is known stays, where the tree does
pub kept-with : (pid_max : ℕ) (tree : TreeOfSpaces) (ids ids' : List (Ids ℕ)) (idents idents' : Table) → IsNumberTable pid_max tree ids idents → length ids' ≡ length ids
    → IsNumbering pid_max (way tree.nodes) (entry_on ids') (bound_on ids') (ident_at idents') → ((s n i : ℕ) → leads (entry_on ids) s n ≡ Some i → (j : ℕ) × (leads (entry_on ids') s n ≡ Some j)) → IsNumberTable pid_max tree ids' idents'
kept-with pid_max tree ids ids' idents idents' k count numbering more = record {
  whole = record {
    numbering = numbering;
    fallen = fallen-kept (way tree.nodes) (way tree.nodes) (entry_on ids) (entry_on ids') (fell tree.nodes) (fell tree.nodes) k.whole.fallen (λ s. refl) (λ s. refl) more;
  };
  some = k.some;
  listed = k.listed;
  count = count ∙ k.count;
}

-- a number stands beside each key of the path
pub beside-at : (s : ℕ) (path numbers : List ℕ) → length numbers ≡ length path → contains path s ≡ true → (n : ℕ) × (beside s path numbers ≡ Some n)
beside-at s [] numbers len e = absurd (cc)
beside-at s (t ∷ ts) [] len e = absurd (omega (arith, len))
beside-at s (t ∷ ts) (n ∷ ns) len e = elim (cases_eq t s) [
  | inl same ↦ (n, rw (eq-eqb t s same) refl)
  | inr differs ↦ let r = beside-at s ts ns (omega (arith, len)) (rw (ne_eqb t s differs) at e) in (r.0, rw (ne_eqb t s differs) r.1)
]

-- where nothing stands beside a key it is none of the path
pub off-path : (s : ℕ) (path numbers : List ℕ) → contains path s ≡ false → beside s path numbers ≡ None
off-path s path numbers off = ties.beside-none s path numbers (λ j lt at. both_ways (contains path s) off (ap (contains path) (sym at) ∙ contains_at path j lt))

module _ (pid_max : ℕ) (ways : ℕ → List ℕ) (at : ℕ → ℕ → Option (Entry ℕ)) (bound : ℕ → Option ℕ) (names : ℕ → Option Identifier) (b : IsNumbering pid_max ways at bound names) where
  -- a number in a namespace comes with one in each namespace around it
  pub around-held : (t j n i : ℕ) → j < length (ways t) → leads at t n ≡ Some i → (m : ℕ) × (leads at (get_or (ways t) j 0) m ≡ Some i)
  around-held t j n i lt led = go (names i) refl (b.tied.found t n i led)
    where
      go : (o : Option Identifier) → names i ≡ o → number_in ways t o ≡ Some n → (m : ℕ) × (leads at (get_or (ways t) j 0) m ≡ Some i)
      go None is has = absurd (cc)
      go (Some u) is has =
          let p = ties.beside-some t n (ways u.space) u.numbers has in
          let lt' : j < length (ways (get_or (ways u.space) p.0 0)) = subst (λ (q : ℕ). j < length (ways q)) (sym p.2) lt in
          let r = paths.around-around ways b.tree u.space p.0 j p.1 lt' in
          let key : get_or (ways u.space) (p.0 + j) 0 ≡ get_or (ways t) j 0 = r.1 ∙ ap (λ q. get_or (ways q) j 0) p.2 in
          let on : contains (ways u.space) (get_or (ways t) j 0) ≡ true = ap (contains (ways u.space)) (sym key) ∙ contains_at (ways u.space) (p.0 + j) r.0 in
          let m = beside-at (get_or (ways t) j 0) (ways u.space) u.numbers (b.tied.full i u is) on in
          (m.0, b.tied.kept (get_or (ways t) j 0) m.0 i (ap (number_in ways (get_or (ways t) j 0)) is ∙ m.1))

  -- where there is no namespace no number is in use
  pub vacant-empty : (s n : ℕ) → ways s ≡ [] → at s n ≡ None
  vacant-empty s n none = go (at s n) refl
    where
      by_name : (o : Option Identifier) → number_in ways s o ≡ Some n → ⊥
      by_name None has = cc
      by_name (Some u) has =
          let p = ties.beside-some s n (ways u.space) u.numbers has in
          let there = paths.on-path ways (ways u.space) (b.tree.paths u.space) p.0 p.1 in
          let l = ap length (ap ways p.2 ∙ none) in
          omega (arith, there, l)

      go : (o : Option (Entry ℕ)) → at s n ≡ o → o ≡ None
      go None is = refl
      go (Some e) is = absurd (by_name (names e.value) (b.tied.found s n e.value (ap (option_map (λ e. e.value)) is)))

  -- what is left where some namespaces go: none of them has a number in use
  module _ (gone : ℕ → Bool) (empty : (s n : ℕ) → gone s ≡ true → at s n ≡ None) (ways' : ℕ → List ℕ) (ways_are : (s : ℕ) → ways' s ≡ if gone s then [] else ways s) (tree' : IsPathTree ways') where
    stays : (s : ℕ) → gone s ≡ false → ways' s ≡ ways s
    stays s e = ways_are s ∙ ap (λ g. if g then [] else ways s) e

    not_gone : (s n i : ℕ) → leads at s n ≡ Some i → gone s ≡ false
    not_gone s n i led = false_from_ne_true (gone s) (λ g. none-some i (sym (ap (option_map (λ e. e.value)) (empty s n g)) ∙ led))

    -- no identifier stands in one that goes
    home_stays : (i : ℕ) (u : Identifier) → names i ≡ Some u → gone u.space ≡ false
    home_stays i u is =
        let full = b.tied.full i u is in
        let some = b.tied.some i u is in
        let m = beside-at u.space (ways u.space) u.numbers full (paths.own-in ways b.tree u.space (omega (arith, full, some))) in
        not_gone u.space m.0 i (b.tied.kept u.space m.0 i (ap (number_in ways u.space) is ∙ m.1))

    pub numbering-swept : IsNumbering pid_max ways' at bound names
    numbering-swept = ties.numbering-moved pid_max ways ways' at bound bound names b tree' b.bounds (λ i u is. stays u.space (home_stays i u is))

    module _ (fell fell' : ℕ → Bool) (stands : fell 0 ≡ false) (root : gone 0 ≡ false) (inner : (t j : ℕ) → j < length (ways t) → fell (get_or (ways t) j 0) ≡ true → fell t ≡ true)
        (fell_is : (s : ℕ) → fell' s ≡ if gone s then false else fell s) (rest : (s : ℕ) → fell s ≡ true → gone s ≡ false → (n : ℕ) × (i : ℕ) × (leads at s n ≡ Some i)) where
      fell_was : (s : ℕ) → fell' s ≡ true → (gone s ≡ false) × (fell s ≡ true)
      fell_was s e = let is = fell_is s in grind arith

      pub fallen-swept : AreFallen ways' at fell'
      fallen-swept = grind (arith, fell_was)

-- a list without elements has none, and else it has one
pub none_in : (ns : List ℕ) → (length ns == 0) ≡ true → (n : ℕ) → contains ns n ≡ false
none_in [] e n = refl
none_in (m ∷ ms) e n = absurd (grind (arith, nat_tests, e))

pub one_in : (ns : List ℕ) → (length ns == 0) ≡ false → (n : ℕ) × (contains ns n ≡ true)
one_in [] e = absurd (cc)
one_in (m ∷ ms) e = (m, ap (λ b. b || contains ms m) (eq-eqb m m refl))

-- so a test is that of being empty, where it says so
pub empty_by : (b : Bool) (ns : List ℕ) → (b ≡ true → (n : ℕ) → contains ns n ≡ false) → (b ≡ false → (n : ℕ) × (contains ns n ≡ true)) → b ≡ (length ns == 0)
empty_by b ns none some = grind (arith, none_in, one_in)

-- where no number has an entry the list of those that have one is empty
pub empty_is : (ps : List (Place ℕ)) (b : Bool) → MatchBool b ((n : ℕ) → entry_at ps n ≡ None) ((n : ℕ) × (is_some (entry_at ps n) ≡ true)) → b ≡ (length (indexes ps) == 0)
empty_is ps true none = empty_by true (indexes ps) (λ on n. contains_indexes ps n ∙ ap is_some (none n)) (λ off. absurd (true≢false off))
empty_is ps false some = empty_by false (indexes ps) (λ on. absurd (false≢true on)) (λ off. (some.0, contains_indexes ps some.0 ∙ some.1))

-- what a slab shows of one that is there or not
pub through : {X Y : Type 0} (h : X → Y) (g : Bool) (a b : X) → h (if g then a else b) ≡ if g then h a else h b
through h g a b = grind arith

-- a namespace falls with all inside it
module _ (pid_max : ℕ) (ways : ℕ → List ℕ) (at : ℕ → ℕ → Option (Entry ℕ)) (bound : ℕ → Option ℕ) (names : ℕ → Option Identifier) (b : IsNumbering pid_max ways at bound names) (fell fell' : ℕ → Bool) (f : AreFallen ways at fell)
    (outer : ℕ) (inner : outer ≢ 0) (falls : (s : ℕ) → fell' s ≡ (fell s || contains (ways s) outer)) (held : (s : ℕ) → contains (ways s) outer ≡ true → (n : ℕ) × (i : ℕ) × (leads at s n ≡ Some i)) where
  pub fallen-fell : AreFallen ways at fell'
  fallen-fell = record {
    stands = grind (arith, ne_eqb);
    inner = λ t j lt e. elim (or_cases (fell (get_or (ways t) j 0)) (contains (ways (get_or (ways t) j 0)) outer) (sym (falls (get_or (ways t) j 0)) ∙ e)) [
      | inl was ↦ falls t ∙ or_left (fell t) (contains (ways t) outer) (f.inner t j lt was)
      | inr within ↦
          let p = place_of (ways (get_or (ways t) j 0)) outer within in
          let r = paths.around-around ways b.tree t j p.0 lt p.1 in
          falls t ∙ or_right (fell t) (contains (ways t) outer) (ap (contains (ways t)) (sym (r.1 ∙ p.2)) ∙ contains_at (ways t) (j + p.0) r.0)
    ];
    held = λ s e. let was = f.held s in let within = held s in let is = falls s in grind (arith, or_cases);
  }

-- what stands beside a place of a path without repetition
beside-get : (s : ℕ) (path numbers : List ℕ) → IsDistinct path → length numbers ≡ length path → (k : ℕ) → k < length path → get_or path k 0 ≡ s → beside s path numbers ≡ Some (get_or numbers k 0)
beside-get s [] numbers d len k lt at = absurd (omega (arith, lt))
beside-get s (t ∷ ts) [] d len k lt at = absurd (omega (arith, len))
beside-get s (t ∷ ts) (n ∷ ns) d len zero lt at = ap (λ b. if b then Some n else beside s ts ns) (eq-eqb t s at)
beside-get s (t ∷ ts) (n ∷ ns) d len (suc k) lt at =
    ap (λ b. if b then Some n else beside s ts ns) (ne_eqb t s (λ e. d 0 (suc k) (omega arith) lt (e ∙ sym at)))
    ∙ beside-get s ts ns (λ i j a b e. d (suc i) (suc j) (omega (arith, a)) (omega (arith, b)) e) (omega (arith, len)) k (omega (arith, lt)) at

-- the number beside a namespace, by the levels
module _ (ways : ℕ → List ℕ) (tree : IsPathTree ways) (own s : ℕ) (numbers : List ℕ) (len : length numbers ≡ length (ways own)) where
  pub beside-within : contains (ways own) s ≡ true → (k : ℕ) → k ≡ length (ways own) - length (ways s) → (k < length numbers) × (beside s (ways own) numbers ≡ Some (get_or numbers k 0))
  beside-within e k is =
      let w = paths.within ways tree own s e in
      let some = w.0 in
      let few = w.1 in (
        omega (arith, some, few, is, len),
        beside-get s (ways own) numbers (paths.distinct-path ways (ways own) (tree.paths own)) len k (omega (arith, some, few, is)) (ap (λ j. get_or (ways own) j 0) is ∙ w.2),
      )
