-- The keys of vacant places: one more, and one less.
use Rattle.std.proofs.Common.{◌≡◌, ◌≢◌, inl, inr, ℕ, suc, ◌+◌, ◌-◌, ◌<◌, ◌≤◌, ◌++◌, List, [], ◌∷◌, length, get_or, set, Option, Some, None, true, false, refl, sym, ap, ◌∙◌, arith}
use Rattle.std.specs.Prelude.{nat_eq}
use Rattle.std.specs.List.{list_any, AllByRecursion, IsDistinct as IsApart}
use Rattle.std.proofs.lemmas.List.{length-append, get_or_append_left, get_or-append_right, length-set, get_or_past, get_or-set_same, get_or-set_other}
use Rattle.std.proofs.lemmas.Map.Steps.{length-le_from_distinct_below}
use Rattle.std.proofs.lemmas.Bool.{cases_eq, cases_lt, ne_eqb}
use Rattle.ns_tree.specs.Tree.{IsDistinct}
use Rattle.pid_numbers.specs.Vacancy.{AreVacant}

-- where a number of a list stands
place_in : (ks : List ℕ) (q : ℕ) → list_any (nat_eq q) ks ≡ true → (j : ℕ) × (j < length ks) × (get_or ks j 0 ≡ q)
place_in [] q e = absurd (cc)
place_in (k ∷ ks) q e = elim (cases_eq k q) [
  | inl same ↦ (0, omega arith, same)
  | inr differs ↦
      let r = place_in ks q (rw (ne_eqb q k (λ e. differs (sym e))) at e) in (suc r.0, omega (arith, r.1), r.2)
]

-- no two of them are the same
apart : (ks : List ℕ) → IsDistinct ks → IsApart nat_eq ks
unfolding IsApart
apart [] d = tt
apart (k ∷ ks) d = (others ks (λ j lt. d 0 (suc j) (omega arith) (omega (arith, lt))), apart ks (λ i j lo lt. d (suc i) (suc j) (omega (arith, lo)) (omega (arith, lt))))
  where
    others : (ms : List ℕ) → ((j : ℕ) → j < length ms → k ≢ get_or ms j 0) → AllByRecursion (λ y. nat_eq k y ≡ false) ms
    others [] h = tt
    others (m ∷ ms) h = (ne_eqb k m (h 0 (omega arith)), others ms (λ j lt. h (suc j) (omega (arith, lt))))

-- keys below a number are at most so many
pub few : (ks : List ℕ) (n : ℕ) → IsDistinct ks → ((j : ℕ) → j < length ks → get_or ks j 0 < n) → length ks ≤ n
few ks n d below = length-le_from_distinct_below ks n (apart ks d) (λ q on. let r = place_in ks q on in let lt = below r.0 r.1 in omega (arith, lt, r.2))

-- something is no nothing
no_value : {X : Type 0} {o : Option X} {x : X} → o ≡ None → o ≡ Some x → ⊥
no_value {X} {o} {x} none some = let e : None ≡ Some x = sym none ∙ some in cc

module _ {X : Type 0} where
  -- what is at a key
  abbrev at_key : List (Option X) → ℕ → Option X
  at_key slots key = get_or slots key None

  -- what is not vacant is in range
  pub filled-in : (slots : List (Option X)) (key : ℕ) (x : X) → get_or slots key None ≡ Some x → key < length slots
  filled-in slots key x e = elim (cases_lt key (length slots)) [
    | inl lt ↦ lt
    | inr past ↦ absurd (no_value (get_or_past slots key None past) e)
  ]

  -- a place with something in it is none of them
  module _ (slots : List (Option X)) (keys : List ℕ) (room key : ℕ) (x : X) (v : AreVacant slots keys room) (there : at_key slots key ≡ Some x) where
    in_range : key < length slots
    in_range = filled-in slots key x there

    stands : (j : ℕ) → j < length keys → get_or keys j 0 ≢ key
    stands j lt same = no_value (ap (at_key slots) (sym same) ∙ (v.each j lt).1) there

    at : (j : ℕ) → j < length keys → get_or (keys ++ key ∷ []) j 0 ≡ get_or keys j 0
    at j lt = get_or_append_left keys (key ∷ []) 0 j lt

    last : (j : ℕ) → j < length (keys ++ key ∷ []) → length keys ≤ j → get_or (keys ++ key ∷ []) j 0 ≡ key
    last j lt past =
        let l = length-append keys (key ∷ []) in
        let zero_is : j - length keys ≡ 0 = omega (arith, lt, past, l) in
        get_or-append_right keys (key ∷ []) (length keys) j 0 refl past ∙ ap (λ i. get_or (key ∷ []) i 0) zero_is

    distinct : IsDistinct (keys ++ key ∷ [])
    distinct i j lo lt = elim (cases_lt j (length keys)) [
      | inl inside ↦ (λ e. v.distinct i j lo inside (sym (at i (omega (arith, lo, inside))) ∙ e ∙ at j inside))
      | inr past ↦
          let before : i < length keys = omega (arith, lo, lt, past, length-append keys (key ∷ [])) in
          (λ e. stands i before (sym (at i before) ∙ e ∙ last j lt past))
    ]

    pub room-more : length keys < room
    room-more =
        let n = few (keys ++ key ∷ []) (length slots) distinct (λ j lt. elim (cases_lt j (length keys)) [
          | inl inside ↦ omega (arith, (v.each j inside).0, at j inside)
          | inr past ↦ omega (arith, in_range, last j lt past)
        ]) in
        omega (arith, length-append keys (key ∷ []), v.rooms, n)

    -- it goes
    pub one-more : AreVacant (set slots key None) (keys ++ key ∷ []) room
    one-more = record {
      each = λ j lt. elim (cases_lt j (length keys)) [
        | inl inside ↦
            let e = at j inside in
            (omega (arith, (v.each j inside).0, e, length-set slots key None), ap (at_key (set slots key None)) e ∙ get_or-set_other slots key (get_or keys j 0) None None (stands j inside) ∙ (v.each j inside).1)
        | inr past ↦
            let e = last j lt past in
            (omega (arith, in_range, e, length-set slots key None), ap (at_key (set slots key None)) e ∙ get_or-set_same slots key None None in_range)
      ];
      all = λ s lt none. elim (cases_eq s key) [
        | inl same ↦
            let l = length-append keys (key ∷ []) in
            (length keys, omega (arith, l), last (length keys) (omega (arith, l)) (omega arith) ∙ sym same)
        | inr differs ↦
            let r = v.all s (omega (arith, lt, length-set slots key None)) (sym (get_or-set_other slots key s None None differs) ∙ none) in
            (r.0, omega (arith, length-append keys (key ∷ []), r.1), at r.0 r.1 ∙ r.2)
      ];
      distinct = distinct;
      rooms = let r = v.rooms in let n = length-set slots key None in omega (arith, r, n);
    }

  -- something comes to the last of them
  module _ (slots : List (Option X)) (keys rest : List ℕ) (room key : ℕ) (v : AreVacant slots keys room) (is : keys ≡ rest ++ key ∷ []) where
    long : length keys ≡ length rest + 1
    long = ap length is ∙ length-append rest (key ∷ [])

    end : get_or keys (length rest) 0 ≡ key
    end =
        let zero_is : length rest - length rest ≡ 0 = omega arith in
        ap (λ l. get_or l (length rest) 0) is ∙ get_or-append_right rest (key ∷ []) (length rest) (length rest) 0 refl (omega arith) ∙ ap (λ i. get_or (key ∷ []) i 0) zero_is

    before : (j : ℕ) → j < length rest → get_or keys j 0 ≡ get_or rest j 0
    before j lt = ap (λ l. get_or l j 0) is ∙ get_or_append_left rest (key ∷ []) 0 j lt

    pub vacant-last : (key < length slots) × (at_key slots key ≡ None)
    vacant-last = let e = v.each (length rest) (omega (arith, long)) in rw end at e

    pub one-less : (x : X) → AreVacant (set slots key (Some x)) rest room
    one-less x = record {
      each = λ j lt.
          let e = v.each j (omega (arith, lt, long)) in
          let same = before j lt in
          let differs : get_or rest j 0 ≢ key = λ z. v.distinct j (length rest) lt (omega (arith, long)) (same ∙ z ∙ sym end) in
          (omega (arith, e.0, length-set slots key (Some x), same), get_or-set_other slots key (get_or rest j 0) (Some x) None differs ∙ ap (at_key slots) (sym same) ∙ e.1);
      all = λ s lt none. elim (cases_eq s key) [
        | inl same ↦ absurd (no_value (sym (ap (at_key (set slots key (Some x))) same) ∙ none) (get_or-set_same slots key (Some x) None vacant-last.0))
        | inr differs ↦
            let r = v.all s (omega (arith, lt, length-set slots key (Some x))) (sym (get_or-set_other slots key s (Some x) None differs) ∙ none) in
            let inside : r.0 < length rest = elim (cases_lt r.0 (length rest)) [
              | inl below ↦ below
              | inr past ↦ absurd (differs (sym r.2 ∙ ap (λ j. get_or keys j 0) (let e : r.0 ≡ length rest = omega (arith, past, r.1, long) in e) ∙ end))
            ] in
            (r.0, inside, sym (before r.0 inside) ∙ r.2)
      ];
      distinct = λ i j lo lt.
          (λ e. v.distinct i j lo (omega (arith, lt, long)) (before i (omega (arith, lo, lt)) ∙ e ∙ sym (before j lt)));
      rooms = let n = length-set slots key (Some x) in let r = v.rooms in omega (arith, n, r);
    }

  -- where the same places are filled, the same ones are vacant
  pub vacant-as : (old new : List (Option X)) (keys : List ℕ) (room : ℕ) → AreVacant old keys room → length new ≡ length old
      → ((s : ℕ) → get_or old s None ≡ None → get_or new s None ≡ None) → ((s : ℕ) → get_or new s None ≡ None → get_or old s None ≡ None) → AreVacant new keys room
  vacant-as old new keys room v len kept back = record {
    each = λ j lt. let e = v.each j lt in let b = e.0 in (omega (arith, b, len), kept (get_or keys j 0) e.1);
    all = λ s lt none. v.all s (omega (arith, lt, len)) (back s none);
    distinct = v.distinct;
    rooms = let r = v.rooms in omega (arith, r, len);
  }
