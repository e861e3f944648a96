-- Namespaces, names and numbers: by key, and in the model.
use Rattle.std.proofs.Common.{◌≡◌, ◌≢◌, inl, inr, ℕ, ◌<◌, ◌≤◌, true, List, [], ◌∷◌, length, map, Option, Some, None, IsSome, if◌then◌else◌, refl, sym, ap, subst, ◌∙◌, arith}
use Rattle.std.specs.Prelude.{reverse, slice_index_or}
use Rattle.std.specs.Option.{option_map_or}
use Rattle.std.proofs.lemmas.Bool.{eq-eqb, eqb-true}
use Rattle.std.proofs.lemmas.List.{length-map, length-reverse}
use Rattle.pid_types.proofs.General.{apart}
use Rattle.id_slab.specs.Ids.{key_of}
use Rattle.pid_types.specs.declared.plain.Space.{Space}
use Rattle.pid_types.specs.Membership.{IsIn}
use Rattle.pid_types.specs.Names.{beside, path_up, number}
use Rattle.pid_types.specs.Sound.{IsWellNumbered}
use Rattle.pid_types.specs.State.{root_name}
use Rattle.model_laws.proofs.Lists.{IsIn-map, IsIn-from_map, IsIn-reverse}
use Rattle.model_laws.proofs.Names.{same_name-refl, number-within, beside-IsIn}
use Rattle.pid_numbers.specs.Numbering.{Numbering, Identifier, id_at, identifier_at, number_in, number_of, path_at, has_fallen_at}
use Rattle.pid_numbers.specs.Slabs.{IsPath}
use Rattle.task_table.specs.Store.{Store}
use Rattle.task_table.specs.View.{name_of, name_at, space_of, spaces_of, state_of}
use Rattle.task_table.specs.Lawful.{HasLaws, IsLawful}
use Rattle.task_table.proofs.Keys.{id_for, own_id, is_path, path-is, path-there, space_at-key, number-is_key}
use Rattle.task_table.proofs.LookUps.{same-name, space-id}
use Rattle.task_table.proofs.Places.{each-in, place-of, key-listed}

module _ (b : Numbering) (l : HasLaws b) where
  -- a listed namespace has its id
  pub id-listed : (p : ℕ × ℕ) → IsIn p b.order → id_at b p.1 ≡ Some p.0
  id-listed p i = each-in (λ (q : ℕ × ℕ). id_at b q.1 ≡ Some q.0) b.order l.each p i

  pub id-of_key : (i k : ℕ) → key_of b.order i ≡ Some k → id_at b k ≡ Some i
  id-of_key i k e = let r = key-listed b.order i k e in subst (λ x. id_at b x ≡ Some i) r.3 (id-listed r.0 r.1 ∙ ap Some r.2)

  -- where no namespace has the id, none is listed
  pub key-nobody : (i : ℕ) → ((k : ℕ) → id_at b k ≢ Some i) → key_of b.order i ≡ None
  key-nobody i none = go (key_of b.order i) refl
    where
      go : (o : Option ℕ) → key_of b.order i ≡ o → o ≡ None
      go None e = refl
      go (Some k) e = absurd (none k (id-of_key i k e))

  -- each namespace of the model is one with a key
  pub space-from : (x : Space) → IsIn x (spaces_of b) → (k : ℕ) × (id_at b k ≡ Some x.id) × (x ≡ space_of b (x.id, k))
  space-from x i =
      let r = IsIn-from_map (space_of b) x b.order i in
      let id = ap (λ (s : Space). s.id) r.2 in
      (r.0.1, id-listed r.0 r.1 ∙ ap Some (sym id), r.2 ∙ ap (λ n. space_of b (n, r.0.1)) (sym id))

  -- and the other way
  pub in-order : (k i : ℕ) → id_at b k ≡ Some i → IsIn (i, k) b.order
  in-order k i e = let r = key-listed b.order i k (l.listed k i e) in subst (λ (p : ℕ × ℕ). IsIn p b.order) (λ j. (r.2 j, r.3 j)) r.1

  pub space-in : (k i : ℕ) → id_at b k ≡ Some i → IsIn (space_of b (i, k)) (spaces_of b)
  space-in k i e = IsIn-map (space_of b) (i, k) b.order (in-order k i e)

  -- what is around a namespace, by key, is around it in the model
  pub around-in : (x y ix iy : ℕ) → id_at b x ≡ Some ix → id_at b y ≡ Some iy → IsIn y (path_at b x) → IsIn iy (path_up (spaces_of b) ix)
  around-in x y ix iy ex ey i =
      subst (IsIn iy) (sym (path-is b l x ix 0 ex (l.some x ix ex)))
      (subst (λ z. IsIn z (map (id_for b l 0) (path_at b x))) (own_id b l y iy ey 0) (IsIn-map (id_for b l 0) y (path_at b x) i))

  -- and the other way
  pub in-around : (x ix iy : ℕ) → id_at b x ≡ Some ix → IsIn iy (path_up (spaces_of b) ix) → (y : ℕ) × IsIn y (path_at b x) × (id_at b y ≡ Some iy)
  in-around x ix iy ex i =
      let r = IsIn-from_map (id_for b l 0) iy (path_at b x) (subst (IsIn iy) (path-is b l x ix 0 ex (l.some x ix ex)) i) in
      (r.0, r.1, path-there b l x 0 r.0 r.1 ∙ ap Some (sym r.2))

  -- what is inside a fallen namespace has fallen
  pub fallen-in : (x y : ℕ) → IsIn y (path_at b x) → has_fallen_at b y ≡ true → has_fallen_at b x ≡ true
  fallen-in x y i fell =
      let r = place-of 0 y (path_at b x) i in
      l.fallen x r.0 r.1 (ap (has_fallen_at b) r.2 ∙ fell)

  -- where an identifier has a number, it is on its path
  pub number-on_way : (k y n : ℕ) (u : Identifier) → identifier_at b k ≡ Some u → number_of b k y ≡ Some n → IsIn y (path_at b u.space)
  number-on_way k y n u e at = (beside-IsIn y (path_at b u.space) u.numbers n (sym (ap (number_in (path_at b) y) e) ∙ at)).0

  -- an identifier has a number in its own namespace
  pub number-own : (k : ℕ) (u : Identifier) → identifier_at b k ≡ Some u → (n : ℕ) × (number_of b k u.space ≡ Some n)
  number-own k u e =
      let f = l.full k u e in
      let r = first (path_at b u.space) u.numbers (l.own u.space) f.0 f.1 in
      (r.0, ap (number_in (path_at b) u.space) e ∙ r.1)
    where
      first : (p ns : List ℕ) → (0 < length p → slice_index_or p 0 0 ≡ u.space) → 0 < length ns → length ns ≡ length p → (n : ℕ) × (beside u.space p ns ≡ Some n)
      first [] ns own some len = absurd (omega (arith, some, len))
      first (t ∷ ts) [] own some len = absurd (omega (arith, some))
      first (t ∷ ts) (n ∷ ns) own some len = (n, ap (λ c. if c then Some n else beside u.space ts ns) (eq-eqb t u.space (own (omega arith))))

  -- each number of an identifier is its number in a namespace
  short : (p : List ℕ) → IsPath (path_at b) p → (q : ℕ) → IsIn q p → length (path_at b q) ≤ length p
  short [] h q i = absurd i
  short (t ∷ ts) h q (inl e) = let z = ap length (ap (path_at b) e ∙ h.0) in omega (arith, z)
  short (t ∷ ts) h q (inr i) = let z = short ts h.1 q i in omega (arith, z)

  place-in : (p ns : List ℕ) → IsPath (path_at b) p → length ns ≡ length p → (n : ℕ) → IsIn n ns → (q : ℕ) × IsIn q p × (beside q p ns ≡ Some n)
  place-in p [] h len n i = absurd i
  place-in [] (m ∷ ns) h len n i = absurd (omega (arith, len))
  place-in (t ∷ ts) (m ∷ ns) h len n (inl e) = (t, inl refl, ap (λ c. if c then Some m else beside t ts ns) (eq-eqb t t refl) ∙ ap Some (sym e))
  place-in (t ∷ ts) (m ∷ ns) h len n (inr i) =
      let r = place-in ts ns h.1 (omega (arith, len)) n i in
      let below = short ts h.1 r.0 r.1 in
      let differs : t ≢ r.0 = λ same. (let z = ap length (ap (path_at b) (sym same) ∙ h.0) in omega (arith, z, below)) in
      (r.0, inr r.1, ap (λ c. if c then Some m else beside r.0 ts ns) (apart t r.0 differs) ∙ r.2)

  pub number-placed : (k n : ℕ) (u : Identifier) → identifier_at b k ≡ Some u → IsIn n u.numbers → (q : ℕ) × (number_of b k q ≡ Some n)
  number-placed k n u e i =
      let r = place-in (path_at b u.space) u.numbers (is_path b l u.space) (l.full k u e).1 n i in
      (r.0, ap (number_in (path_at b) r.0) e ∙ r.2)

module _ (s : Store) (l : IsLawful s) where
  -- one name is of one key
  pub key-named : (j k : ℕ) → IsSome (identifier_at s.numbering j) → IsSome (identifier_at s.numbering k)
      → name_at s.numbering j ≡ name_at s.numbering k → j ≡ k
  key-named j k at_j at_k e = eqb-true j k (sym (same-name s l j k at_j at_k) ∙ same_name-refl (name_at s.numbering j) (name_at s.numbering k) e)

  -- a number of an identifier in the model is one by key
  pub number-by_key : (k i n : ℕ) (u : Identifier) → identifier_at s.numbering k ≡ Some u → number (state_of s).spaces (name_at s.numbering k) i ≡ Some n
      → (c : ℕ) × (id_at s.numbering c ≡ Some i) × (number_of s.numbering k c ≡ Some n)
  number-by_key k i n u e at =
      let on = (number-within (state_of s).spaces (name_at s.numbering k) i n at).0 in
      let r = in-around s.numbering l.numbering u.space (name_at s.numbering k).space i (space-id s l k u e) on in
      (r.0, r.2, sym (number-is_key s.numbering l.numbering r.0 i k u r.2 e) ∙ at)

  -- an identifier's name is well numbered
  pub well_numbered : (k : ℕ) (u : Identifier) → identifier_at s.numbering k ≡ Some u → IsWellNumbered (state_of s).spaces s.numbering.pid_max (name_at s.numbering k)
  well_numbered k u e =
      let at = space-id s l k u e in
      let items : (name_at s.numbering k).numbers.items ≡ reverse u.numbers = ap (λ o. (option_map_or (name_of s.numbering) o root_name).numbers.items) e in
      record {
        listed = λ x i.
            let r = in-around s.numbering l.numbering u.space (name_at s.numbering k).space x at i in
            (space_of s.numbering (x, r.0), space_at-key s.numbering l.numbering r.0 x r.2);
        one_each =
            ap length items ∙ length-reverse u.numbers ∙ (l.numbering.full k u e).1
            ∙ sym (length-map (path_at s.numbering u.space) (id_for s.numbering l.numbering 0))
            ∙ sym (ap length (path-is s.numbering l.numbering u.space (name_at s.numbering k).space 0 at (l.numbering.some u.space (name_at s.numbering k).space at)));
        in_range = λ n i.
            let r = number-placed s.numbering l.numbering k n u e (IsIn-reverse n u.numbers (subst (IsIn n) items i)) in
            l.numbering.range k r.0 n r.1;
      }
