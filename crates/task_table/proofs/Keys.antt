-- The keys and the names of identifiers, in a numbering that keeps its laws.
use Rattle.std.proofs.Common.{◌≡◌, ◌≢◌, ◌⊎◌, inl, inr, ℕ, zero, suc, ◌+◌, ◌<◌, ◌≤◌, Bool, true, false, ◌==◌, not, List, [], ◌∷◌, ◌++◌, length, map, find, drop, get_or, slice_get, Option, Some, None, cond, if◌then◌else◌, refl, sym, ap, ◌∙◌, arith, option_map, option_and_then, unwrap_or}
use Rattle.std.specs.Prelude.{reverse, nat_lt, position, slice_index_or}
use Rattle.std.specs.List.{position_or_len}
use Rattle.std.proofs.lemmas.List.{reverse-append}
use Rattle.std.proofs.lemmas.List.Quantifiers.{position-Some}
use Rattle.std.specs.Option.{option_map_or, option_eq}
use Rattle.std.proofs.lemmas.Bool.{cases_eq, eq-eqb}
use Rattle.pid_types.proofs.General.{apart, some_number, number_tested}
use Rattle.id_slab.specs.Ids.{key_of}
use Rattle.pid_types.specs.declared.plain.Name.{Name}
use Rattle.pid_types.specs.declared.plain.Space.{Space}
use Rattle.pid_types.specs.Membership.{IsIn}
use Rattle.pid_types.specs.Names.{beside, beside_from, space_at, parent_space, path_up, number, numbers_from}
use Rattle.pid_types.specs.State.{root_name}
use Rattle.pid_numbers.specs.Numbering.{Numbering, Namespace, Identifier, namespace_at, id_at, identifier_at, number_in, number_of, path_at, levels_of}
use Rattle.pid_numbers.specs.Slabs.{IsPath}
use Rattle.pid_numbers.proofs.Model.{path_up-is, number-is}
use Rattle.task_table.specs.Lawful.{HasLaws}
use Rattle.task_table.specs.View.{name_of, name_at, key_numbered, space_of, spaces_of}

-- no element passes where no place is found
module _ {X : Type 0} (p : X → Bool) where
  pub position-none : (d : X) → p d ≡ false → (xs : List X) → position p xs ≡ None → (k : ℕ) → p (get_or xs k d) ≡ false
  position-none d nothing xs e k = go (nat_lt (position_or_len p xs) (length xs)) refl e
    where
      shorter : (m n : ℕ) → nat_lt (1 + m) (suc n) ≡ false → nat_lt m n ≡ false
      shorter m n e = grind (arith, e)

      past : (ys : List X) (j : ℕ) → (nat_lt (position_or_len p ys) (length ys) ≡ false) → p (get_or ys j d) ≡ false
      past [] j e = nothing
      past (y ∷ ys) j e = split (p y) refl (λ h i. past ys i h) j e
        where
          split : (b : Bool) → p y ≡ b → (nat_lt (position_or_len p ys) (length ys) ≡ false → (i : ℕ) → p (get_or ys i d) ≡ false) → (j : ℕ)
              → nat_lt (cond (not b) (1 + position_or_len p ys) 0) (length (y ∷ ys)) ≡ false → p (get_or (y ∷ ys) j d) ≡ false
          split true is again j e = absurd (let z : nat_lt 0 (suc (length ys)) ≡ true = grind (arith) in let w : true ≡ false = sym z ∙ e in cc)
          split false is again zero e = is
          split false is again (suc i) e = again (shorter (position_or_len p ys) (length ys) e) i

      go : (b : Bool) → nat_lt (position_or_len p xs) (length xs) ≡ b → cond b (Some (position_or_len p xs)) None ≡ None → p (get_or xs k d) ≡ false
      go true is e = absurd (cc)
      go false is e = past xs k is

by_cases : (P : List ℕ → Type 0) → P [] → ((q : ℕ) (qs : List ℕ) → P (q ∷ qs)) → (rest : List ℕ) → P rest
by_cases P none some [] = none
by_cases P none some (q ∷ qs) = some q qs

module _ (b : Numbering) (l : HasLaws b) where
  -- a number leads to the key that has it
  pub key-some : (s n k : ℕ) → key_numbered b s n ≡ Some k → number_of b k s ≡ Some n
  key-some s n k e = some_number (number_of b k s) n (position-Some (λ o. option_eq ◌==◌ (number_in (path_at b) s o) (Some n)) b.names k None e).1

  pub key-none : (s n : ℕ) → key_numbered b s n ≡ None → (k : ℕ) → number_of b k s ≢ Some n
  key-none s n e k at =
      let no = position-none (λ o. option_eq ◌==◌ (number_in (path_at b) s o) (Some n)) None refl b.names e k in
      absurd (let z : true ≡ false = sym (number_tested (number_of b k s) n at) ∙ no in cc)

  pub key-of : (s n k : ℕ) → number_of b k s ≡ Some n → key_numbered b s n ≡ Some k
  key-of s n k at = go (key_numbered b s n) refl
    where
      go : (o : Option ℕ) → key_numbered b s n ≡ o → o ≡ Some k
      go None e = absurd (key-none s n e k at)
      go (Some j) e = ap Some (l.distinct j k s n (key-some s n j e) at)

  pub key-no : (s n : ℕ) → ((k : ℕ) → number_of b k s ≢ Some n) → key_numbered b s n ≡ None
  key-no s n free = go (key_numbered b s n) refl
    where
      go : (o : Option ℕ) → key_numbered b s n ≡ o → o ≡ None
      go None e = refl
      go (Some j) e = absurd (free j (key-some s n j e))

  -- paths
  some_path : (s : ℕ) (t : ℕ) (rest : List ℕ) → path_at b s ≡ t ∷ rest → t ≡ s
  some_path s t rest e = sym (ap (λ p. slice_index_or p 0 0) e) ∙ l.own s (rw e (omega arith))

  pub is_path : (s : ℕ) → IsPath (path_at b) (path_at b s)
  is_path s = from (path_at b s) (λ j lt. l.around s j lt)
    where
      from : (p : List ℕ) → ((j : ℕ) → j < length p → path_at b (slice_index_or p j 0) ≡ drop j p) → IsPath (path_at b) p
      from [] h = tt
      from (t ∷ ts) h = (h 0 (omega arith), from ts (λ j lt. h (suc j) (omega (arith, lt))))

  -- an id for each key, which no other key has
  abbrev pub id_for : ℕ → ℕ → ℕ
  id_for i k = option_map_or (λ t. t.id) (namespace_at b k) (suc i)

  there : (s i : ℕ) → id_at b s ≡ Some i → (t : Namespace) × (namespace_at b s ≡ Some t) × (t.id ≡ i)
  there s i e = go (namespace_at b s) refl e
    where
      go : (o : Option Namespace) → namespace_at b s ≡ o → option_map (λ t. t.id) o ≡ Some i → (t : Namespace) × (namespace_at b s ≡ Some t) × (t.id ≡ i)
      go None is e = absurd (cc)
      go (Some t) is e = (t, is, (let z : t.id ≡ i = cc in z))

  pub on_path : (s : ℕ) (p : ℕ) (rest : List ℕ) → path_at b s ≡ p ∷ rest → (t : Namespace) × (namespace_at b s ≡ Some t)
  on_path s p rest e = go (namespace_at b s) refl e
    where
      go : (o : Option Namespace) → namespace_at b s ≡ o → option_map_or (λ t. t.path) o [] ≡ p ∷ rest → (t : Namespace) × (namespace_at b s ≡ Some t)
      go None is e = absurd (cc)
      go (Some t) is e = (t, is)

  pub own_id : (s i : ℕ) → id_at b s ≡ Some i → (j : ℕ) → id_for j s ≡ i
  own_id s i e j = let h = there s i e in ap (λ o. option_map_or (λ t. t.id) o (suc j)) h.1 ∙ h.2

  pub id_of_there : (s j : ℕ) (t : Namespace) → namespace_at b s ≡ Some t → id_at b s ≡ Some (id_for j s)
  id_of_there s j t e = rw e refl

  pub only : (s i : ℕ) → id_at b s ≡ Some i → (k : ℕ) → id_for i k ≡ id_for i s → k ≡ s
  only s i e k same = go (namespace_at b k) refl (same ∙ own_id s i e i)
    where
      go : (o : Option Namespace) → namespace_at b k ≡ o → option_map_or (λ t. t.id) o (suc i) ≡ i → k ≡ s
      go None is h = absurd (omega (arith, h))
      go (Some t) is h = l.ids k s i (ap (option_map (λ t. t.id)) is ∙ ap Some h) e

  -- the namespace with an id, in the model and here
  pub space_at-is : (i : ℕ) → space_at (spaces_of b) i ≡ option_map (λ k. space_of b (i, k)) (key_of b.order i)
  space_at-is i = from b.order
    where
      from : (ids : List (ℕ × ℕ)) → find (λ (s : Space). s.id == i) (map (space_of b) ids) ≡ option_map (λ k. space_of b (i, k)) (key_of ids i)
      from [] = refl
      from (p ∷ ids) = go (cases_eq p.0 i) (from ids)
        where
          go : (p.0 ≡ i) ⊎ (p.0 ≢ i) → find (λ (s : Space). s.id == i) (map (space_of b) ids) ≡ option_map (λ k. space_of b (i, k)) (key_of ids i)
              → (if p.0 == i then Some (space_of b p) else find (λ (s : Space). s.id == i) (map (space_of b) ids)) ≡ option_map (λ k. space_of b (i, k)) (if p.0 == i then Some p.1 else key_of ids i)
          go (inl same) again = rw (eq-eqb p.0 i same) (ap (λ j. Some (space_of b (j, p.1))) same)
          go (inr differs) again = rw (apart p.0 i differs) again

  pub space_at-key : (s i : ℕ) → id_at b s ≡ Some i → space_at (spaces_of b) i ≡ Some (space_of b (i, s))
  space_at-key s i e = space_at-is i ∙ ap (option_map (λ k. space_of b (i, k))) (l.listed s i e)

  root_up : (j t : ℕ) → path_at b t ≡ t ∷ [] → parent_space (spaces_of b) (id_for j t) ≡ None
  root_up j t e =
      let h = on_path t t [] e in
      ap (option_and_then (λ (s : Space). s.parent)) (space_at-key t (id_for j t) (id_of_there t j h.0 h.1))
      ∙ ap (λ p. option_and_then (id_at b) (slice_get p 1)) e

  next_up : (j t q : ℕ) (qs : List ℕ) → path_at b t ≡ t ∷ q ∷ qs → parent_space (spaces_of b) (id_for j t) ≡ Some (id_for j q)
  next_up j t q qs e =
      let h = on_path t t (q ∷ qs) e in
      let len : 1 < length (path_at b t) = rw e (omega arith) in
      let path : path_at b q ≡ q ∷ qs = ap (λ p. path_at b (slice_index_or p 1 0)) (sym e) ∙ l.around t 1 len ∙ ap (drop 1) e in
      let k = on_path q q qs path in
      ap (option_and_then (λ (s : Space). s.parent)) (space_at-key t (id_for j t) (id_of_there t j h.0 h.1))
      ∙ ap (λ p. option_and_then (id_at b) (slice_get p 1)) e ∙ id_of_there q j k.0 k.1

  -- a path in the model
  pub path-is : (s i j : ℕ) → id_at b s ≡ Some i → 0 < length (path_at b s) → path_up (spaces_of b) i ≡ map (id_for j) (path_at b s)
  path-is s i j e some = go (path_at b s) refl (is_path s) (l.few s) some
    where
      go : (p : List ℕ) → path_at b s ≡ p → IsPath (path_at b) p → length p ≤ 33 → 0 < length p → path_up (spaces_of b) i ≡ map (id_for j) p
      go [] is h few some = absurd (omega (arith, some))
      go (t ∷ rest) is h few some =
          let same = some_path s t rest is in
          ap (path_up (spaces_of b)) (sym (own_id s i e j) ∙ ap (id_for j) (sym same))
          ∙ path_up-is (path_at b) (spaces_of b) (id_for j) (λ t. by_cases _ (root_up j t) (next_up j t)) t rest h few

  -- the number of a name in the model, if it has one for each namespace of the path
  pub number-is_name : (s i space : ℕ) (ns : List ℕ) (name : Name) → id_at b s ≡ Some i → id_at b space ≡ Some name.space → name.numbers.items ≡ reverse ns
      → length ns ≡ length (path_at b space) → number (spaces_of b) name i ≡ beside s (path_at b space) ns
  number-is_name s i space ns name e home numbers full = go (path_at b space) refl (is_path space) (l.few space) (l.some space name.space home) full
    where
      go : (p : List ℕ) → path_at b space ≡ p → IsPath (path_at b) p → length p ≤ 33 → 0 < length (path_at b space) → length ns ≡ length (path_at b space)
          → number (spaces_of b) name i ≡ beside s (path_at b space) ns
      go [] is h few some full = absurd (let z = ap length is in omega (arith, z, some))
      go (t ∷ rest) is h few some full =
          let same = some_path space t rest is in
          let own : name.space ≡ id_for i t = sym (own_id space name.space home i) ∙ ap (id_for i) (sym same) in
          ap (number (spaces_of b) name) (sym (own_id s i e i))
          ∙ number-is (path_at b) (spaces_of b) (id_for i) (λ t. by_cases _ (root_up i t) (next_up i t)) s t rest ns name h few (sym (full ∙ ap length is)) (only s i e) own numbers
          ∙ sym (ap (λ p. beside s p ns) is)

  -- an identifier's namespace is there, by the id in its name
  pub home-id : (k : ℕ) (u : Identifier) → identifier_at b k ≡ Some u → id_at b u.space ≡ Some (name_at b k).space
  home-id k u at = go (path_at b u.space) refl (let f = l.full k u at in let x = f.0 in let y = f.1 in omega (arith, x, y))
    where
      go : (p : List ℕ) → path_at b u.space ≡ p → 0 < length (path_at b u.space) → id_at b u.space ≡ Some (name_at b k).space
      go [] is some = absurd (let z = ap length is in omega (arith, z, some))
      go (q ∷ qs) is some =
          let h = on_path u.space q qs is in
          ap (option_map (λ t. t.id)) h.1 ∙ sym (ap (λ o. Some (option_map_or (name_of b) o root_name).space) at ∙ ap (λ o. Some (unwrap_or (option_map (λ t. t.id) o) 0)) h.1)

  -- a number in the model
  pub number-is_key : (s i k : ℕ) (u : Identifier) → id_at b s ≡ Some i → identifier_at b k ≡ Some u → number (spaces_of b) (name_at b k) i ≡ number_of b k s
  number-is_key s i k u e at =
      number-is_name s i u.space u.numbers (name_at b k) e (home-id k u at) (ap (λ o. (option_map_or (name_of b) o root_name).numbers.items) at) (l.full k u at).1
      ∙ sym (ap (λ o. number_in (path_at b) s o) at)

  map-reverse : (f : ℕ → ℕ) (p : List ℕ) → reverse (map f p) ≡ map f (reverse p)
  map-reverse f [] = refl
  map-reverse f (x ∷ xs) = reverse-append (f x ∷ []) (map f xs) ∙ ap (λ l. l ++ f x ∷ []) (map-reverse f xs) ∙ sym (ap (map f) (reverse-append (x ∷ []) xs) ∙ over (reverse xs) (x ∷ []))
    where
      over : (xs ys : List ℕ) → map f (xs ++ ys) ≡ map f xs ++ map f ys
      over [] ys = refl
      over (x ∷ xs) ys = ap (λ l. f x ∷ l) (over xs ys)

  beside_from-ids : (i s : ℕ) (p ns : List ℕ) → ((t : ℕ) → id_for i t ≡ id_for i s → t ≡ s) → beside_from (id_for i s) (map (id_for i) p) ns ≡ beside_from s p ns
  beside_from-ids i s [] ns only = refl
  beside_from-ids i s (t ∷ ts) [] only = refl
  beside_from-ids i s (t ∷ ts) (n ∷ ns) only = go (beside_from-ids i s ts ns only) (cases_eq t s)
    where
      go : beside_from (id_for i s) (map (id_for i) ts) ns ≡ beside_from s ts ns → (t ≡ s) ⊎ (t ≢ s)
          → (if id_for i t == id_for i s then n ∷ ns else beside_from (id_for i s) (map (id_for i) ts) ns) ≡ (if t == s then n ∷ ns else beside_from s ts ns)
      go again (inl e) = rw (eq-eqb t s e, eq-eqb (id_for i t) (id_for i s) (ap (id_for i) e)) refl
      go again (inr m) = rw (apart t s m, apart (id_for i t) (id_for i s) (λ e. m (only t e))) again

  -- the numbers from a namespace inwards, in the model
  pub levels-are : (s i k : ℕ) (u : Identifier) → id_at b s ≡ Some i → identifier_at b k ≡ Some u → numbers_from (spaces_of b) (name_at b k) i ≡ levels_of b k s
  unfolding numbers_from
  levels-are s i k u e at =
      let f = l.full k u at in
      let some : 0 < length (path_at b u.space) = (let x = f.0 in let y = f.1 in omega (arith, x, y)) in
      let own = home-id k u at in
      ap (λ p. beside_from i (reverse p) (name_at b k).numbers.items) (path-is u.space (name_at b k).space i own some)
      ∙ ap (λ p. beside_from i p (name_at b k).numbers.items) (map-reverse (id_for i) (path_at b u.space))
      ∙ ap (λ j. beside_from j (map (id_for i) (reverse (path_at b u.space))) (name_at b k).numbers.items) (sym (own_id s i e i))
      ∙ beside_from-ids i s (reverse (path_at b u.space)) (name_at b k).numbers.items (only s i e)
      ∙ ap (λ o. beside_from s (reverse (path_at b u.space)) (option_map_or (name_of b) o root_name).numbers.items) at
      ∙ sym (ap (λ o. option_map_or (λ u. beside_from s (reverse (path_at b u.space)) (reverse u.numbers)) o []) at)

  -- the namespaces of a path are there
  pub path-there : (s j q : ℕ) → IsIn q (path_at b s) → id_at b q ≡ Some (id_for j q)
  path-there s j q i = from (path_at b s) (is_path s) i
    where
      from : (p : List ℕ) → IsPath (path_at b) p → IsIn q p → id_at b q ≡ Some (id_for j q)
      from [] h i = absurd i
      from (t ∷ ts) h (inl e) = let n = on_path q t ts (ap (path_at b) e ∙ h.0) in id_of_there q j n.0 n.1
      from (t ∷ ts) h (inr i) = from ts h.1 i
