-- What a store in the making has of its text: what may still be put into it, and what is found there.
use Rattle.std.proofs.Common.{◌≡◌, ◌≢◌, inl, ℕ, zero, suc, ◌+◌, ◌<◌, true, List, [], ◌∷◌, length, map, reverse, slice_get, Option, Some, None, IsSome, is_some, if◌then◌else◌, refl, sym, ap, subst, ◌∙◌, arith, option_map}
use Rattle.std.specs.Prelude.{slice_index}
use Rattle.std.proofs.lemmas.Bool.{eq-eqb, false_from_ne_true}
use Rattle.std.proofs.lemmas.List.{length-reverse, reverse-reverse}
use Rattle.pid_types.proofs.General.{apart, held}
use Rattle.pid_types.specs.declared.plain.Name.{Name}
use Rattle.pid_types.specs.declared.plain.Space.{Space}
use Rattle.pid_types.specs.Bounds.{deepest_space}
use Rattle.pid_types.specs.Chains.{contains}
use Rattle.pid_types.specs.Membership.{IsIn}
use Rattle.pid_types.specs.Names.{beside, names_in_use, number, path_up, root_number, space_at}
use Rattle.pid_types.specs.Sound.{IsSound, IsWellNumbered}
use Rattle.pid_types.specs.State.{State}
use Rattle.model_laws.proofs.Chains.{IsIn-climb_first}
use Rattle.model_laws.proofs.Forests.{at-map, chain-map}
use Rattle.model_laws.proofs.Lists.{IsIn-from_contains, IsIn-from_filter_map, IsIn-reverse}
use Rattle.model_laws.proofs.Names.{number-same_path, used_by_row}
use Rattle.pid_numbers.specs.Numbering.{Numbering, Identifier, id_at, identifier_at, number_in, number_of, path_at, taken_in}
use Rattle.task_tree.specs.Tree.{task_at}
use Rattle.task_table.specs.Store.{Store}
use Rattle.task_table.specs.View.{name_at, row_of, spaces_of}
use Rattle.task_table.specs.Lawful.{IsLawful}
use Rattle.task_table.proofs.Keys.{id_for, is_path, number-is_key, number-is_name, path-there}
use Rattle.task_table.proofs.LookUps.{outermost}
use Rattle.task_table.proofs.Places.{place-of}
use Rattle.table_build.specs.Bare.{undrawn, steady}
use Rattle.table_build.specs.Follows.{MayBear}
use Rattle.table_build.specs.Parts.{IsPart, IsUnborne}
use Rattle.table_build.specs.Recent.{AreBorne}
use Rattle.table_build.proofs.Draws.{path-apart}
use Rattle.table_build.proofs.Places.{at_place}
use Rattle.table_build.proofs.SpaceTrees.{id_of, parent_of, key-there, path-long}

-- paths go by ids and parents alone
module _ (xs ys : List Space) (same : map steady xs ≡ map undrawn ys) where
  pub same-up : (n : ℕ) → path_up xs n ≡ path_up ys n
  unfolding path_up
  same-up n =
      sym (chain-map Space id_of parent_of xs steady (λ x. refl) (λ x. refl) (deepest_space + 1) n)
      ∙ ap (λ zs. path_up zs n) same
      ∙ chain-map Space id_of parent_of ys undrawn (λ x. refl) (λ x. refl) (deepest_space + 1) n

  pub same-there : (n : ℕ) → IsSome (space_at ys n) → IsSome (space_at xs n)
  same-there n some =
      mapped steady (space_at xs n)
      ∙ ap is_some (sym (at-map Space id_of parent_of xs steady (λ x. refl) (λ x. refl) n) ∙ ap (λ zs. space_at zs n) same ∙ at-map Space id_of parent_of ys undrawn (λ x. refl) (λ x. refl) n)
      ∙ sym (mapped undrawn (space_at ys n)) ∙ some
    where
      mapped : (f : Space → Space) (o : Option Space) → is_some o ≡ is_some (option_map f o)
      mapped f None = refl
      mapped f (Some x) = refl

  pub same-number : (a : Name) (i : ℕ) → number xs a i ≡ number ys a i
  same-number a i = number-same_path ys xs a i (same-up a.space)

-- the number that stands at a place, where none before it has the key
beside-at : (p ns : List ℕ) (j q n : ℕ) → slice_get p j ≡ Some q → slice_get ns j ≡ Some n → ((i x : ℕ) → i < j → slice_get p i ≡ Some x → x ≢ q) → beside q p ns ≡ Some n
beside-at [] ns j q n on at new = absurd (cc)
beside-at (t ∷ ts) [] j q n on at new = absurd (cc)
beside-at (t ∷ ts) (m ∷ ms) zero q n on at new =
    let first : t ≡ q = cc in
    let own : m ≡ n = cc in
    ap (λ b. if b then Some m else beside q ts ms) (eq-eqb t q first) ∙ ap Some own
beside-at (t ∷ ts) (m ∷ ms) (suc j) q n on at new =
    ap (λ b. if b then Some m else beside q ts ms) (apart t q (new 0 t (omega arith) refl))
    ∙ beside-at ts ms j q n on at (λ i x lt here. new (suc i) x (omega (arith, lt)) here)

up-own : (spaces : List Space) (n : ℕ) → IsIn n (path_up spaces n)
unfolding path_up
up-own spaces n = IsIn-climb_first _ deepest_space n

up-some : (spaces : List Space) (n : ℕ) → 0 < length (path_up spaces n)
up-some spaces n = go (path_up spaces n) (up-own spaces n)
  where
    go : (p : List ℕ) → IsIn n p → 0 < length p
    go [] i = absurd i
    go (q ∷ qs) i = omega arith

-- who has a number is named
pub numbered : (b : Numbering) (o : Option Identifier) (q n : ℕ) → number_in (path_at b) q o ≡ Some n → (u : Identifier) × (o ≡ Some u)
numbered b None q n e = absurd (cc)
numbered b (Some u) q n e = (u, refl)

module _ (s : Store) (l : IsLawful s) (text : State) (sound : IsSound text) (part : IsPart s text) (name : Name) (used : IsIn name (names_in_use text.rows)) where
  well : IsWellNumbered text.spaces text.pid_max name
  well = sound.coherent.numbered name (used_by_row text name used)

  -- the name's namespace has a key
  home : (k : ℕ) × (id_at s.numbering k ≡ Some name.space)
  home =
      let x = well.listed name.space (up-own text.spaces name.space) in
      key-there s.numbering l.numbering name.space (same-there (spaces_of s.numbering) text.spaces part.places.spaces name.space (ap is_some x.1))

  long : length name.numbers.items ≡ length (path_at s.numbering home.0)
  long = well.one_each ∙ ap length (sym (same-up (spaces_of s.numbering) text.spaces part.places.spaces name.space)) ∙ path-long s.numbering l.numbering home.0 name.space home.1

  -- the name's numbers by key
  by-key : (q i : ℕ) → id_at s.numbering q ≡ Some i → number text.spaces name i ≡ beside q (path_at s.numbering home.0) (reverse name.numbers.items)
  by-key q i e =
      sym (same-number (spaces_of s.numbering) text.spaces part.places.spaces name i)
      ∙ number-is_name s.numbering l.numbering q i home.0 (reverse name.numbers.items) name e home.1 (sym (reverse-reverse name.numbers.items)) (length-reverse name.numbers.items ∙ long)

  -- who has one of its numbers bears the name
  one-name : (k q i n : ℕ) (u : Identifier) → IsIn (name_at s.numbering k) (names_in_use text.rows) → id_at s.numbering q ≡ Some i → identifier_at s.numbering k ≡ Some u
      → number_of s.numbering k q ≡ Some n → number text.spaces name i ≡ Some n → name_at s.numbering k ≡ name
  one-name k q i n u inside e at theirs ours =
      sound.coherent.distinct (name_at s.numbering k) name (used_by_row text (name_at s.numbering k) inside) (used_by_row text name used) i n
      (sym (same-number (spaces_of s.numbering) text.spaces part.places.spaces (name_at s.numbering k) i) ∙ number-is_key s.numbering l.numbering q i k u e at ∙ theirs) ours

  module _ (borne : AreBorne s) where
    known : (k : ℕ) (u : Identifier) → identifier_at s.numbering k ≡ Some u → IsSome (task_at s.tree k) × IsIn (name_at s.numbering k) (names_in_use text.rows)
    known k u at =
        let t = held (task_at s.tree k) (borne k u at) in
        (ap is_some t.1, part.names k (row_of s k t.0) (ap (option_map (row_of s k)) t.1))

    -- the one with its number in the root namespace bears the name
    pub found-name : (k : ℕ) (u : Identifier) → identifier_at s.numbering k ≡ Some u → number_of s.numbering k 0 ≡ Some (root_number name) → name_at s.numbering k ≡ name
    found-name k u at found =
        let first : IsIn 0 (path_at s.numbering 0) = subst (IsIn 0) (sym l.numbering.root) (inl refl) in
        let id = path-there s.numbering l.numbering 0 0 0 first in
        let some : 0 < length (path_at s.numbering home.0) = l.numbering.some home.0 name.space home.1 in
        let last =
        outermost (path_at s.numbering) (path_at s.numbering home.0) (reverse name.numbers.items) (is_path s.numbering l.numbering home.0) l.numbering.root (l.numbering.ends home.0 some)
        (length-reverse name.numbers.items ∙ long) in
        one-name k 0 (id_for s.numbering l.numbering 0 0) (root_number name) u (known k u at).1 id at found
        (by-key 0 (id_for s.numbering l.numbering 0 0) id ∙ last ∙ ap (λ ns. Some (slice_index ns 0)) (reverse-reverse name.numbers.items))

    -- a name that nobody bears may be borne
    pub may-bear : IsUnborne s name → MayBear s.numbering name
    unfolding taken_in
    may-bear unborne = record {
      space = home.0;
      named = home.1;
      long = long;
      free = λ j q n on at.
          let range = well.in_range n (IsIn-reverse n name.numbers.items (at_place (reverse name.numbers.items) j n at)) in
          (range.0, (let low = range.1 in let bound = part.places.bound in omega (arith, low, bound)), false_from_ne_true (contains (taken_in s.numbering q) n) (taken j q n on at));
    }
      where
        taken : (j q n : ℕ) → slice_get (path_at s.numbering home.0) j ≡ Some q → slice_get (reverse name.numbers.items) j ≡ Some n → contains (taken_in s.numbering q) n ≡ true → ⊥
        taken j q n on at on_it =
            let o = IsIn-from_filter_map (number_in (path_at s.numbering) q) n s.numbering.names (IsIn-from_contains (taken_in s.numbering q) n on_it) in
            let k = place-of None o.0 s.numbering.names o.1 in
            let u = numbered s.numbering o.0 q n o.2 in
            let there : identifier_at s.numbering k.0 ≡ Some u.0 = k.2 ∙ u.1 in
            let id = path-there s.numbering l.numbering home.0 0 q (at_place (path_at s.numbering home.0) j q on) in
            let i = id_for s.numbering l.numbering 0 q in
            let ours = by-key q i id ∙ beside-at (path_at s.numbering home.0) (reverse name.numbers.items) j q n on at (λ m x lt here. path-apart s.numbering l.numbering home.0 m j x q here on lt) in
            let same = one-name k.0 q i n u.0 (known k.0 u.0 there).1 id there (ap (number_in (path_at s.numbering) q) k.2 ∙ o.2) ours in
            unborne k.0 (record { there = (known k.0 u.0 there).0; named = same })

  -- it has a number
  pub some-number : 0 < length name.numbers.items
  some-number = let e = well.one_each in let some = up-some text.spaces name.space in omega (arith, e, some)
