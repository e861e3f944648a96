-- Identifiers that are left when uses went: what they were, with the numbers that they had.
use Rattle.std.proofs.Common.{◌≡◌, ◌≢◌, ◌⊎◌, inl, inr, ℕ, zero, suc, ◌<◌, ◌==◌, ◌&&◌, Bool, true, false, List, [], ◌∷◌, length, get_or, Option, Some, None, option_map, option_and_then, is_some, if◌then◌else◌, refl, sym, ap, subst, ◌∙◌, arith}
use Rattle.std.specs.Prelude.{slice_index_or}
use Rattle.std.specs.Option.{option_map_or}
use Rattle.std.specs.List.{filter, filter_map, cons_option}
use Rattle.std.proofs.lemmas.Bool.{cases_eq, eq-eqb, eqb-true}
use Rattle.pid_types.specs.Names.{beside}
use Rattle.pid_numbers.specs.Numbering.{Numbering, Namespace, Identifier, identifier_at, namespace_at, path_at, number_in, number_of, taken_in, is_deserted, is_there, swept_at}
use Rattle.pid_types.specs.declared.call.Kind.{Kind}
use Rattle.pid_types.specs.declared.call.Kind.TheVariants.{Task as AsTask}
use Rattle.pid_numbers.specs.Numbering.{uses}
use Rattle.task_tree.specs.declared.Task.{Task}
use Rattle.task_tree.specs.Tree.{TreeOfTasks, task_at, parent_of, rank_of, waits_for}
use Rattle.task_table.specs.Store.{bare, bare_at, uses_at, IsLess}

module _ {X : Type 0} (f : X → Option ℕ) (d : X) (nothing : f d ≡ None) where
  pub some_taken : (xs : List X) (i n : ℕ) → f (get_or xs i d) ≡ Some n → 0 < length (filter_map f xs)
  some_taken [] i n e = absurd (let z = sym nothing ∙ e in cc)
  some_taken (x ∷ xs) zero n e = rw e (omega arith)
  some_taken (x ∷ xs) (suc i) n e = go (f x) (some_taken xs i n e)
    where
      go : (o : Option ℕ) → 0 < length (filter_map f xs) → 0 < length (cons_option o (filter_map f xs))
      go None h = h
      go (Some m) h = omega arith

  pub none_taken : (xs : List X) → length (filter_map f xs) ≡ 0 → (i : ℕ) → f (get_or xs i d) ≡ None
  none_taken [] e i = nothing
  none_taken (x ∷ xs) e i = go (λ z j. none_taken xs z j) (f x) refl e i
    where
      go : (length (filter_map f xs) ≡ 0 → (i : ℕ) → f (get_or xs i d) ≡ None) → (o : Option ℕ) → f x ≡ o → length (cons_option o (filter_map f xs)) ≡ 0 → (i : ℕ) → f (get_or (x ∷ xs) i d) ≡ None
      go again (Some m) is e i = absurd (omega (arith, e))
      go again None is e zero = is
      go again None is e (suc i) = again e i

  pub all_untaken : (xs : List X) → ((i : ℕ) → f (get_or xs i d) ≡ None) → length (filter_map f xs) ≡ 0
  all_untaken [] each = refl
  all_untaken (x ∷ xs) each = rw (each 0) (all_untaken xs (λ i. each (suc i)))

-- what is left of the namespaces hangs on them and on the identifiers alone
pub swept-of : (b c : Numbering) → c.namespaces ≡ b.namespaces → (names : List (Option Identifier)) (s : ℕ) → swept_at (record c { names = names }) s ≡ swept_at (record b { names = names }) s
unfolding taken_in
swept-of b c e names s = ap (λ l. swept_at (record b { namespaces = l; names = names }) s) e

-- uses that only came before others went
pub IsLess-from : (a b c : Numbering) → b.namespaces ≡ a.namespaces → b.order ≡ a.order → ((i : ℕ) → bare_at b i ≡ bare_at a i) → b.pid_max ≡ a.pid_max → IsLess b c → IsLess a c
IsLess-from a b c namespaces order names bound l = record {
  order = l.order ∙ ap (filter (λ p. is_there c p.1)) order;
  names = λ i u e. sym (names i) ∙ l.names i u e;
  namespaces = λ s. l.namespaces s ∙ swept-of a b namespaces c.names s;
  bound = l.bound ∙ bound;
}

module _ (b : Numbering)
    (full : (i : ℕ) (u : Identifier) → identifier_at b i ≡ Some u → (0 < length u.numbers) × (length u.numbers ≡ length (path_at b u.space)))
    (own : (s : ℕ) → 0 < length (path_at b s) → slice_index_or (path_at b s) 0 0 ≡ s) (c : Numbering) (l : IsLess b c) where
  -- who is left was there, and is what it was
  pub was : (i : ℕ) (v : Identifier) → identifier_at c i ≡ Some v → (u : Identifier) × (identifier_at b i ≡ Some u) × (u.space ≡ v.space) × (u.numbers ≡ v.numbers)
  was i v e = go (identifier_at b i) refl (l.names i (bare v) (ap (option_map bare) e))
    where
      go : (o : Option Identifier) → identifier_at b i ≡ o → option_map bare o ≡ Some (bare v) → (u : Identifier) × (identifier_at b i ≡ Some u) × (u.space ≡ v.space) × (u.numbers ≡ v.numbers)
      go None is z = absurd (cc)
      go (Some u) is z =
          let same : bare u ≡ bare v = ap (λ o. option_map_or (λ x. x) o (bare u)) z in
          (u, is, ap (λ (x : Identifier). x.space) same, ap (λ (x : Identifier). x.numbers) same)

  own_number : (path numbers : List ℕ) (s : ℕ) → 0 < length numbers → length numbers ≡ length path → slice_index_or path 0 0 ≡ s → (n : ℕ) × (beside s path numbers ≡ Some n)
  own_number path [] s some len head = absurd (omega (arith, some))
  own_number [] (n ∷ ns) s some len head = absurd (omega (arith, len))
  own_number (t ∷ ts) (n ∷ ns) s some len head = (n, ap (λ b. if b then Some n else beside s ts ns) (eq-eqb t s head))

  -- its namespace is there still
  pub stays : (i : ℕ) (v : Identifier) → identifier_at c i ≡ Some v → namespace_at c v.space ≡ namespace_at b v.space
  unfolding taken_in
  stays i v e =
      let h = was i v e in
      let f = full i h.0 h.1 in
      let some : 0 < length v.numbers = subst (λ (ns : List ℕ). 0 < length ns) h.3 f.0 in
      let len : length v.numbers ≡ length (path_at b v.space) = sym (ap length h.3) ∙ f.1 ∙ ap (λ s. length (path_at b s)) h.2 in
      let n = own_number (path_at b v.space) v.numbers v.space some len (own v.space (omega (arith, len, some))) in
      l.namespaces v.space ∙ alive (record b { names = c.names }) v.space n.0 (ap (number_in (path_at b) v.space) e ∙ n.1) (namespace_at b v.space) refl
    where
      alive : (x : Numbering) (s n : ℕ) → number_in (path_at x) s (identifier_at x i) ≡ Some n → (o : Option Namespace) → namespace_at x s ≡ o → swept_at x s ≡ o
      alive x s n has None is = ap (option_and_then (λ t. if is_deserted x s t then None else Some t)) is
      alive x s n has (Some t) is =
          let some = some_taken (number_in (path_at x) s) None refl x.names i n has in
          let some' : 0 < length (taken_in x s) = some in
          let off : (length (taken_in x s) == 0) ≡ false = grind (arith, some') in
          ap (option_and_then (λ t. if is_deserted x s t then None else Some t)) is ∙ ap (λ z. if t.fallen && z then None else Some t) off ∙ none t.fallen
        where
          none : (f : Bool) → (if f && false then None else Some t) ≡ Some t
          none true = refl
          none false = refl

  -- who is left has the numbers that it had
  pub number-less : (i : ℕ) (v : Identifier) → identifier_at c i ≡ Some v → (s : ℕ) → number_of c i s ≡ number_of b i s
  number-less i v e s =
      let h = was i v e in
      let path : path_at c v.space ≡ path_at b v.space = ap (λ o. option_map_or (λ t. t.path) o []) (stays i v e) in
      ap (number_in (path_at c) s) e ∙ ap (λ p. beside s p v.numbers) path ∙ ap (λ p. beside s (path_at b p) v.numbers) (sym h.2) ∙ ap (beside s (path_at b h.0.space)) (sym h.3)
      ∙ sym (ap (number_in (path_at b) s) h.1)

-- who has a use is there
pub used : (c : Numbering) (kind : Kind) (i : ℕ) → 0 < uses_at c kind i → (v : Identifier) × (identifier_at c i ≡ Some v)
used c kind i some = go (identifier_at c i) refl
  where
    go : (o : Option Identifier) → identifier_at c i ≡ o → (v : Identifier) × (identifier_at c i ≡ Some v)
    go None e = absurd (let z : uses_at c kind i ≡ 0 = ap (λ o. option_map_or (uses kind) o 0) e in omega (arith, z, some))
    go (Some v) e = (v, e)

-- each child that has ended waits by its number in its parent's namespace
abbrev pub AreRanks : Numbering → TreeOfTasks → Type 0
AreRanks b tree = (k p r : ℕ) → rank_of tree k ≡ Some (p, r) → (u : Identifier) → identifier_at b p ≡ Some u → number_of b k u.space ≡ Some r

-- only a task has a rank
pub ranked_task : (tree : TreeOfTasks) (k : ℕ) (m : ℕ × ℕ) → option_map (λ (m : ℕ × ℕ). m.0) (rank_of tree k) ≡ waits_for (task_at tree k) (parent_of tree k) → rank_of tree k ≡ Some m → is_some (task_at tree k) ≡ true
ranked_task tree k m waiting e = go (task_at tree k) (sym (ap (option_map (λ (m : ℕ × ℕ). m.0)) e) ∙ waiting)
  where
    go : (o : Option Task) → Some m.0 ≡ waits_for o (parent_of tree k) → is_some o ≡ true
    go None z = absurd (cc)
    go (Some t) z = refl

module _ (b : Numbering)
    (full : (i : ℕ) (u : Identifier) → identifier_at b i ≡ Some u → (0 < length u.numbers) × (length u.numbers ≡ length (path_at b u.space)))
    (own : (s : ℕ) → 0 < length (path_at b s) → slice_index_or (path_at b s) 0 0 ≡ s) (c : Numbering) (l : IsLess b c) where
  -- as long as each task's identifier is left, no rank changes
  pub ranks-less : (tree : TreeOfTasks) → ((k : ℕ) → option_map (λ (m : ℕ × ℕ). m.0) (rank_of tree k) ≡ waits_for (task_at tree k) (parent_of tree k))
      → ((k : ℕ) → is_some (task_at tree k) ≡ true → 0 < uses_at c AsTask k) → AreRanks b tree → AreRanks c tree
  ranks-less tree waiting left ranks k p r e u is =
      let v = used c AsTask k (left k (ranked_task tree k (p, r) (waiting k) e)) in
      let w = was b full own c l p u is in
      number-less b full own c l k v.0 v.1 u.space ∙ ap (number_of b k) (sym w.2) ∙ ranks k p r e w.0 w.1

-- a test that lets through less is all that counts
filter-twice : {X : Type 0} (p q : X → Bool) → ((x : X) → p x ≡ true → q x ≡ true) → (xs : List X) → filter p (filter q xs) ≡ filter p xs
filter-twice p q less [] = refl
filter-twice p q less (x ∷ xs) = go (q x) refl (p x) refl (filter-twice p q less xs)
  where
    go : (a : Bool) → q x ≡ a → (b : Bool) → p x ≡ b → filter p (filter q xs) ≡ filter p xs → filter p (if a then x ∷ filter q xs else filter q xs) ≡ (if b then x ∷ filter p xs else filter p xs)
    go true qe true pe rest = ap (λ z. if z then x ∷ filter p (filter q xs) else filter p (filter q xs)) pe ∙ ap (λ l. x ∷ l) rest
    go true qe false pe rest = ap (λ z. if z then x ∷ filter p (filter q xs) else filter p (filter q xs)) pe ∙ rest
    go false qe true pe rest = absurd (let z = sym qe ∙ less x pe in cc)
    go false qe false pe rest = rest

module _ {X : Type 0} (f g : X → Option ℕ) (d : X) where
  same_taken : (xs : List X) → ((i : ℕ) → f (get_or xs i d) ≡ g (get_or xs i d)) → filter_map f xs ≡ filter_map g xs
  same_taken [] each = refl
  same_taken (x ∷ xs) each = ap (λ o. cons_option o (filter_map f xs)) (each 0) ∙ ap (cons_option (g x)) (same_taken xs (λ i. each (suc i)))

module _ (a : Numbering)
    (full : (i : ℕ) (u : Identifier) → identifier_at a i ≡ Some u → (0 < length u.numbers) × (length u.numbers ≡ length (path_at a u.space)))
    (own : (s : ℕ) → 0 < length (path_at a s) → slice_index_or (path_at a s) 0 0 ≡ s) (b c : Numbering) (first : IsLess a b) (second : IsLess b c) where
  -- what two uses leave
  pub IsLess-trans : IsLess a c
  unfolding taken_in
  IsLess-trans = record {
    names = λ i u e. first.names i u (second.names i u e);
    namespaces = λ s. go s (namespace_at a s) refl;
    order = second.order ∙ ap (filter (λ p. is_there c p.1)) first.order ∙ filter-twice (λ p. is_there c p.1) (λ p. is_there b p.1) (λ p on. was_there p.1 on) a.order;
    bound = second.bound ∙ first.bound;
  }
    where
      -- what is there at last was there before
      was_there : (s : ℕ) → is_there c s ≡ true → is_there b s ≡ true
      was_there s on = step (namespace_at b s) refl (sym (ap is_some (second.namespaces s)) ∙ on)
        where
          step : (o : Option Namespace) → namespace_at b s ≡ o → is_some (swept_at (record b { names = c.names }) s) ≡ true → is_there b s ≡ true
          step None e on = absurd (let z : false ≡ true = sym (ap is_some (ap (option_and_then (λ t. if is_deserted (record b { names = c.names }) s t then None else Some t)) e)) ∙ on in cc)
          step (Some t) e on = ap is_some e

      -- who is left at last was left before, with the same numbers
      before : (i : ℕ) (v : Identifier) → identifier_at c i ≡ Some v → (u : Identifier) × (identifier_at b i ≡ Some u) × (u.space ≡ v.space) × (u.numbers ≡ v.numbers)
      before i v e = step (identifier_at b i) refl (second.names i (bare v) (ap (option_map bare) e))
        where
          step : (o : Option Identifier) → identifier_at b i ≡ o → option_map bare o ≡ Some (bare v) → (u : Identifier) × (identifier_at b i ≡ Some u) × (u.space ≡ v.space) × (u.numbers ≡ v.numbers)
          step None is z = absurd (cc)
          step (Some u) is z =
              let same : bare u ≡ bare v = ap (λ o. option_map_or (λ x. x) o (bare u)) z in
              (u, is, ap (λ (x : Identifier). x.space) same, ap (λ (x : Identifier). x.numbers) same)

      untaken : (s : ℕ) → ((i : ℕ) → number_in (path_at a) s (identifier_at b i) ≡ None) → (i : ℕ) → number_in (path_at a) s (identifier_at c i) ≡ None
      untaken s none i = step (identifier_at c i) refl
        where
          step : (o : Option Identifier) → identifier_at c i ≡ o → number_in (path_at a) s o ≡ None
          step None is = refl
          step (Some v) is =
              let u = before i v is in
              ap (λ p. beside s (path_at a p) v.numbers) (sym u.2) ∙ ap (beside s (path_at a u.0.space)) (sym u.3) ∙ sym (ap (number_in (path_at a) s) u.1) ∙ none i

      alike : (s i : ℕ) → number_in (path_at b) s (identifier_at c i) ≡ number_in (path_at a) s (identifier_at c i)
      alike s i = step (identifier_at c i) refl
        where
          step : (o : Option Identifier) → identifier_at c i ≡ o → number_in (path_at b) s o ≡ number_in (path_at a) s o
          step None is = refl
          step (Some v) is =
              let u = before i v is in
              let path : path_at b u.0.space ≡ path_at a u.0.space = ap (λ o. option_map_or (λ t. t.path) o []) (stays a full own b first i u.0 u.1) in
              ap (λ p. beside s (path_at b p) v.numbers) (sym u.2) ∙ ap (λ p. beside s p v.numbers) path ∙ ap (λ p. beside s (path_at a p) v.numbers) u.2

      taken_by : List ℕ → Bool
      taken_by ns = length ns == 0

      go : (s : ℕ) (o : Option Namespace) → namespace_at a s ≡ o → namespace_at c s ≡ swept_at (record a { names = c.names }) s
      go s None is =
          let gone : namespace_at b s ≡ None = first.namespaces s ∙ ap (option_and_then (λ t. if is_deserted (record a { names = b.names }) s t then None else Some t)) is in
          second.namespaces s ∙ ap (option_and_then (λ t. if is_deserted (record b { names = c.names }) s t then None else Some t)) gone
          ∙ sym (ap (option_and_then (λ t. if is_deserted (record a { names = c.names }) s t then None else Some t)) is)
      go s (Some t) is = split t.fallen refl (length (filter_map (number_in (path_at a) s) b.names) == 0) refl
        where
          at_b : namespace_at b s ≡ (if t.fallen && (length (filter_map (number_in (path_at a) s) b.names) == 0) then None else Some t)
          at_b = first.namespaces s ∙ ap (option_and_then (λ t. if is_deserted (record a { names = b.names }) s t then None else Some t)) is

          wanted : swept_at (record a { names = c.names }) s ≡ (if t.fallen && (length (filter_map (number_in (path_at a) s) c.names) == 0) then None else Some t)
          wanted = ap (option_and_then (λ t. if is_deserted (record a { names = c.names }) s t then None else Some t)) is

          at_c : (o : Option Namespace) → namespace_at b s ≡ o → namespace_at c s ≡ option_and_then (λ t. if t.fallen && (length (filter_map (number_in (path_at b) s) c.names) == 0) then None else Some t) o
          at_c o e = second.namespaces s ∙ ap (option_and_then (λ t. if is_deserted (record b { names = c.names }) s t then None else Some t)) e

          same : (length (filter_map (number_in (path_at b) s) c.names) == 0) ≡ (length (filter_map (number_in (path_at a) s) c.names) == 0)
          same = ap taken_by (same_taken (number_in (path_at b) s) (number_in (path_at a) s) None c.names (alike s))

          split : (f : Bool) → t.fallen ≡ f → (d : Bool) → (length (filter_map (number_in (path_at a) s) b.names) == 0) ≡ d → namespace_at c s ≡ swept_at (record a { names = c.names }) s
          split false fell d e =
              let b_has : namespace_at b s ≡ Some t = at_b ∙ ap (λ f. if f && (length (filter_map (number_in (path_at a) s) b.names) == 0) then None else Some t) fell in
              at_c (Some t) b_has ∙ ap (λ f. if f && (length (filter_map (number_in (path_at b) s) c.names) == 0) then None else Some t) fell
              ∙ sym (wanted ∙ ap (λ f. if f && (length (filter_map (number_in (path_at a) s) c.names) == 0) then None else Some t) fell)
          split true fell false e =
              let b_has : namespace_at b s ≡ Some t = at_b ∙ ap (λ f. if f && (length (filter_map (number_in (path_at a) s) b.names) == 0) then None else Some t) fell ∙ ap (λ d. if d then None else Some t) e in
              at_c (Some t) b_has ∙ ap (λ d. if t.fallen && d then None else Some t) same ∙ sym wanted
          split true fell true e =
              let b_none : namespace_at b s ≡ None = at_b ∙ ap (λ f. if f && (length (filter_map (number_in (path_at a) s) b.names) == 0) then None else Some t) fell ∙ ap (λ d. if d then None else Some t) e in
              let empty : length (filter_map (number_in (path_at a) s) b.names) ≡ 0 = eqb-true (length (filter_map (number_in (path_at a) s) b.names)) 0 e in
              let none = untaken s (none_taken (number_in (path_at a) s) None refl b.names empty) in
              let zero : (length (filter_map (number_in (path_at a) s) c.names) == 0) ≡ true = eq-eqb (length (filter_map (number_in (path_at a) s) c.names)) 0 (all_untaken (number_in (path_at a) s) None refl c.names none) in
              at_c None b_none ∙ sym (wanted ∙ ap (λ f. if f && (length (filter_map (number_in (path_at a) s) c.names) == 0) then None else Some t) fell ∙ ap (λ d. if d then None else Some t) zero)

-- one rank less
pub ranks-kept : (b : Numbering) (old new : TreeOfTasks) (key : ℕ) → rank_of new key ≡ None → ((k : ℕ) → k ≢ key → rank_of new k ≡ rank_of old k) → AreRanks b old → AreRanks b new
ranks-kept b old new key gone others ranks k p r e u is = go (cases_eq k key)
  where
    go : (k ≡ key) ⊎ (k ≢ key) → number_of b k u.space ≡ Some r
    go (inl same) = absurd (let z = sym gone ∙ sym (ap (rank_of new) same) ∙ e in cc)
    go (inr differs) = ranks k p r (sym (others k differs) ∙ e) u is
