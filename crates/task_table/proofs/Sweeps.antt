-- Identifiers that are left keep their names, and the model's sweep leaves the namespaces that are left.
use Rattle.std.proofs.Common.{◌≡◌, inl, ℕ, zero, suc, ◌<◌, Bool, true, false, not, ◌==◌, ◌&&◌, List, [], ◌∷◌, length, map, filter, get_or, cond, drop, slice_get, Option, Some, None, is_some, if◌then◌else◌, refl, sym, ap, ◌∙◌, arith, option_map, option_and_then, unwrap_or}
use Rattle.std.specs.Prelude.{reverse, slice_index_or, filter_map}
use Rattle.std.specs.Option.{option_map_or}
use Rattle.std.specs.List.{AllByRecursion, cons_option}
use Rattle.pid_types.specs.declared.plain.Name.{Name}
use Rattle.pid_types.specs.Membership.{IsIn}
use Rattle.pid_types.specs.State.{State, root_name}
use Rattle.pid_types.specs.Names.{beside, in_use, number, taken}
use Rattle.pid_types.specs.Outcome.{is_dead as is_dead_in}
use Rattle.model_laws.proofs.Lists.{IsIn-filter_map, IsIn-from_filter_map}
use Rattle.pid_numbers.specs.Numbering.{Numbering, Namespace, Identifier, namespace_at, id_at, identifier_at, number_in, path_at, taken_in, is_deserted, is_there}
use Rattle.task_table.specs.Store.{Store, IsLess}
use Rattle.task_table.proofs.Less.{was, stays, some_taken}
use Rattle.task_table.specs.View.{name_of, name_at, parent_id, space_of, spaces_of}
use Rattle.task_table.specs.Lawful.{HasLaws, IsLawful}
use Rattle.task_table.proofs.Keys.{number-is_key}
use Rattle.task_table.proofs.InUse.{AreNamed}

-- who is left has the name that it had
pub name-less : (b c : Numbering) → HasLaws b → IsLess b c → (k : ℕ) (v : Identifier) → identifier_at c k ≡ Some v → name_at c k ≡ name_at b k
name-less b c h less k v e =
    let old = was b h.full h.own c less k v e in
    ap (λ o. option_map_or (name_of c) o root_name) e
    ∙ ap (λ o. named_in (unwrap_or (option_map (λ t. t.id) o) 0) v.numbers) (stays b h.full h.own c less k v e)
    ∙ ap (λ n. named_in (unwrap_or (id_at b n) 0) v.numbers) (sym old.2)
    ∙ ap (named_in (unwrap_or (id_at b old.0.space) 0)) (sym old.3)
    ∙ sym (ap (λ o. option_map_or (name_of b) o root_name) old.1)
  where
    named_in : ℕ → List ℕ → Name
    named_in space numbers = record { space = space; numbers = record { items = reverse numbers } }

one_listed : (f : Option Identifier → Option ℕ) (xs : List (Option Identifier)) → 0 < length (filter_map f xs) → (i : ℕ) × (n : ℕ) × (f (get_or xs i None) ≡ Some n)
one_listed f [] some = absurd (omega (arith, some))
one_listed f (x ∷ xs) some = go (f x) refl (λ h. one_listed f xs h) some
  where
    go : (o : Option ℕ) → f x ≡ o → (0 < length (filter_map f xs) → (i : ℕ) × (n : ℕ) × (f (get_or xs i None) ≡ Some n)) → 0 < length (cons_option o (filter_map f xs))
        → (i : ℕ) × (n : ℕ) × (f (get_or (x ∷ xs) i None) ≡ Some n)
    go None is again some = let r = again some in (suc r.0, r.1, r.2)
    go (Some n) is again some = (zero, n, is)

first_in : (ns : List ℕ) → 0 < length ns → (n : ℕ) × IsIn n ns
first_in [] some = absurd (omega (arith, some))
first_in (n ∷ ns) some = (n, inl refl)

in_some : (n : ℕ) (ns : List ℕ) → IsIn n ns → 0 < length ns
in_some n [] i = absurd i
in_some n (m ∷ ns) i = omega arith

same_zero : (a b : ℕ) → (0 < a → 0 < b) → (0 < b → 0 < a) → (a == 0) ≡ (b == 0)
same_zero zero zero f g = refl
same_zero zero (suc b) f g = absurd (let h = g (omega arith) in omega (arith, h))
same_zero (suc a) zero f g = absurd (let h = f (omega arith) in omega (arith, h))
same_zero (suc a) (suc b) f g = (let x : (suc a == 0) ≡ false = grind (arith) in x) ∙ sym (let y : (suc b == 0) ≡ false = grind (arith) in y)

-- a state whose names in use are those of the identifiers that are left, and whose namespaces are those before any went
module _ (m : Numbering) (h : HasLaws m) (s' : Store) (l' : IsLawful s') (less : IsLess m s'.numbering) (state : State) (named : AreNamed s' state) (spaces : state.spaces ≡ spaces_of m) where
  abbrev c : Numbering
  c = s'.numbering

  number_left : (k : ℕ) (v : Identifier) (s i : ℕ) → id_at m s ≡ Some i → identifier_at c k ≡ Some v → number state.spaces (name_at c k) i ≡ number_in (path_at m) s (identifier_at c k)
  number_left k v s i at e =
      let old = was m h.full h.own c less k v e in
      ap (λ l. number l (name_at c k) i) spaces
      ∙ ap (λ n. number (spaces_of m) n i) (name-less m c h less k v e)
      ∙ number-is_key m h s i k old.0 at old.1
      ∙ ap (number_in (path_at m) s) old.1
      ∙ ap (λ q. beside s (path_at m q) old.0.numbers) old.2 ∙ ap (beside s (path_at m v.space)) old.3
      ∙ sym (ap (number_in (path_at m) s) e)

  there_left : (s k n : ℕ) → number_in (path_at m) s (identifier_at c k) ≡ Some n → (v : Identifier) × (identifier_at c k ≡ Some v)
  there_left s k n e = go (identifier_at c k) refl
    where
      go : (o : Option Identifier) → identifier_at c k ≡ o → (v : Identifier) × (identifier_at c k ≡ Some v)
      go None is = absurd (let z : None ≡ Some n = sym (ap (number_in (path_at m) s) is) ∙ e in cc)
      go (Some v) is = (v, is)

  taken_left : (s i : ℕ) → id_at m s ≡ Some i → (length (taken state i) == 0) ≡ (length (taken_in (record m { names = c.names }) s) == 0)
  unfolding taken taken_in
  taken_left s i at = same_zero (length (filter_map (λ name. number state.spaces name i) (in_use state))) (length (filter_map (number_in (path_at m) s) c.names))
      (λ some.
      let n = first_in (filter_map (λ name. number state.spaces name i) (in_use state)) some in
      let a = IsIn-from_filter_map (λ name. number state.spaces name i) n.0 (in_use state) n.1 in
      let k = named.from a.0 a.1 in
      some_taken (number_in (path_at m) s) None refl c.names k.0 n.0 (sym (number_left k.0 k.1 s i at k.2) ∙ ap (λ x. number state.spaces x i) (sym k.3) ∙ a.2))
      (λ some.
      let k = one_listed (number_in (path_at m) s) c.names some in
      let v = there_left s k.0 k.1 k.2 in
      in_some k.1 (filter_map (λ name. number state.spaces name i) (in_use state))
      (IsIn-filter_map (λ name. number state.spaces name i) (name_at c k.0) k.1 (in_use state)
      (named.to k.0 v.0 v.1)
      (number_left k.0 v.0 s i at v.1 ∙ k.2)))

  -- what is dead in the model goes
  there_if : (p : ℕ × ℕ) → id_at m p.1 ≡ Some p.0 → is_there c p.1 ≡ not (is_dead_in state (space_of m p))
  there_if p at = go (namespace_at m p.1) refl
    where
      go : (o : Option Namespace) → namespace_at m p.1 ≡ o → is_there c p.1 ≡ not (is_dead_in state (space_of m p))
      go None is = absurd (let z : None ≡ Some p.0 = sym (ap (option_map (λ t. t.id)) is) ∙ at in cc)
      go (Some t) is =
          ap is_some (less.namespaces p.1 ∙ ap (option_and_then (λ t. if is_deserted (record m { names = c.names }) p.1 t then None else Some t)) is)
          ∙ test (is_deserted (record m { names = c.names }) p.1 t)
          ∙ ap (λ z. not (t.fallen && z)) (sym (taken_left p.1 p.0 at))
          ∙ ap (λ z. not (z && (length (taken state p.0) == 0))) (sym (ap (λ o. option_map_or (λ t. t.fallen) o false) is))
        where
          test : (b : Bool) → is_some (if b then None else Some t) ≡ not b
          test true = refl
          test false = refl

  -- and what is left is what it was
  left_at : (s : ℕ) → is_there c s ≡ true → namespace_at c s ≡ namespace_at m s
  left_at s there = go (namespace_at m s) refl there
    where
      go : (o : Option Namespace) → namespace_at m s ≡ o → is_there c s ≡ true → namespace_at c s ≡ namespace_at m s
      go None is there = less.namespaces s ∙ ap (option_and_then (λ t. if is_deserted (record m { names = c.names }) s t then None else Some t)) is ∙ sym is
      go (Some t) is there = test (is_deserted (record m { names = c.names }) s t) refl
        where
          swept : namespace_at c s ≡ (if is_deserted (record m { names = c.names }) s t then None else Some t)
          swept = less.namespaces s ∙ ap (option_and_then (λ t. if is_deserted (record m { names = c.names }) s t then None else Some t)) is

          test : (b : Bool) → is_deserted (record m { names = c.names }) s t ≡ b → namespace_at c s ≡ namespace_at m s
          test true e = absurd (let z : false ≡ true = sym (ap is_some (swept ∙ ap (λ b. if b then None else Some t) e)) ∙ there in cc)
          test false e = swept ∙ ap (λ b. if b then None else Some t) e ∙ sym is

  path_left : (s : ℕ) → is_there c s ≡ true → path_at c s ≡ path_at m s
  path_left s there = ap (λ o. option_map_or (λ t. t.path) o []) (left_at s there)

  space_left : (p : ℕ × ℕ) → is_there c p.1 ≡ true → space_of c p ≡ space_of m p
  space_left p there =
      let here = left_at p.1 there in
      (λ i. record { id = p.0; parent = parent i; cursor = option_map_or (λ t. t.cursor) (here i) 0; fallen = option_map_or (λ t. t.fallen) (here i) false })
    where
      up : (path : List ℕ) → path_at m p.1 ≡ path → path_at c p.1 ≡ path → option_and_then (id_at c) (slice_get path 1) ≡ option_and_then (id_at m) (slice_get path 1)
      up [] e f = refl
      up (t ∷ []) e f = refl
      up (t ∷ q ∷ qs) e f =
          let len : 1 < length (path_at c p.1) = rw f (omega arith) in
          let path : path_at c q ≡ q ∷ qs = ap (λ r. path_at c (slice_index_or r 1 0)) (sym f) ∙ l'.numbering.around p.1 1 len ∙ ap (drop 1) f in
          ap (option_map (λ t. t.id)) (left_at q (standing (namespace_at c q) path))
        where
          standing : (o : Option Namespace) → option_map_or (λ t. t.path) o [] ≡ q ∷ qs → is_some o ≡ true
          standing None e = absurd (cc)
          standing (Some t) e = refl

      parent : parent_id c p.1 ≡ parent_id m p.1
      parent = ap (λ r. option_and_then (id_at c) (slice_get r 1)) (path_left p.1 there) ∙ up (path_at m p.1) refl (path_left p.1 there)

  -- the model's sweep leaves the namespaces that are left
  pub spaces-swept : filter (λ x. not (is_dead_in state x)) state.spaces ≡ spaces_of c
  spaces-swept = ap (filter (λ x. not (is_dead_in state x))) spaces ∙ from m.order h.each ∙ sym (ap (map (space_of c)) less.order)
    where
      from : (ps : List (ℕ × ℕ)) → AllByRecursion (λ p. id_at m p.1 ≡ Some p.0) ps → filter (λ x. not (is_dead_in state x)) (map (space_of m) ps) ≡ map (space_of c) (filter (λ p. is_there c p.1) ps)
      from [] all = refl
      from (p ∷ ps) all = go (is_there c p.1) refl (from ps all.1)
        where
          go : (b : Bool) → is_there c p.1 ≡ b → filter (λ x. not (is_dead_in state x)) (map (space_of m) ps) ≡ map (space_of c) (filter (λ p. is_there c p.1) ps)
              → filter (λ x. not (is_dead_in state x)) (space_of m p ∷ map (space_of m) ps) ≡ map (space_of c) (cond (is_there c p.1) (p ∷ filter (λ p. is_there c p.1) ps) (filter (λ p. is_there c p.1) ps))
          go true is again =
              ap (λ b. cond b (space_of m p ∷ filter (λ x. not (is_dead_in state x)) (map (space_of m) ps)) (filter (λ x. not (is_dead_in state x)) (map (space_of m) ps))) (sym (there_if p all.0) ∙ is)
              ∙ ap (λ x. x ∷ filter (λ x. not (is_dead_in state x)) (map (space_of m) ps)) (sym (space_left p is)) ∙ ap (λ xs. space_of c p ∷ xs) again
              ∙ sym (ap (λ b. map (space_of c) (cond b (p ∷ filter (λ p. is_there c p.1) ps) (filter (λ p. is_there c p.1) ps))) is)
          go false is again =
              ap (λ b. cond b (space_of m p ∷ filter (λ x. not (is_dead_in state x)) (map (space_of m) ps)) (filter (λ x. not (is_dead_in state x)) (map (space_of m) ps))) (sym (there_if p all.0) ∙ is)
              ∙ again
              ∙ sym (ap (λ b. map (space_of c) (cond b (p ∷ filter (λ p. is_there c p.1) ps) (filter (λ p. is_there c p.1) ps))) is)
