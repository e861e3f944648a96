-- The cursors behind the numbers that a fork drew.
use Rattle.std.proofs.Common.{◌≡◌, ◌≢◌, ◌⊎◌, inl, inr, ℕ, ◌+◌, ◌<◌, Bool, true, false, ◌==◌, ◌||◌, List, [], ◌∷◌, length, map, drop, slice_get, Option, Some, None, if◌then◌else◌, refl, sym, ap, ◌∙◌, arith, option_map, option_and_then, unwrap_or}
use Rattle.std.specs.Prelude.{slice_index_or}
use Rattle.std.specs.Option.{option_map_or}
use Rattle.std.specs.List.{AllByRecursion}
use Rattle.std.proofs.lemmas.Bool.{cases_eq, eq-eqb}
use Rattle.pid_types.proofs.General.{apart}
use Rattle.pid_types.specs.declared.plain.Space.{Space}
use Rattle.pid_types.specs.Chains.{contains}
use Rattle.pid_types.specs.State.{State}
use Rattle.pid_types.specs.Names.{number, path_up, space_at}
use Rattle.pid_types.specs.Fork.{drawn, moved_cursor, with_cursors}
use Rattle.pid_numbers.specs.Numbering.{Numbering, Namespace, namespace_at, id_at, path_at, has_fallen_at, draw_in, moved}
use Rattle.task_table.specs.Store.{Store, HasNoThreads}
use Rattle.task_table.specs.View.{name_at, parent_id, space_of, spaces_of, state_of}
use Rattle.task_table.specs.Lawful.{HasLaws, IsLawful}
use Rattle.task_table.proofs.Keys.{id_for, own_id, only, on_path, path-is, space_at-key, number-is_key}
use Rattle.fork_calls.proofs.Draws.{IsPlanned, draw-key, map-draws, beside-map}
use Rattle.task_table.proofs.InUse.{AreNamed, named-alone}
use Rattle.task_table.proofs.Newborn.{KeepsNamespaces}

-- a state with a store's names, namespaces and bound is planned so
pub IsPlanned-in : (s : Store) → IsLawful s → (state : State) → AreNamed s state → state.spaces ≡ spaces_of s.numbering → state.pid_max ≡ s.numbering.pid_max → IsPlanned s state
IsPlanned-in s l state named spaces bound = record {
  named = named;
  bound = bound;
  numbers = λ k sp i u at e. ap (λ x. number x (name_at s.numbering k) i) spaces ∙ number-is_key s.numbering l.numbering sp i k u e at;
  cursors = λ sp i t at e.
      ap (λ x. unwrap_or (option_map (λ (y : Space). y.cursor) (space_at x i)) 0) spaces
      ∙ ap (λ o. unwrap_or (option_map (λ (x : Space). x.cursor) o) 0) (space_at-key s.numbering l.numbering sp i e) ∙ ap (λ o. option_map_or (λ t. t.cursor) o 0) at;
}

-- so is the own state of a store without threads
pub IsPlanned-own : (s : Store) → IsLawful s → HasNoThreads s.threads → IsPlanned s (state_of s)
IsPlanned-own s l alone = IsPlanned-in s l (state_of s) (named-alone s l alone (state_of s) refl refl) refl refl

-- what it draws along the path of a namespace is what its namespaces give
pub drew-in : (s : Store) (l : IsLawful s) (state : State) → IsPlanned s state → (space t : ℕ) → id_at s.numbering space ≡ Some t
    → map (λ q. unwrap_or (draw_in s.numbering q) 0) (path_at s.numbering space) ≡ map (drawn state) (path_up (spaces_of s.numbering) t)
drew-in s l state p space t id =
    sym (ap (map (drawn state)) (path-is s.numbering l.numbering space t 0 id (l.numbering.some space t id)) ∙ map-draws s l state p 0 space)

pub drew-own : (s : Store) (l : IsLawful s) → HasNoThreads s.threads → (space t : ℕ) → id_at s.numbering space ≡ Some t
    → map (λ q. unwrap_or (draw_in s.numbering q) 0) (path_at s.numbering space) ≡ map (drawn (state_of s)) (path_up (spaces_of s.numbering) t)
drew-own s l alone = drew-in s l (state_of s) (IsPlanned-own s l alone)

module _ (b : Numbering) (h : HasLaws b) where
  -- whether an id is on a path is whether its key is
  pub contains-ids : (i q : ℕ) → id_at b q ≡ Some i → (path : List ℕ) → contains (map (id_for b h i) path) i ≡ contains path q
  contains-ids i q e [] = refl
  contains-ids i q e (t ∷ ts) = go (cases_eq t q) (contains-ids i q e ts)
    where
      go : (t ≡ q) ⊎ (t ≢ q) → contains (map (id_for b h i) ts) i ≡ contains ts q → ((id_for b h i t == i) || contains (map (id_for b h i) ts) i) ≡ ((t == q) || contains ts q)
      go (inl same) again = rw (eq-eqb (id_for b h i t) i (ap (id_for b h i) same ∙ own_id b h q i e i), eq-eqb t q same) refl
      go (inr m) again = rw (apart (id_for b h i t) i (λ f. m (only b h q i e t (f ∙ sym (own_id b h q i e i)))), apart t q m) again

module _ (b c : Numbering) (h : HasLaws b) (keeps : KeepsNamespaces b c) (planned : State) (path ids : List ℕ) (f : ℕ → ℕ) where
  -- a namespace with its cursor behind what it gave
  pub space-moved : (p : ℕ × ℕ) → id_at b p.1 ≡ Some p.0 → namespace_at c p.1 ≡ option_map (moved path (map f path) p.1) (namespace_at b p.1) → contains ids p.0 ≡ contains path p.1
      → (contains path p.1 ≡ true → drawn planned p.0 ≡ f p.1) → moved_cursor planned ids (space_of b p) ≡ space_of c p
  space-moved p at now on drew = go (namespace_at b p.1) refl
    where
      go : (o : Option Namespace) → namespace_at b p.1 ≡ o → moved_cursor planned ids (space_of b p) ≡ space_of c p
      go None is = absurd (let z : None ≡ Some p.0 = sym (ap (option_map (λ t. t.id)) is) ∙ at in cc)
      go (Some t) is = λ i. record { id = p.0; parent = parent i; cursor = cursor i; fallen = fallen i }
        where
          after : namespace_at c p.1 ≡ Some (moved path (map f path) p.1 t)
          after = now ∙ ap (option_map (moved path (map f path) p.1)) is

          fallen : has_fallen_at b p.1 ≡ has_fallen_at c p.1
          fallen = ap (λ o. option_map_or (λ t. t.fallen) o false) is ∙ sym (ap (λ o. option_map_or (λ t. t.fallen) o false) after)

          up : (q : List ℕ) → path_at b p.1 ≡ q → option_and_then (id_at b) (slice_get q 1) ≡ option_and_then (id_at c) (slice_get q 1)
          up [] e = refl
          up (x ∷ []) e = refl
          up (x ∷ y ∷ ys) e =
              let len : 1 < length (path_at b p.1) = rw e (omega arith) in
              let n = on_path b h y y ys (ap (λ r. path_at b (slice_index_or r 1 0)) (sym e) ∙ h.around p.1 1 len ∙ ap (drop 1) e) in
              sym (keeps y n.0 n.1).0

          parent : parent_id b p.1 ≡ parent_id c p.1
          parent = up (path_at b p.1) refl ∙ ap (λ r. option_and_then (id_at c) (slice_get r 1)) (sym (keeps p.1 t is).1)

          test : (g : Bool) → contains path p.1 ≡ g → (if g then drawn planned p.0 + 1 else t.cursor) ≡ option_map_or (λ n. n + 1) (if g then Some (f p.1) else None) t.cursor
          test true e = ap (λ n. n + 1) (drew e)
          test false e = refl

          cursor : (if contains ids p.0 then drawn planned p.0 + 1 else option_map_or (λ t. t.cursor) (namespace_at b p.1) 0) ≡ option_map_or (λ t. t.cursor) (namespace_at c p.1) 0
          cursor =
              ap (λ g. if g then drawn planned p.0 + 1 else option_map_or (λ t. t.cursor) (namespace_at b p.1) 0) on
              ∙ ap (λ o. if contains path p.1 then drawn planned p.0 + 1 else option_map_or (λ t. t.cursor) o 0) is
              ∙ test (contains path p.1) refl
              ∙ ap (λ o. option_map_or (λ n. n + 1) o t.cursor) (sym (beside-map f p.1 path))
              ∙ sym (ap (λ o. option_map_or (λ t. t.cursor) o 0) after)

-- where cursors alone move, namespaces have the ids and the paths that they had
pub keeps-moved : (b c : Numbering) (path numbers : List ℕ) → ((q : ℕ) → namespace_at c q ≡ option_map (moved path numbers q) (namespace_at b q)) → KeepsNamespaces b c
keeps-moved b c path numbers now q n e =
    let z = now q ∙ ap (option_map (moved path numbers q)) e in
    (ap (option_map (λ t. t.id)) z ∙ sym (ap (option_map (λ t. t.id)) e), ap (λ o. option_map_or (λ t. t.path) o []) z ∙ sym (ap (λ o. option_map_or (λ t. t.path) o []) e))

pub id-kept : (b c : Numbering) → KeepsNamespaces b c → (q i : ℕ) → id_at b q ≡ Some i → id_at c q ≡ Some i
id-kept b c keeps q i e = go (namespace_at b q) refl e
  where
    go : (o : Option Namespace) → namespace_at b q ≡ o → option_map (λ t. t.id) o ≡ Some i → id_at c q ≡ Some i
    go None is e = absurd (cc)
    go (Some n) is e = (keeps q n is).0 ∙ ap (option_map (λ t. t.id)) is ∙ e

-- what a store's namespaces give along a path
abbrev pub gives : Numbering → ℕ → ℕ
gives b q = unwrap_or (draw_in b q) 0

-- the namespaces after a fork into one of them
pub spaces-moved-in : (s : Store) (l : IsLawful s) (state : State) → IsPlanned s state → state.spaces ≡ spaces_of s.numbering → (c : Numbering) → KeepsNamespaces s.numbering c
    → (sp t : ℕ) → id_at s.numbering sp ≡ Some t → 0 < length (path_at s.numbering sp)
    → c.order ≡ s.numbering.order → ((q : ℕ) → namespace_at c q ≡ option_map (moved (path_at s.numbering sp) (map (gives s.numbering) (path_at s.numbering sp)) q) (namespace_at s.numbering q))
    → with_cursors state (path_up (spaces_of s.numbering) t) ≡ spaces_of c
unfolding with_cursors drawn
spaces-moved-in s l state p spaces c keeps sp t e some order now =
    ap (map (moved_cursor state (path_up (spaces_of s.numbering) t))) spaces ∙ from s.numbering.order l.numbering.each ∙ sym (ap (map (space_of c)) order)
  where
    one : (q : ℕ × ℕ) → id_at s.numbering q.1 ≡ Some q.0 → moved_cursor state (path_up (spaces_of s.numbering) t) (space_of s.numbering q) ≡ space_of c q
    one q at = space-moved s.numbering c l.numbering keeps state (path_at s.numbering sp) (path_up (spaces_of s.numbering) t) (gives s.numbering) q at (now q.1)
        (ap (λ ids. contains ids q.0) (path-is s.numbering l.numbering sp t q.0 e some) ∙ contains-ids s.numbering l.numbering q.0 q.1 at (path_at s.numbering sp))
        (λ on. ap (λ o. unwrap_or o 0) (draw-key s l state p q.1 q.0 at))

    from : (ps : List (ℕ × ℕ)) → AllByRecursion (λ p. id_at s.numbering p.1 ≡ Some p.0) ps
        → map (moved_cursor state (path_up (spaces_of s.numbering) t)) (map (space_of s.numbering) ps) ≡ map (space_of c) ps
    from [] all = refl
    from (q ∷ qs) all = λ i. one q all.0 i ∷ from qs all.1 i

pub spaces-moved : (s : Store) (l : IsLawful s) → HasNoThreads s.threads → (c : Numbering) → KeepsNamespaces s.numbering c → (sp t : ℕ) → id_at s.numbering sp ≡ Some t → 0 < length (path_at s.numbering sp)
    → c.order ≡ s.numbering.order → ((q : ℕ) → namespace_at c q ≡ option_map (moved (path_at s.numbering sp) (map (gives s.numbering) (path_at s.numbering sp)) q) (namespace_at s.numbering q))
    → with_cursors (state_of s) (path_up (spaces_of s.numbering) t) ≡ spaces_of c
spaces-moved s l alone = spaces-moved-in s l (state_of s) (IsPlanned-own s l alone) refl
