-- A namespace's own list of its tasks is read off what it sees.
use Rattle.std.proofs.Common.{◌≡◌, ℕ, ◌+◌, ◌<◌, ◌==◌, true, nat_lt, List, [], ◌∷◌, ◌++◌, length, map, filter, Option, Some, None, is_some, unwrap_or, refl, sym, ap, subst, ◌∙◌, arith}
use Rattle.std.proofs.Math.ListN.{length-drop}
use Rattle.std.proofs.lemmas.Bool.{eq-eqb, ne_eqb}
use Rattle.std.proofs.lemmas.List.{length-append}
use Rattle.pid_types.specs.declared.call.Kind.TheVariants.{Task}
use Rattle.pid_types.specs.declared.plain.Row.{Row}
use Rattle.pid_types.specs.Membership.{IsIn}
use Rattle.pid_types.specs.Names.{parent_space, path_up, level, number, numbers_from}
use Rattle.pid_types.specs.Sight.{Glimpse, sight, is_seen, glimpse_of, number_by}
use Rattle.pid_types.specs.Sound.{IsWellNumbered, IsCoherent}
use Rattle.pid_types.specs.State.{State}
use Rattle.model_laws.proofs.Glimpses.{first-numbers_from}
use Rattle.model_laws.proofs.Ground.{IsIn-filter, IsIn-from_filter, IsIn-map, IsIn-from_map, number-within, own_in_use, Stops-at_root, climb_suffix, IsOnTree, IsOnTree-name, path_antisym, path_first, root_space_parent}
use Rattle.model_laws.proofs.Levels.{numbers_are_from_level}
use Rattle.model_laws.proofs.Lists.{IsIn-filter_map, IsIn-from_filter_map}
use Rattle.translate.specs.declared.members.Reach.{Reach}
use Rattle.translate.specs.declared.members.Reach.TheVariants.{Own, Subtree}
use Rattle.translate.specs.Members.{is_among, visible_numbers, glimpses_in, members_seen}
use Rattle.translate.specs.Pages.{AreLeastFrom}
use Rattle.translate.proofs.LeastFrom.{same_least}

-- what has the number above 0 is seen with it
pub seen_with : (o : Option ℕ) (m : ℕ) → o ≡ Some m → unwrap_or o 0 ≡ m
seen_with o m e = ap (λ x. unwrap_or x 0) e

pub has_seen : (o : Option ℕ) (m : ℕ) → 0 < m → unwrap_or o 0 ≡ m → o ≡ Some m
has_seen None m h e = absurd (omega (arith, h, e))
has_seen (Some x) m h e = ap Some e

module _ (state : State) (sound : IsCoherent state) (s : ℕ) where
  -- a task's name is well numbered
  well : (row : Row) → IsIn row state.rows → IsWellNumbered state.spaces state.pid_max row.name
  well row i = sound.numbered row.name (own_in_use state row i)

  on_tree : (row : Row) → IsIn row state.rows → IsOnTree state.spaces row.name.space
  on_tree row i = IsOnTree-name state.spaces state.pid_max sound.spaces row.name (well row i)

  above_zero : (row : Row) → IsIn row state.rows → (m : ℕ) → number state.spaces row.name s ≡ Some m → 0 < m
  above_zero row i m e = ((well row i).in_range m (number-within state.spaces row.name s m e).1).0

  -- how many numbers a task has from a namespace inwards
  inwards : (row : Row) → IsIn row state.rows → IsIn s (path_up state.spaces row.name.space)
      → (front : List ℕ) × (path_up state.spaces row.name.space ≡ front ++ path_up state.spaces s) × (length (numbers_from state.spaces row.name s) ≡ length front + 1)
  unfolding path_up level
  inwards row i on =
      let f : ℕ → Option ℕ = parent_space state.spaces in
      let root = root_space_parent state.spaces sound.spaces in
      let t = climb_suffix f 33 row.name.space s (Stops-at_root f 33 row.name.space root (on_tree row i)) on in
      let one_each = (well row i).one_each in
      let cut = ap length (numbers_are_from_level state.spaces row.name s root (on_tree row i) one_each on) ∙ length-drop (level state.spaces s) row.name.numbers.items in
      let long = ap length t.1 ∙ length-append t.0 (path_up state.spaces s) in
      let some = filled (path_up state.spaces s) (path_first state.spaces s) in
      (t.0, t.1, omega (arith, cut, long, some, one_each))
    where
      filled : (xs : List ℕ) → IsIn s xs → 0 < length xs
      filled [] i = absurd i
      filled (x ∷ xs) i = omega arith

  -- it has one where the namespace is its own
  pub alone : (row : Row) → IsIn row state.rows → IsIn s (path_up state.spaces row.name.space) → (length (numbers_from state.spaces row.name s) == 1) ≡ (row.name.space == s)
  alone row i on = go w.0 w.1 w.2
    where
      w : (front : List ℕ) × (path_up state.spaces row.name.space ≡ front ++ path_up state.spaces s) × (length (numbers_from state.spaces row.name s) ≡ length front + 1)
      w = inwards row i on

      go : (front : List ℕ) → path_up state.spaces row.name.space ≡ front ++ path_up state.spaces s → length (numbers_from state.spaces row.name s) ≡ length front + 1
          → (length (numbers_from state.spaces row.name s) == 1) ≡ (row.name.space == s)
      go [] path long =
          let same = path_antisym state.spaces sound.spaces row.name.space s (on_tree row i) on (subst (IsIn row.name.space) path (path_first state.spaces row.name.space)) in
          eq-eqb (length (numbers_from state.spaces row.name s)) 1 (omega (arith, long)) ∙ sym (eq-eqb row.name.space s (sym same))
      go (x ∷ front) path long =
          ne_eqb (length (numbers_from state.spaces row.name s)) 1 (λ e. omega (arith, e, long))
          ∙ sym (ne_eqb row.name.space s (λ e.
          let far = ap length path ∙ length-append (x ∷ front) (path_up state.spaces s) in
          let near = ap (λ t. length (path_up state.spaces t)) e in
          omega (arith, far, near)))

  -- whom the namespace means of those that it sees
  module _ (reach : Reach) where
    glimpse-in : (reach : Reach) (row : Row) (m : ℕ) → IsIn row state.rows → is_among state.spaces reach s row ≡ true → number state.spaces row.name s ≡ Some m
        → IsIn (glimpse_of state s row) (glimpses_in reach (sight state s))
    unfolding sight
    glimpse-in Subtree row m i among has =
        IsIn-map (glimpse_of state s) row (filter (is_seen state s) state.rows) (IsIn-filter (is_seen state s) row state.rows i (rw has refl))
    glimpse-in Own row m i among has =
        IsIn-filter (λ g. length g.numbers == 1) (glimpse_of state s row) (sight state s)
        (IsIn-map (glimpse_of state s) row (filter (is_seen state s) state.rows) (IsIn-filter (is_seen state s) row state.rows i (rw has refl)))
        (alone row i (number-within state.spaces row.name s m has).0 ∙ among)

    row-of : (reach : Reach) (g : Glimpse) → IsIn g (glimpses_in reach (sight state s))
        → (row : Row) × IsIn row state.rows × (g ≡ glimpse_of state s row) × ((m : ℕ) → number state.spaces row.name s ≡ Some m → is_among state.spaces reach s row ≡ true)
    unfolding sight
    row-of Subtree g on =
        let r = IsIn-from_map (glimpse_of state s) g (filter (is_seen state s) state.rows) on in
        (r.0, (IsIn-from_filter (is_seen state s) r.0 state.rows r.1).0, r.2, λ m has. ap is_some has)
    row-of Own g on =
        let q = IsIn-from_filter (λ g. length g.numbers == 1) g (sight state s) on in
        let r = IsIn-from_map (glimpse_of state s) g (filter (is_seen state s) state.rows) q.0 in
        let i = (IsIn-from_filter (is_seen state s) r.0 state.rows r.1).0 in
        (r.0, i, r.2, λ m has. sym (alone r.0 i (number-within state.spaces r.0.name s m has).0) ∙ ap (λ (k : Glimpse). length k.numbers == 1) (sym r.2) ∙ q.1)

    to_seen : (m : ℕ) → IsIn m (visible_numbers state reach s s) → IsIn m (members_seen reach (sight state s))
    to_seen m on =
        let f = IsIn-from_filter_map (λ row. number state.spaces row.name s) m (filter (is_among state.spaces reach s) state.rows) on in
        let g = IsIn-from_filter (is_among state.spaces reach s) f.0 state.rows f.1 in
        let above = above_zero f.0 g.0 m f.2 in
        let first = first-numbers_from state s f.0.name ∙ seen_with (number state.spaces f.0.name s) m f.2 in
        IsIn-filter (nat_lt 0) m (map (number_by Task) (glimpses_in reach (sight state s)))
        (subst (λ x. IsIn x (map (number_by Task) (glimpses_in reach (sight state s)))) first
        (IsIn-map (number_by Task) (glimpse_of state s f.0) (glimpses_in reach (sight state s)) (glimpse-in reach f.0 m g.0 g.1 f.2)))
        (grind (arith, above))

    of_seen : (m : ℕ) → IsIn m (members_seen reach (sight state s)) → IsIn m (visible_numbers state reach s s)
    of_seen m on =
        let f = IsIn-from_filter (nat_lt 0) m (map (number_by Task) (glimpses_in reach (sight state s))) on in
        let g = IsIn-from_map (number_by Task) m (glimpses_in reach (sight state s)) f.0 in
        let r = row-of reach g.0 g.1 in
        let above : 0 < m = grind (arith, f.1) in
        let has = has_seen (number state.spaces r.0.name s) m above (sym (first-numbers_from state s r.0.name) ∙ ap (number_by Task) (sym r.2) ∙ sym g.2) in
        IsIn-filter_map (λ x. number state.spaces x.name s) r.0 m (filter (is_among state.spaces reach s) state.rows)
        (IsIn-filter (is_among state.spaces reach s) r.0 state.rows r.1 (r.3 m has)) has

    pub members_listed : (from most : ℕ) (listed : List ℕ) → AreLeastFrom (visible_numbers state reach s s) from most listed
        → AreLeastFrom (members_seen reach (sight state s)) from most listed
    members_listed from most listed = same_least (visible_numbers state reach s s) (members_seen reach (sight state s)) from most listed to_seen of_seen
