-- The sweep takes away no namespace in which a name in use has a number, and leaves a sound state.
use Rattle.model_laws.proofs.Words.{◌≡◌, ℕ, false, not, ◌==◌, List, [], ◌∷◌, length, Some, None, refl, sym, ap, ◌∙◌, subst, ◌⊎◌, inl, inr, arith, option_and_then, eqb-true, ne_eqb, and_left, and_right, not_from_false, not-true, cases_Bool, Name, Space, State, space_at, parent_space, path_up, number, in_use, taken, is_dead, sweep, IsIn, IsTreeOfSpaces, IsCoherent, IsSound}
use Rattle.model_laws.proofs.Ground.{IsIn-filter, IsIn-from_filter, find-filter, option_both, length-IsIn, climb-same, number-on_path, number-within, number-same_path, own_in_use, IsIn-taken, user_of_number, IsRising-filter, space_at-Some, space_at-listed, IsOnTree, IsOnTree-name, path_trans}
use Rattle.model_laws.proofs.SpaceMaps.{IsWellNumbered-kept, HasGoodParents-kept}

-- no namespace with the id is dead
abbrev pub IsKept : State → ℕ → Type 0
IsKept state x = (s : Space) → IsIn s state.spaces → s.id ≡ x → is_dead state s ≡ false

-- a namespace in which a name in use has a number is not dead
pub kept-by_name : (state : State) (a : Name) (x n : ℕ) → IsIn a (in_use state) → number state.spaces a x ≡ Some n → IsKept state x
kept-by_name state a x n i e s j same =
    let here : number state.spaces a s.id ≡ Some n = subst (λ y. number state.spaces a y ≡ Some n) (sym same) e in
    let long = length-IsIn n (taken state s.id) (IsIn-taken state a s.id n i here) in
    and_right s.fallen (length (taken state s.id) == 0) (ne_eqb (length (taken state s.id)) 0 (λ none. omega (arith, long)))

-- the spaces that are kept
abbrev pub kept_spaces : State → List Space
kept_spaces state = (sweep state).spaces

-- a namespace that is kept is found as before
space_at-kept : (state : State) (x : ℕ) → IsKept state x → space_at (kept_spaces state) x ≡ space_at state.spaces x
unfolding sweep
space_at-kept state x k =
    find-filter (λ s. s.id == x) (λ s. not (is_dead state s)) state.spaces (λ s i e. not_from_false (is_dead state s) (k s i (eqb-true s.id x e)))

-- a path that is kept is as before
path-kept : (state : State) (id : ℕ) → ((x : ℕ) → IsIn x (path_up state.spaces id) → IsKept state x)
    → path_up (kept_spaces state) id ≡ path_up state.spaces id
unfolding path_up
path-kept state id k =
    climb-same (parent_space state.spaces) (parent_space (kept_spaces state)) 33 id (λ x i. ap (option_and_then (λ s. s.parent)) (space_at-kept state x (k x i)))

-- what the sweep keeps is there before, and is not dead
pub from_kept : (state : State) (s : Space) → IsIn s (kept_spaces state) → IsIn s state.spaces × (is_dead state s ≡ false)
unfolding sweep
from_kept state s i = let r = IsIn-from_filter (λ t. not (is_dead state t)) s state.spaces i in (r.0, not-true (is_dead state s) r.1)

-- what is there and not dead is kept
pub to_kept : (state : State) (s : Space) → IsIn s state.spaces → is_dead state s ≡ false → IsIn s (kept_spaces state)
unfolding sweep
to_kept state s i e = IsIn-filter (λ t. not (is_dead state t)) s state.spaces i (not_from_false (is_dead state s) e)

module _ (state : State) (sound : IsCoherent state) where
  -- a name in use keeps its path
  pub name_kept : (a : Name) → IsIn a (in_use state) → (x : ℕ) → IsIn x (path_up state.spaces a.space) → IsKept state x
  name_kept a i x j = let n = number-on_path state.spaces a x (sound.numbered a i).one_each j in kept-by_name state a x n.0 i n.1

  -- its path is as before
  pub name_path : (a : Name) → IsIn a (in_use state) → path_up (kept_spaces state) a.space ≡ path_up state.spaces a.space
  name_path a i = path-kept state a.space (name_kept a i)

  -- and its numbers
  pub name_number : (a : Name) → IsIn a (in_use state) → (s : ℕ) → number (kept_spaces state) a s ≡ number state.spaces a s
  name_number a i s = number-same_path state.spaces (kept_spaces state) a s (name_path a i)

  -- a name in use has a number in each namespace that is not dead
  pub user_of_kept : (s : Space) → IsIn s state.spaces → is_dead state s ≡ false
      → (a : Name) × (n : ℕ) × IsIn a (in_use state) × (number state.spaces a s.id ≡ Some n)
  user_of_kept s i alive = elim (cases_Bool s.fallen) [
    | inl e ↦
        let m = some (taken state s.id) (rw e at alive) in
        let u = user_of_number state s.id m.0 m.1 in
        (u.0, m.0, u.1, u.2)
    | inr e ↦ let r = sound.standing s i e in (r.0.name, 1, own_in_use state r.0 r.1, r.4)
  ]
    where
      some : (ns : List ℕ) → (length ns == 0) ≡ false → (n : ℕ) × IsIn n ns
      some [] e = absurd (cc)
      some (n ∷ ns) e = (n, inl refl)

  -- a namespace that is kept keeps its path
  pub space_path : (s : Space) → IsIn s state.spaces → is_dead state s ≡ false → path_up (kept_spaces state) s.id ≡ path_up state.spaces s.id
  space_path s i alive =
      let u = user_of_kept s i alive in
      let on : IsOnTree state.spaces u.0.space = IsOnTree-name state.spaces state.pid_max sound.spaces u.0 (sound.numbered u.0 u.2) in
      path-kept state s.id (λ x j. name_kept u.0 u.2 x (path_trans state.spaces sound.spaces u.0.space s.id x on (number-within state.spaces u.0 s.id u.1 u.3).0 j))

  -- what is kept is a tree
  IsTreeOfSpaces-kept : IsTreeOfSpaces (kept_spaces state)
  unfolding sweep
  IsTreeOfSpaces-kept = record {
    rising = IsRising-filter (λ s. s.id) (λ s. not (is_dead state s)) state.spaces sound.spaces.rising;
    older = λ s i. sound.spaces.older s (from_kept state s i).0;
    root = (sound.spaces.root.0, space_at-kept state 0 root_kept ∙ sound.spaces.root.1, sound.spaces.root.2);
    chains = λ s i. let r = from_kept state s i in subst (IsIn 0) (sym (space_path s r.0 r.1)) (sound.spaces.chains s r.0);
  }
    where
      root_kept : IsKept state 0
      root_kept s i e = and_left s.fallen (length (taken state s.id) == 0) (sound.root s i e)

  -- children's namespaces stay good, or are dropped
  children_kept : (own into : ℕ) → (space_at state.spaces into ≡ None) ⊎ IsIn own (path_up state.spaces into)
      → (space_at (kept_spaces state) into ≡ None) ⊎ IsIn own (path_up (kept_spaces state) into)
  children_kept own into h = option_both (space_at (kept_spaces state) into) (λ _. (space_at (kept_spaces state) into ≡ None) ⊎ IsIn own (path_up (kept_spaces state) into)) (λ e. inl e) (λ s e.
      let q = space_at-Some (kept_spaces state) into s e in
      let f = from_kept state s q.0 in
      let there : space_at state.spaces into ≡ Some s = subst (λ x. space_at state.spaces x ≡ Some s) q.1 (space_at-listed state.spaces sound.spaces s f.0) in
      elim h [
        | inl none ↦ let n : space_at state.spaces into ≡ None = none in absurd (cc)
        | inr i ↦ inr (subst (IsIn own) (sym (subst (λ x. path_up (kept_spaces state) x ≡ path_up state.spaces x) q.1 (space_path s f.0 f.1))) i)
      ])

  -- what the sweep leaves of a coherent state is sound
  pub IsSound-sweep : IsSound (sweep state)
  unfolding sweep
  IsSound-sweep = record {
    coherent = record {
      distinct = λ a b i j s n e f. sound.distinct a b i j s n (sym (name_number a i s) ∙ e) (sym (name_number b j s) ∙ f);
      numbered = λ a i. IsWellNumbered-kept state.spaces (kept_spaces state) state.pid_max a (name_path a i)
          (λ x s j e. (s, space_at-kept state x (name_kept a i x j) ∙ e)) (sound.numbered a i);
      parents = λ r i. HasGoodParents-kept state.rows state.rows state.spaces (kept_spaces state) r r refl refl
          (name_path r.name (own_in_use state r i))
          (λ q j up live. (q, j, refl, live)) (sound.parents r i).chain (sound.parents r i);
      children = λ r i. children_kept r.name.space r.children_space (sound.children r i);
      root = λ s i. sound.root s (from_kept state s i).0;
      standing = λ s i e.
          let r = sound.standing s (from_kept state s i).0 e in
          (r.0, r.1, r.2, r.3, name_number r.0.name (own_in_use state r.0 r.1) s.id ∙ r.4);
      fallen = λ s i e.
          let em = sound.fallen s (from_kept state s i).0 e in
          record {
            ended = λ r j lives. name_number r.name (own_in_use state r j) s.id ∙ em.ended r j lives;
            below = λ t j k. let f = from_kept state t j in em.below t f.0 (subst (IsIn s.id) (space_path t f.0 f.1) k);
          };
      groups = sound.groups;
      rows_rise = sound.rows_rise;
      spaces = IsTreeOfSpaces-kept;
      controls = sound.controls;
      limits = sound.limits;
      homes = sound.homes;
      threads = λ t i.
          let g = sound.threads t i in
          record { process = g.process; apart = g.apart; children = children_kept t.name.space t.children_space g.children; home = g.home };
      threads_rise = sound.threads_rise;
      left = sound.left;
      left_rise = sound.left_rise;
    };
    named = λ s i e.
        let f = from_kept state s i in
        let u = user_of_kept s f.0 f.1 in
        (u.0, u.1, u.2, name_number u.0 u.2 s.id ∙ u.3);
  }
