-- Wait and the fall of a namespace leave a sound state.
use Rattle.model_laws.proofs.Words.{◌≡◌, ℕ, Bool, true, false, not, ◌==◌, List, [], ◌∷◌, Some, refl, sym, ap, ◌∙◌, subst, inl, inr, arith, filter, map-id, eqb-false, or_cases, or_from, or_parts, or_left, or_right, not-true, not_from_false, false_from_ne_true, Which, Name, Row, Space, Thread, State, path_up, is_within, number, root_number, same_name, is_live, is_member, matching, least_row, without_row, ended_children, has_parent_within, goes_in_fall, row_after_fall, rows_after_fall, fallen_below, fall, IsIn, IsCoherent, is_of}
use Rattle.model_laws.proofs.Ground.{IsIn-filter, IsIn-from_filter, IsIn-from_contains, contains-from_IsIn, same_name-true, own_in_use, number-on_path, number-off_path, same_row, path_first, path_trans, path_antisym, IsRising-filter, thread_space}
use Rattle.model_laws.proofs.Survivors.{KeepsRest, Leaves, leaves, parents_stay, threads_stay, settled, pairs, StaysLeft}
use Rattle.model_laws.proofs.Ancestry.{number-root_of_row, root_path, row_on_tree}
use Rattle.model_laws.proofs.Refusals.{may-match}

-- ---- wait

-- the row with the least number is one of them
pub least_row-IsIn : (state : State) (s : ℕ) (rows : List Row) (row : Row) → least_row state s rows ≡ Some row → IsIn row rows
least_row-IsIn state s [] row h = absurd (cc)
least_row-IsIn state s (r ∷ rows) row h = grind (arith, least_row-IsIn state s rows)

-- what a wait reaps is a row that has ended
pub reaped_row : (state : State) (caller row : Row) (which : Which) → least_row state caller.name.space (ended_children state caller which) ≡ Some row
    → IsIn row state.rows × (is_live row ≡ false)
reaped_row state caller row which h =
    let f = IsIn-from_filter (λ r. not (is_live r)) row (matching state caller which) (least_row-IsIn state caller.name.space (ended_children state caller which) row h) in
    (((may-match state caller which row).0 f.0).0, not-true (is_live row) f.1)

-- a wait leaves a coherent state
pub wait_leaves : (state : State) → IsCoherent state → (gone : Row) → IsIn gone state.rows → is_live gone ≡ false → Leaves state (without_row state gone)
unfolding without_row
wait_leaves state sound gone i ended = leaves state p (λ r. r) (λ s. s) state.threads state.left sound (record {
  names = λ r. refl;
  rows = settled state sound;
  groups = pairs state.rows sound.groups;
  parents = parents_stay state sound p (λ r. r) (λ r. refl) (λ r. refl) (λ r q k l e there live. (stays q l live, live));
  spaces = λ s. (refl, refl);
  standing = λ s k e. (e, λ r l live here one. (stays r l live, live));
  fallen = λ s k e. let em = sound.fallen s k e in (λ r l stay live. em.ended r l live, em.below);
  root = sound.root;
  go_on = threads_stay state sound p (λ r. r) (λ r. refl) state.threads state.left sound.threads_rise (λ t k. k)
      (λ t r k l e live. (stays r l live, live)) sound.left_rise (λ name k. (k, λ r l e live. (stays r l live, live), λ t l e. l));
}) _ _ (map-id (filter p state.rows)) (map-id state.spaces)
  where
    p : Row → Bool
    p r = not (same_name r.name gone.name)

    stays : (r : Row) → IsIn r state.rows → is_live r ≡ true → p r ≡ true
    stays r k live = not_from_false (same_name r.name gone.name) (false_from_ne_true (same_name r.name gone.name) (λ e.
        let one : r ≡ gone = same_row state.rows sound.rows_rise r gone k i (same_name-true r.name gone.name e) in
        let dead : is_live r ≡ false = ap (λ (x : Row). is_live x) one ∙ ended in cc))

-- ---- the fall

module _ (state : State) (sound : IsCoherent state) (init : Row) (status : ℕ) (there : IsIn init state.rows) (one : number state.spaces init.name init.name.space ≡ Some 1)
    (deep : (root_number init.name == 1) ≡ false) where
  -- the namespace that falls
  abbrev space : ℕ
  space = init.name.space

  -- whether the row stays
  abbrev stays_in_fall : Row → Bool
  stays_in_fall r = not (goes_in_fall state init r)

  -- the row after the fall
  abbrev after_fall : Row → Row
  after_fall = row_after_fall state init status

  -- the namespace after the fall
  abbrev after_fall_space : Space → Space
  after_fall_space = fallen_below state.spaces space

  -- the row's own namespace is the one that falls, or below it
  abbrev Within : Row → Type 0
  Within r = IsIn space (path_up state.spaces r.name.space)

  -- such a row is a member
  member-from_within : (r : Row) → IsIn r state.rows → Within r → is_member state.spaces space r ≡ true
  member-from_within r i w =
      let n = number-on_path state.spaces r.name space (sound.numbered r.name (own_in_use state r i)).one_each w in
      rw n.1 refl

  -- any other is none
  outsider : (r : Row) → (Within r → ⊥) → is_member state.spaces space r ≡ false
  outsider r off = rw (number-off_path state.spaces r.name space off) refl

  -- nor is it the init
  not_init : (r : Row) → (Within r → ⊥) → same_name r.name init.name ≡ false
  not_init r off =
      false_from_ne_true (same_name r.name init.name) (λ e. off (subst (λ (a : Name). IsIn space (path_up state.spaces a.space)) (sym (same_name-true r.name init.name e)) (path_first state.spaces space)))

  -- a row outside stays, and lives on
  outsider_stays : (r : Row) → (Within r → ⊥) → is_live r ≡ true → (stays_in_fall r ≡ true) × (is_live (after_fall r) ≡ true)
  outsider_stays r off live = grind (arith, outsider r off, not_init r off)

  -- what lives after the fall lived before, and is not within
  lives_after : (r : Row) → IsIn r state.rows → is_live (after_fall r) ≡ true → (is_live r ≡ true) × (Within r → ⊥)
  lives_after r i live = grind (arith, member-from_within r i)

  -- the parent of a row that stays is outside
  parent_outside : (r q : Row) → IsIn r state.rows → IsIn q state.rows → stays_in_fall r ≡ true → r.parent ≡ Some q.name → Within q → ⊥
  parent_outside r q i j stays up w =
      let good : IsIn q.name.space (path_up state.spaces r.name.space) = ((sound.parents r i).good q.name up).around in
      let member : is_member state.spaces space r ≡ true = member-from_within r i
      (path_trans state.spaces sound.spaces r.name.space q.name.space space (row_on_tree state sound r i) good w) in
      let inside : has_parent_within state space r ≡ true = rw up (contains-from_IsIn (path_up state.spaces q.name.space) space w) in
      let own : same_name r.name init.name ≡ true = grind arith in
      let same : r ≡ init = same_row state.rows sound.rows_rise r init i there (same_name-true r.name init.name own) in
      let g = (sound.parents init there).good q.name (ap (λ (x : Row). x.parent) (sym same) ∙ up) in
      g.outside one (path_antisym state.spaces sound.spaces space q.name.space (row_on_tree state sound init there) g.around w)

  -- whether a thread or a mark of the name goes on
  abbrev stays_name : Name → Bool
  stays_name name = not (is_of state.spaces space name)

  -- one that goes on is not within, and who is not within goes on
  name_outside : (name : Name) → stays_name name ≡ true → IsIn space (path_up state.spaces name.space) → ⊥
  name_outside name e w =
      let yes : is_within state.spaces name.space space ≡ true = contains-from_IsIn (path_up state.spaces name.space) space w in
      let no : is_within state.spaces name.space space ≡ false = not-true (is_within state.spaces name.space space) e in
      cc

  name_stays : (name : Name) → (IsIn space (path_up state.spaces name.space) → ⊥) → stays_name name ≡ true
  name_stays name off =
      not_from_false (is_within state.spaces name.space space) (false_from_ne_true (is_within state.spaces name.space space) (λ e. off (IsIn-from_contains (path_up state.spaces name.space) space e)))

  -- the threads after the fall, and the marks
  abbrev threads_after : List Thread
  threads_after = filter (λ t. stays_name t.name) state.threads

  abbrev left_after : List Name
  left_after = filter stays_name state.left

  -- a process outside whose first thread has left goes on
  mark_stays : (name : Name) → IsIn name left_after → StaysLeft state stays_in_fall after_fall threads_after name
  mark_stays name i =
      let f = IsIn-from_filter stays_name name state.left i in
      let own = (sound.left name f.0).0 in (
        f.0,
        λ r j e live. outsider_stays r (λ w. name_outside name f.1 (subst (λ (a : Name). IsIn space (path_up state.spaces a.space)) e w)) live,
        λ t j e.
            let here : t.name.space ≡ name.space = thread_space state sound t own.0 j own.1 (e ∙ sym own.2) ∙ ap (λ (a : Name). a.space) own.2 in
            IsIn-filter (λ (u : Thread). stays_name u.name) t state.threads j (name_stays t.name (λ w.
            name_outside name f.1 (subst (λ x. IsIn space (path_up state.spaces x)) here w))),
      )

  -- what the fall keeps
  KeepsRest-fall : KeepsRest state stays_in_fall after_fall after_fall_space threads_after left_after
  KeepsRest-fall = record {
    names = λ r. refl;
    rows = settled state sound;
    groups = pairs state.rows sound.groups;
    parents = parents_stay state sound stays_in_fall after_fall (λ r. refl) (λ r. refl)
        (λ r q i j stays up live. outsider_stays q (parent_outside r q i j stays up) live);
    spaces = λ s. (refl, refl);
    standing = λ s i e.
        let o = or_parts s.fallen (is_within state.spaces s.id space) e in (
          o.0,
          λ r j live here first. outsider_stays r (λ w.
              let yes : is_within state.spaces s.id space ≡ true = contains-from_IsIn (path_up state.spaces s.id) space (subst (λ x. IsIn space (path_up state.spaces x)) here w) in
              let never : is_within state.spaces s.id space ≡ false = o.1 in cc) live,
        );
    fallen = λ s i e. elim (or_cases s.fallen (is_within state.spaces s.id space) e) [
      | inl fell ↦
          let em = sound.fallen s i fell in
          (λ r j stays live. em.ended r j (lives_after r j live).0, λ t j k. or_left t.fallen (is_within state.spaces t.id space) (em.below t j k))
      | inr within ↦
          let w : IsIn space (path_up state.spaces s.id) = IsIn-from_contains (path_up state.spaces s.id) space within in (
            λ r j stays live. number-off_path state.spaces r.name s.id (λ k. (lives_after r j live).1 (path_trans state.spaces sound.spaces r.name.space s.id space (row_on_tree state sound r j) k w)),
            λ t j k. or_right t.fallen (is_within state.spaces t.id space) (contains-from_IsIn (path_up state.spaces t.id) space
                (path_trans state.spaces sound.spaces t.id s.id space (sound.spaces.chains t j) k w)),
          )
    ];
    root = λ s i e. or_from s.fallen (is_within state.spaces s.id space) (sound.root s i e)
        (false_from_ne_true (is_within state.spaces s.id space) (λ w. not_root (subst (λ x. IsIn space (path_up state.spaces x)) e (IsIn-from_contains (path_up state.spaces s.id) space w))));
    go_on = threads_stay state sound stays_in_fall after_fall (λ r. refl) threads_after left_after
        (IsRising-filter (λ (t : Thread). root_number t.name) (λ (t : Thread). stays_name t.name) state.threads sound.threads_rise)
        (λ t i. (IsIn-from_filter (λ (u : Thread). stays_name u.name) t state.threads i).0) (λ t r i j e live. outsider_stays r (λ w.
        let f = IsIn-from_filter (λ (u : Thread). stays_name u.name) t state.threads i in
        name_outside t.name f.1 (subst (λ x. IsIn space (path_up state.spaces x)) (sym (thread_space state sound t r f.0 j (sym e))) w)) live)
        (IsRising-filter root_number stays_name state.left sound.left_rise) mark_stays;
  }
    where
      -- the namespace that falls is not the root
      not_root : IsIn space (path_up state.spaces 0) → ⊥
      not_root up =
          let here : space ≡ 0 = root_path state sound space up in
          let a : number state.spaces init.name 0 ≡ Some 1 = subst (λ x. number state.spaces init.name x ≡ Some 1) here one in
          let b : number state.spaces init.name 0 ≡ Some (root_number init.name) = number-root_of_row state sound init there in
          eqb-false (root_number init.name) 1 deep (let same : root_number init.name ≡ 1 = cc in same)

  -- a fall leaves a coherent state
  pub fall_leaves : Leaves state (fall state init status)
  unfolding fall rows_after_fall
  fall_leaves = leaves state stays_in_fall after_fall after_fall_space threads_after left_after sound KeepsRest-fall _ _ refl refl
