-- Calls on control groups leave a sound state.
use Rattle.model_laws.proofs.Words.{◌≡◌, ℕ, ◌+◌, ◌<◌, ◌≤◌, false, not, ◌==◌, List, [], ◌∷◌, ◌++◌, map, length, Option, Some, None, refl, sym, ap, ◌∙◌, subst, inl, inr, arith, filter, nat_lt, option_map, option_and_then, option_map_or, cond_both, eqb-true, ne_eqb, eqb-false, ltb-false, not_from_false, not-true, Row, Control, greatest_limit, climb, State, control_at, parent_control, control_path, with_control, is_busy, rehome, without_control, limited, with_limit, IsIn, IsTreeOfControls, HasGoodLimit, IsCoherent, IsBelow, not_from_Decides, option_and_then_some, Thread}
use Rattle.model_laws.proofs.Ground.{climb_in, each_of_map, IsIn-from_filter, find-filter, each_pushed, Stops-at_root, climb_trans, climb_cases, IsIn-climb_more, climb-same, climb_child, IsRising-filter, control_to_root, control_at-Some, root_control_parent, at-map, chain-map, IsTree-map, at-push_old, chain-push, IsIn-chain_new, IsTree-push, chain_listed}
use Rattle.model_laws.proofs.Refusals.{Decides-busy, Decides-limit}
use Rattle.model_laws.proofs.Survivors.{settled, Leaves, own_leaves}

-- a coherent state with other control groups, where each home is
IsCoherent-controls : (state : State) (controls : List Control) → IsCoherent state → IsTreeOfControls controls
    → ((c : Control) → IsIn c controls → HasGoodLimit c)
    → ((r : Row) → IsIn r state.rows → (c : Control) × (control_at controls r.home ≡ Some c))
    → ((t : Thread) → IsIn t state.threads → (c : Control) × (control_at controls t.home ≡ Some c)) → IsCoherent (record state { controls = controls })
IsCoherent-controls state controls sound tree limits homes thread_homes = record {
  distinct = sound.distinct;
  numbered = sound.numbered;
  parents = sound.parents;
  children = sound.children;
  root = sound.root;
  standing = sound.standing;
  fallen = sound.fallen;
  groups = sound.groups;
  rows_rise = sound.rows_rise;
  spaces = sound.spaces;
  controls = tree;
  limits = limits;
  homes = homes;
  threads = λ t i.
      let g = sound.threads t i in
      record { process = g.process; apart = g.apart; children = g.children; home = thread_homes t i };
  threads_rise = sound.threads_rise;
  left = sound.left;
  left_rise = sound.left_rise;
}

-- ---- a new control group

module _ (controls : List Control) (tree : IsTreeOfControls controls) (stamp parent : ℕ) (above : (c : Control) → IsIn c controls → c.id < stamp) where
  -- the new control group
  abbrev pub made : Control
  made = record { id = stamp; parent = Some parent; limit = None }

  -- the control groups with it
  abbrev pub with_made : List Control
  with_made = controls ++ made ∷ []

  -- those from before are found as before
  at_old : (x : ℕ) (c : Control) → control_at controls x ≡ Some c → control_at with_made x ≡ Some c
  at_old x c h = at-push_old Control (λ d. d.id) (λ d. d.parent) controls made above x c h

  -- the paths from before stay
  pub path_old : (id : ℕ) → IsIn 0 (control_path controls id) → control_path with_made id ≡ control_path controls id
  unfolding control_path
  path_old id on = chain-push Control (λ d. d.id) (λ d. d.parent) controls made above (control_path controls) tree 65 id on

  -- the control groups with the new one are a tree
  IsTreeOfControls-made : IsIn 0 (control_path controls parent) → length (control_path controls parent) ≤ 64 → parent < stamp → IsTreeOfControls with_made
  unfolding control_path
  IsTreeOfControls-made on short elder =
      IsTree-push Control (λ d. d.id) (λ d. d.parent) controls made above _ _ (λ c i. path_old c.id (tree.chains c i))
      (IsIn-chain_new Control (λ d. d.id) (λ d. d.parent) controls made above (control_path controls) tree 64 parent 0 refl on short on) elder tree

-- a new control group leaves a sound state
pub make_control_keeps : (state : State) (stamp parent : ℕ) (c : Control) → IsCoherent state → IsBelow stamp state
    → control_at state.controls parent ≡ Some c → nat_lt 64 (length (control_path state.controls parent)) ≡ false
    → IsCoherent (with_control state parent stamp) × IsBelow (stamp + 1) (with_control state parent stamp)
unfolding with_control
make_control_keeps state stamp parent c sound below found shallow =
    let on : IsIn 0 (control_path state.controls parent) = control_to_root state.controls sound.controls parent c found in
    let at = control_at-Some state.controls parent c found in (
      IsCoherent-controls state (with_made state.controls sound.controls stamp parent below.controls) sound
          (IsTreeOfControls-made state.controls sound.controls stamp parent below.controls on (ltb-false 64 _ shallow)
          (subst (λ x. x < stamp) at.1 (below.controls c at.0)))
          (each_pushed HasGoodLimit state.controls _ sound.limits (record { root = λ _. refl; bounded = λ limit some. absurd (cc) }))
          (λ r i. let h = sound.homes r i in (h.0, at_old state.controls sound.controls stamp parent below.controls r.home h.0 h.1))
          (λ t i. let h = (sound.threads t i).home in (h.0, at_old state.controls sound.controls stamp parent below.controls t.home h.0 h.1)),
      record {
        spaces = λ s i. omega (arith, below.spaces s i);
        controls = each_pushed (λ (d : Control). d.id < stamp + 1) state.controls _ (λ d j. omega (arith, below.controls d j)) (omega arith);
        children = λ r i. omega (arith, below.children r i);
        thread_children = λ t i. omega (arith, below.thread_children t i);
      },
    )

-- ---- the end of a control group

module _ (controls : List Control) (tree : IsTreeOfControls controls) (id : ℕ) (childless : (c : Control) → IsIn c controls → c.parent ≡ Some id → ⊥) where
  -- the control groups but the one that goes
  abbrev pub others : List Control
  others = filter (λ c. not (c.id == id)) controls

  -- they are found as before
  other_at : (x : ℕ) → (x ≡ id → ⊥) → control_at others x ≡ control_at controls x
  other_at x differs =
      find-filter (λ c. c.id == x) (λ c. not (c.id == id)) controls (λ c i e. not_from_false (c.id == id) (ne_eqb c.id id (λ same. differs (sym (eqb-true c.id x e) ∙ same))))

  -- nothing is below the one that goes
  pub not_below : (x : ℕ) → (x ≡ id → ⊥) → IsIn id (control_path controls x) → ⊥
  unfolding control_path
  not_below x differs i = elim (climb_child (parent_control controls) 65 x id i) [
    | inl e ↦ differs (sym e)
    | inr r ↦ option_and_then_some _ (control_at controls r.0) id r.2 (λ c e up. childless c (control_at-Some controls r.0 c e).0 up)
  ]

  -- their paths stay
  pub other_path : (x : ℕ) → (x ≡ id → ⊥) → control_path others x ≡ control_path controls x
  unfolding control_path
  other_path x differs = climb-same (parent_control controls) (parent_control others) 65 x (λ y i. ap (option_and_then (λ c. c.parent))
      (other_at y (λ same. not_below x differs (subst (λ z. IsIn z (control_path controls x)) same i))))

  -- they are a tree
  IsTreeOfControls-others : (id ≡ 0 → ⊥) → IsTreeOfControls others
  IsTreeOfControls-others below = record {
    rising = IsRising-filter (λ (c : Control). c.id) (λ c. not (c.id == id)) controls tree.rising;
    older = λ c i. tree.older c (IsIn-from_filter (λ c. not (c.id == id)) c controls i).0;
    root = (tree.root.0, other_at 0 (λ e. below (sym e)) ∙ tree.root.1, tree.root.2);
    chains = λ c i.
        let r = IsIn-from_filter (λ c. not (c.id == id)) c controls i in
        let differs : c.id ≡ id → ⊥ = eqb-false c.id id (not-true (c.id == id) r.1) in
        subst (IsIn 0) (sym (other_path c.id differs)) (tree.chains c r.0);
  }

module _ (controls : List Control) (tree : IsTreeOfControls controls) (id parent : ℕ) (g : Control) (found : control_at controls id ≡ Some g)
    (under : g.parent ≡ Some parent) where
  -- the control group's parent, by its id
  up : parent_control controls id ≡ Some parent
  up = ap (option_and_then (λ (d : Control). d.parent)) found ∙ under

  -- who has one is not the root
  not_root : id ≡ 0 → ⊥
  not_root e =
      let none : parent_control controls id ≡ None = subst (λ x. parent_control controls x ≡ None) (sym e) (root_control_parent controls tree) in
      let some : parent_control controls id ≡ Some parent = up in cc

  -- the parent is above it
  in_path : IsIn parent (control_path controls id)
  unfolding control_path
  in_path = climb_in (parent_control controls) 65 1 id parent (parent, up, refl) (omega arith)

  -- and is there
  pub parent_listed : (d : Control) × (control_at controls parent ≡ Some d)
  unfolding control_path
  parent_listed = chain_listed Control (λ d. d.id) (λ d. d.parent) _ controls tree 65 id parent (control_to_root controls tree id g found) in_path

  -- what is above the parent is above the child
  pub path_of_parent : (c : ℕ) → IsIn c (control_path controls parent) → IsIn c (control_path controls id)
  unfolding control_path
  path_of_parent c i =
      climb_trans (parent_control controls) 65 id parent c (Stops-at_root (parent_control controls) 65 id (root_control_parent controls tree)
      (control_to_root controls tree id g found)) in_path i

  -- and what is above the child, but for itself, is above the parent
  pub path_of_child : (c : ℕ) → (c ≡ id → ⊥) → IsIn c (control_path controls id) → IsIn c (control_path controls parent)
  unfolding control_path
  path_of_child c differs i = elim (climb_cases (parent_control controls) 64 id c i) [
    | inl e ↦ absurd (differs e)
    | inr r ↦
        let same : r.0 ≡ parent = (let a : parent_control controls id ≡ Some r.0 = r.1 in let b : parent_control controls id ≡ Some parent = up in cc) in
        IsIn-climb_more (parent_control controls) 64 parent c (subst (λ x. IsIn c (climb (parent_control controls) 64 x)) same r.2)
  ]

-- nothing runs in a control group that is not busy
pub no_thread : (state : State) (id : ℕ) → is_busy state id ≡ false → (t : Thread) → IsIn t state.threads → t.home ≡ id → ⊥
unfolding is_busy
no_thread state id idle t i e = not_from_Decides (is_busy state id) (Decides-busy state id) idle (inl (t, i, e))

-- a control group that is not busy is no parent
pub no_child : (state : State) (id : ℕ) → is_busy state id ≡ false → (d : Control) → IsIn d state.controls → d.parent ≡ Some id → ⊥
unfolding is_busy
no_child state id idle d i e = not_from_Decides (is_busy state id) (Decides-busy state id) idle (inr (inr (d, i, e)))

-- the end of a control group leaves a coherent state
pub remove_control_leaves : (state : State) (id parent : ℕ) (c : Control) → IsCoherent state
    → control_at state.controls id ≡ Some c → c.parent ≡ Some parent → is_busy state id ≡ false → Leaves state (without_control state id parent)
unfolding without_control
remove_control_leaves state id parent c sound found under idle = (
  IsCoherent-controls (record state { rows = map (rehome id parent) state.rows }) left rows.0 (IsTreeOfControls-others state.controls tree id childless root)
      (λ d i. sound.limits d (IsIn-from_filter _ d state.controls i).0)
      (each_of_map (λ r. (d : Control) × (control_at left r.home ≡ Some d)) (rehome id parent) state.rows (λ r i.
      cond_both (r.home == id) parent r.home (λ x. (d : Control) × (control_at left x ≡ Some d))
      (λ e. (up.0, other_at state.controls tree id childless parent differs ∙ up.1))
      (λ e. let h = sound.homes r i in (h.0, other_at state.controls tree id childless r.home (eqb-false r.home id e) ∙ h.1))))
      (λ t i. let h = (sound.threads t i).home in (h.0, other_at state.controls tree id childless t.home (no_thread state id idle t i) ∙ h.1)),
  λ stamp below. record {
    spaces = below.spaces;
    controls = λ d i. below.controls d (IsIn-from_filter _ d state.controls i).0;
    children = (rows.1 stamp below).children;
    thread_children = below.thread_children;
  },
)
  where
    tree : IsTreeOfControls state.controls
    tree = sound.controls

    childless : (d : Control) → IsIn d state.controls → d.parent ≡ Some id → ⊥
    childless = no_child state id idle

    root : id ≡ 0 → ⊥
    root = not_root state.controls tree id parent c found under

    up : (d : Control) × (control_at state.controls parent ≡ Some d)
    up = parent_listed state.controls tree id parent c found under

    differs : parent ≡ id → ⊥
    differs e = childless c (control_at-Some state.controls id c found).0 (under ∙ ap Some e)

    left : List Control
    left = others state.controls tree id childless

    rows : Leaves state (record state { rows = map (rehome id parent) state.rows })
    rows = own_leaves state (rehome id parent) sound (λ r. refl) (λ r i.
        let s = settled state sound r i in
        (s.0, s.1, s.2, cond_both (r.home == id) parent r.home (λ x. (d : Control) × (control_at state.controls x ≡ Some d)) (λ e. up) (λ e. s.3), s.4))

-- ---- a limit

-- paths stay where control groups keep their ids and parents
pub control_path-map : (controls : List Control) (f : Control → Control) → ((c : Control) → (f c).id ≡ c.id) → ((c : Control) → (f c).parent ≡ c.parent)
    → (x : ℕ) → control_path (map f controls) x ≡ control_path controls x
unfolding control_path
control_path-map controls f ids parents x = chain-map Control (λ d. d.id) (λ d. d.parent) controls f ids parents 65 x

-- a limit that is not too great is a good one where the control group is not the root
HasGoodLimit-limited : (controls : List Control) → IsTreeOfControls controls → (id parent : ℕ) (limit : Option ℕ) (g : Control)
    → control_at controls id ≡ Some g → g.parent ≡ Some parent → option_map_or (nat_lt greatest_limit) limit false ≡ false
    → (c : Control) → HasGoodLimit c → HasGoodLimit (limited id limit c)
HasGoodLimit-limited controls tree id parent limit g found under good c old =
    cond_both (c.id == id) limit c.limit (λ l. HasGoodLimit (record c { limit = l }))
    (λ e. record {
      root = λ zero. absurd (not_root controls tree id parent g found under (sym (eqb-true c.id id e) ∙ zero));
      bounded = λ l some. let no : greatest_limit < l → ⊥ = λ m. not_from_Decides _ (Decides-limit limit) good (l, some, m) in omega arith;
    }) (λ e. old)

-- a limit leaves a coherent state
pub set_limit_leaves : (state : State) (id parent : ℕ) (limit : Option ℕ) (g : Control) → IsCoherent state
    → control_at state.controls id ≡ Some g → g.parent ≡ Some parent → option_map_or (nat_lt greatest_limit) limit false ≡ false
    → Leaves state (with_limit state id limit)
unfolding with_limit
set_limit_leaves state id parent limit g sound found under good = (
  IsCoherent-controls state (map f state.controls) sound
      (IsTree-map Control (λ d. d.id) (λ d. d.parent) state.controls f (λ c. refl) (λ c. refl) (control_path state.controls) _
      (control_path-map state.controls f (λ c. refl) (λ c. refl)) sound.controls)
      (each_of_map HasGoodLimit f state.controls (λ c i.
      HasGoodLimit-limited state.controls sound.controls id parent limit g found under good c (sound.limits c i)))
      (λ r i.
      let h = sound.homes r i in
      (f h.0, at-map Control (λ d. d.id) (λ d. d.parent) state.controls f (λ c. refl) (λ c. refl) r.home ∙ ap (option_map f) h.1))
      (λ t i.
      let h = (sound.threads t i).home in
      (f h.0, at-map Control (λ d. d.id) (λ d. d.parent) state.controls f (λ c. refl) (λ c. refl) t.home ∙ ap (option_map f) h.1)),
  λ stamp below. record {
    spaces = below.spaces;
    controls = each_of_map (λ c. c.id < stamp) f state.controls below.controls;
    children = below.children;
    thread_children = below.thread_children;
  },
)
  where
    f : Control → Control
    f = limited id limit
