-- Fork leaves a sound state.
use Rattle.model_laws.proofs.Words.{option_map, nat_le, unwrap_or, ◌≡◌, ℕ, suc, ◌+◌, ◌<◌, ◌≤◌, true, false, List, [], ◌∷◌, ◌++◌, map, length, Some, None, refl, sym, ap, ◌∙◌, subst, ◌⊎◌, inl, inr, arith, ◌==◌, length-map, length-reverse, eqb-true, leb-false, Name, Row, Space, Thread, Option, option_map_or, is_none, find, thread_at, caller_of, as_thread, new_name, in_use, ◌⊎◌, Control, climb, contains, State, space_at, parent_space, path_up, level, number, root_number, is_live, names_in_use, taken, cyclic_draw, cursor_of, draw, control_at, parent_number, insert_row, with_space, drawn, moved_cursor, with_cursors, child_of, is_gone, with_child, IsIn, IsRising, IsWellNumbered, IsGoodParent, HasGoodParents, HasGoodChildrenSpace, HasLiveInit, IsEmptied, IsTreeOfSpaces, RootStands, IsCoherent, IsBelow}
use Rattle.model_laws.proofs.Ground.{IsIn-append_right, IsIn-from_map, IsIn-reverse, contains-from_IsIn, each_pushed, no_element, option_both, user_of_name, IsIn-names_in_use, own_in_use, used_by_row, thread_in_use, in_use_cases, caller_of-Some, group_in_use, number-within, number-off_path, number-same_path, IsIn-taken, user_of_number, IsOnTree, IsOnTree-listed, IsOnTree-name, space_at-Some, path_first, path_listed, row_at-listed, at-push_old, at-push_none, at-push_new, not_there, chain-push, chain-new_cases, IsIn-chain_new, IsTree-push, thread_space}
use Rattle.model_laws.proofs.SpaceMaps.{IsWellNumbered-kept, HasGoodParents-kept}
use Rattle.model_laws.specs.Draws.{IsCyclicDraw}
use Rattle.model_laws.proofs.Draws.{draw_is_least}
use Rattle.model_laws.proofs.Survivors.{Leaves, spaces_leave}
use Rattle.model_laws.proofs.Ancestry.{Far, roots, parent_number-at, chain-in_rows, number-root, far_kept}
use Rattle.model_laws.proofs.Inserts.{IsIn-from_insert, IsIn-insert_new, IsIn-insert_old, IsRising-insert, number-new_name, number-new_name_at, drawn-free}
use Rattle.model_laws.proofs.Kept.{IsBelow-next}
use Rattle.model_laws.proofs.Calls.{MayFork}
use Rattle.model_laws.proofs.Callers.{thread_at-Some, caller_thread}

-- the namespaces are ready for a child of the caller in t: those of a coherent state, perhaps with t new among them
pub record IsReady (old : State) (spaces : List Space) (caller : Row) (t : ℕ) : Type 0 where
  pub paths : (a : Name) → IsIn a (in_use old) → path_up spaces a.space ≡ path_up old.spaces a.space
  pub listed : (x : ℕ) (s : Space) → space_at old.spaces x ≡ Some s → space_at spaces x ≡ Some s
  pub tree : IsTreeOfSpaces spaces
  pub children : (r : Row) → IsIn r old.rows → HasGoodChildrenSpace spaces r
  pub thread_children : (u : Thread) → IsIn u old.threads
      → (space_at spaces u.children_space ≡ None) ⊎ IsIn u.name.space (path_up spaces u.children_space)
  pub root : RootStands spaces
  pub standing : (s : Space) → IsIn s spaces → s.fallen ≡ false
      → HasLiveInit old.rows spaces s.id ⊎ ((s.id ≡ t) × (drawn (record old { spaces = spaces }) t ≡ 1))
  pub fallen : (s : Space) → IsIn s spaces → s.fallen ≡ true → IsEmptied old.rows spaces s.id
  pub target : (s : Space) × IsIn s spaces × (s.id ≡ t) × (s.fallen ≡ false)
  pub around : IsIn caller.name.space (path_up spaces t)
  pub outside : drawn (record old { spaces = spaces }) t ≡ 1 → caller.name.space ≡ t → ⊥

module _ (old : State) (sound : IsCoherent old) (spaces : List Space) (caller : Row) (t : ℕ) (ready : IsReady old spaces caller t)
    (there : IsIn caller old.rows) (lives : is_live caller ≡ true) (numbers : find (λ s. is_none (draw (record old { spaces = spaces }) s)) (path_up spaces t) ≡ None)
    (home into : ℕ) (good_home : (c : Control) × (control_at old.controls home ≡ Some c)) where
  -- the state in which the numbers are drawn
  abbrev state : State
  state = record old { spaces = spaces }

  -- the namespaces that give a number
  abbrev path : List ℕ
  path = path_up spaces t

  -- the new task
  abbrev child : Row
  child = child_of state (record caller { home = home; children_space = into }) t

  -- the rows with it
  abbrev rows_after : List Row
  rows_after = insert_row child old.rows

  -- the path ends at the root
  on_tree : IsOnTree spaces t
  on_tree = subst (IsOnTree spaces) ready.target.2 (ready.tree.chains ready.target.0 ready.target.1)

  -- the numbers in use are those of the state before
  number_kept : (a : Name) → IsIn a (in_use old) → (s : ℕ) → number spaces a s ≡ number old.spaces a s
  number_kept a i s = number-same_path old.spaces spaces a s (ready.paths a i)

  -- the names in use stay well numbered
  pub well_kept : (a : Name) → IsIn a (in_use old) → IsWellNumbered spaces old.pid_max a
  well_kept a i = IsWellNumbered-kept old.spaces spaces old.pid_max a (ready.paths a i) (λ x s j e. (s, ready.listed x s e)) (sound.numbered a i)

  -- ---- the new name

  -- a number of the new name is no number of a name in use
  pub fresh : (a : Name) → IsIn a (in_use old) → (s n : ℕ) → number spaces (new_name state t) s ≡ Some n → number spaces a s ≡ Some n → ⊥
  fresh a i s n new seen =
      let r = number-new_name state t s n new in
      let free : contains (taken state s) n ≡ false = subst (λ x. contains (taken state s) x ≡ false) r.0 (drawn-free state path numbers s r.1).0 in
      let used : contains (taken state s) n ≡ true = contains-from_IsIn (taken state s) n (IsIn-taken state a s n i seen) in
      cc

  -- the new name was in no use
  pub unused : IsIn (new_name state t) (in_use old) → ⊥
  unused i = let n = number-new_name_at state t t (path_first spaces t) in fresh (new_name state t) i t (drawn state t) n n

  -- the new name is well numbered
  pub well_child : IsWellNumbered spaces old.pid_max (new_name state t)
  well_child = record {
    listed = λ x i. path_listed spaces ready.tree t x on_tree i;
    one_each = length-reverse (map (drawn state) path) ∙ length-map path (drawn state);
    in_range = λ n i.
        let q = IsIn-from_map (drawn state) n path (IsIn-reverse n (map (drawn state) path) i) in
        let f = drawn-free state path numbers q.0 q.1 in
        (subst (λ x. 0 < x) (sym q.2) f.1, subst (λ x. x < old.pid_max) (sym q.2) f.2);
  }

  -- and so is its root number
  pub new_root : (a : Name) → IsIn a (in_use old) → root_number a ≡ root_number (new_name state t) → ⊥
  new_root a own e =
      fresh a own 0 (root_number (new_name state t)) (number-root spaces old.pid_max (new_name state t) ready.tree well_child)
      (number-root spaces old.pid_max a ready.tree (well_kept a own) ∙ ap Some e)

  -- a name that a row uses after the fork is the new one, or was used by a row
  pub used_before : (a : Name) → IsIn a (names_in_use rows_after) → (a ≡ child.name) ⊎ IsIn a (names_in_use old.rows)
  used_before a i =
      let u = user_of_name rows_after a i in
      grind (arith, IsIn-from_insert child old.rows u.0 u.1, IsIn-names_in_use old.rows caller a there, IsIn-names_in_use old.rows u.0 a)

  -- a name in use after the fork is the new one, or was in use
  in_use_before : (a : Name) → IsIn a (in_use (record state { rows = rows_after })) → (a ≡ new_name state t) ⊎ IsIn a (in_use old)
  in_use_before a i = elim (in_use_cases (record state { rows = rows_after }) a i) [
    | inl j ↦ elim (used_before a j) [ inl e ↦ inl e | inr k ↦ inr (used_by_row old a k) ]
    | inr u ↦ inr (subst (λ x. IsIn x (in_use old)) (sym u.2) (thread_in_use old u.0 u.1))
  ]

  -- no two names share a number, if each is the new one or was in use
  pub distinct_with : (a b : Name) → (a ≡ new_name state t) ⊎ IsIn a (in_use old) → (b ≡ new_name state t) ⊎ IsIn b (in_use old) → (s n : ℕ)
      → number spaces a s ≡ Some n → number spaces b s ≡ Some n → a ≡ b
  distinct_with a b i j s n e f = grind (arith, fresh a, fresh b, sound.distinct a b, number_kept a, number_kept b)

  -- all such names are well numbered
  pub well_with : (a : Name) → (a ≡ new_name state t) ⊎ IsIn a (in_use old) → IsWellNumbered spaces old.pid_max a
  well_with a i = elim i [ inl e ↦ subst (IsWellNumbered spaces old.pid_max) (sym e) well_child | inr j ↦ well_kept a j ]

  -- ---- chains of parents

  -- the rows rise
  rise_after : IsRising (roots rows_after)
  rise_after = IsRising-insert child old.rows sound.rows_rise (λ r i. new_root r.name (own_in_use old r i))

  -- each row from before reaches number 1, which is there without a parent
  far_old : (r : Row) → IsIn r old.rows
      → (k : ℕ) × Far (parent_number rows_after) k (root_number r.name) × (parent_number rows_after 1 ≡ None) × IsIn 1 (roots rows_after)
  far_old r i = far_kept old sound rows_after rise_after (λ x. x) (λ x. Unit {0}) (λ x j _. (IsIn-insert_old child old.rows x j, refl, refl))
      (λ x q j k _ up live. tt) r i tt

  -- the rows from before have good parents
  parents_old : (r : Row) → IsIn r old.rows → HasGoodParents rows_after spaces r
  parents_old r i =
      let far = far_old r i in
      HasGoodParents-kept old.rows rows_after old.spaces spaces r r refl refl (ready.paths r.name (own_in_use old r i))
      (λ q j up live. (q, IsIn-insert_old child old.rows q j, refl, live)) (chain-in_rows _ far.2 far.3 far.0 _ far.1) (sound.parents r i)

  -- and so has the child
  parents_child : HasGoodParents rows_after spaces child
  parents_child =
      let far = far_old caller there in
      let up = parent_number-at rows_after (root_number child.name) child (row_at-listed rows_after rise_after child (IsIn-insert_new child old.rows)) in
      record {
        first = λ none. absurd (cc);
        good = λ parent e. let same : caller.name ≡ parent = cc in
            subst (IsGoodParent rows_after spaces child) same (record {
              lives = (caller, IsIn-insert_old child old.rows caller there, refl, lives);
              around = ready.around;
              outside = λ one here. ready.outside (number-new_name state t t 1 one).0 here;
            });
        chain = chain-in_rows rows_after far.2 far.3 (suc far.0) (root_number child.name) (root_number caller.name, up, far.1);
      }

  -- what holds of the child and of each row from before holds of each
  each_after : (P : Row → Type 0) → P child → ((r : Row) → IsIn r old.rows → P r) → (r : Row) → IsIn r rows_after → P r
  each_after P new before r i = elim (IsIn-from_insert child old.rows r i) [ inl e ↦ subst P (sym e) new | inr j ↦ before r j ]

  -- ---- namespaces and groups

  -- the child is in no namespace that has fallen
  child_outside : (s : Space) → IsIn s spaces → s.fallen ≡ true → number spaces child.name s.id ≡ None
  child_outside s i e = number-off_path spaces child.name s.id (λ j.
      let fell : ready.target.0.fallen ≡ true = (ready.fallen s i e).below ready.target.0 ready.target.1 (subst (λ x. IsIn s.id (path_up spaces x)) (sym ready.target.2) j) in
      let stands : ready.target.0.fallen ≡ false = ready.target.3 in cc)

  -- a namespace that stands has its live init, perhaps the child
  standing_after : (s : Space) → IsIn s spaces → s.fallen ≡ false → HasLiveInit rows_after spaces s.id
  standing_after s i e = elim (ready.standing s i e) [
    | inl r ↦ (r.0, IsIn-insert_old child old.rows r.0 r.1, r.2, r.3, r.4)
    | inr new ↦
        let one : number spaces child.name t ≡ Some 1 = number-new_name_at state t t (path_first spaces t) ∙ ap Some new.1 in
        (child, IsIn-insert_new child old.rows, refl, sym new.0, subst (λ x. number spaces child.name x ≡ Some 1) (sym new.0) one)
  ]

  -- a fallen one stays without a live task
  fallen_after : (s : Space) → IsIn s spaces → s.fallen ≡ true → IsEmptied rows_after spaces s.id
  fallen_after s i e =
      let em = ready.fallen s i e in
      record {
        ended = each_after (λ r. is_live r ≡ true → number spaces r.name s.id ≡ None) (λ live. child_outside s i e) (λ r j live. em.ended r j live);
        below = em.below;
      }

  -- one group, one session
  together_after : (a b : Row) → (a ≡ child) ⊎ IsIn a old.rows → (b ≡ child) ⊎ IsIn b old.rows → a.group ≡ b.group → a.session ≡ b.session
  together_after a b i j e = grind (arith, sound.groups.together a b, sound.groups.together caller b there, sound.groups.together a caller)

  -- that of the task which the group is named after
  leader_after : (a b : Row) → (a ≡ child) ⊎ IsIn a old.rows → (b ≡ child) ⊎ IsIn b old.rows → a.group ≡ b.name → a.session ≡ b.session
  leader_after a b i j e = grind (arith, sound.groups.leader a b, sound.groups.leader caller b there, group_in_use old.rows a, used_by_row old a.group, unused)

  -- a fork that is made leaves a coherent state, with ids below each stamp that those of the namespaces are below
  pub forked_coherent : IsCoherent (with_child state child path) × ((stamp : ℕ) → IsBelow stamp state → IsBelow stamp (with_child state child path))
  unfolding with_cursors
  forked_coherent =
      let k = spaces_leave (record state { rows = rows_after }) (moved_cursor state path) (λ s. (refl, refl, refl)) (record {
        distinct = λ a b i j. distinct_with a b (in_use_before a i) (in_use_before b j);
        numbered = λ a i. well_with a (in_use_before a i);
        parents = each_after (HasGoodParents rows_after spaces) parents_child parents_old;
        children = each_after (HasGoodChildrenSpace spaces) (inr (path_first spaces t)) ready.children;
        root = ready.root;
        standing = standing_after;
        fallen = fallen_after;
        groups = record {
          together = λ a b i j. together_after a b (IsIn-from_insert child old.rows a i) (IsIn-from_insert child old.rows b j);
          leader = λ a b i j. leader_after a b (IsIn-from_insert child old.rows a i) (IsIn-from_insert child old.rows b j);
        };
        rows_rise = rise_after;
        spaces = ready.tree;
        controls = sound.controls;
        limits = sound.limits;
        homes = each_after (λ r. (c : Control) × (control_at old.controls r.home ≡ Some c)) good_home sound.homes;
        threads = λ u i.
            let g = sound.threads u i in
            record {
              process = (g.process.0, IsIn-insert_old child old.rows g.process.0 g.process.1, g.process.2, g.process.3, g.process.4);
              apart = λ used. elim (used_before u.name used) [
                | inl e ↦ unused (subst (λ x. IsIn x (in_use old)) e (thread_in_use old u i))
                | inr k ↦ g.apart k
              ];
              children = ready.thread_children u i;
              home = g.home;
            };
        threads_rise = sound.threads_rise;
        left = λ name i.
            let m = sound.left name i in
            ((m.0.0, IsIn-insert_old child old.rows m.0.0 m.0.1, m.0.2, m.0.3), m.1);
        left_rise = sound.left_rise;
      }) in (
        k.0,
        λ stamp below. k.1 stamp (record {
          spaces = below.spaces;
          controls = below.controls;
          children = each_after (λ r. r.children_space < stamp) (rw ready.target.2 at (below.spaces ready.target.0 ready.target.1)) below.children;
          thread_children = below.thread_children;
        }),
      )

-- ---- a child in the children's namespace

-- the namespace that a fork goes into is there, and stands
pub standing_space : (state : State) (s : ℕ) → is_gone state s ≡ false → (t : Space) × (space_at state.spaces s ≡ Some t) × (t.fallen ≡ false)
standing_space state s h = grind arith

-- a namespace that stands is ready for a child
pub IsReady-old : (state : State) → IsCoherent state → (caller : Row) (into : ℕ) → IsIn caller state.rows → is_gone state into ≡ false
    → (space_at state.spaces into ≡ None) ⊎ IsIn caller.name.space (path_up state.spaces into)
    → find (λ s. is_none (draw state s)) (path_up state.spaces into) ≡ None → IsReady state state.spaces caller into
IsReady-old state sound caller into there stands good numbers =
    let s = standing_space state into stands in
    let at = space_at-Some state.spaces into s.0 s.1 in
    record {
      paths = λ a i. refl;
      listed = λ x t e. e;
      tree = sound.spaces;
      children = sound.children;
      thread_children = λ u i. (sound.threads u i).children;
      root = sound.root;
      standing = λ t i e. inl (sound.standing t i e);
      fallen = sound.fallen;
      target = (s.0, at.0, at.1, s.2);
      around = elim good [ inl none ↦ (let some : space_at state.spaces into ≡ Some s.0 = s.1 in absurd (let no : space_at state.spaces into ≡ None = none in cc)) | inr i ↦ i ];
      outside = λ one here.
          let r = sound.standing s.0 at.0 s.2 in
          let has : number state.spaces r.0.name into ≡ Some 1 = subst (λ x. number state.spaces r.0.name x ≡ Some 1) at.1 r.4 in
          let used : contains (taken state into) 1 ≡ true = contains-from_IsIn (taken state into) 1 (IsIn-taken state r.0.name into 1 (own_in_use state r.0 r.1) has) in
          let free : contains (taken state into) 1 ≡ false = subst (λ x. contains (taken state into) x ≡ false) one
          (drawn-free state (path_up state.spaces into) numbers into (path_first state.spaces into)).0 in
          cc;
    }

-- ---- a child in a new namespace

module _ (state : State) (sound : IsCoherent state) (stamp : ℕ) (below : IsBelow stamp state) (p : ℕ) (stands : is_gone state p ≡ false) (shallow : nat_le 32 (level state.spaces p) ≡ false) where
  -- the new namespace
  abbrev pub new : Space
  new = record { id = stamp; parent = Some p; cursor = 0; fallen = false }

  -- the namespaces with it
  abbrev pub with_new : List Space
  with_new = state.spaces ++ new ∷ []

  -- its parent is there, and stands
  pub parent_there : (t : Space) × (space_at state.spaces p ≡ Some t) × (t.fallen ≡ false)
  parent_there = standing_space state p stands

  -- those from before are found as before
  pub at_old : (x : ℕ) (s : Space) → space_at state.spaces x ≡ Some s → space_at with_new x ≡ Some s
  at_old x s e = at-push_old Space (λ t. t.id) (λ t. t.parent) state.spaces new below.spaces x s e

  -- the paths from before stay
  pub path_old : (id : ℕ) → IsOnTree state.spaces id → path_up with_new id ≡ path_up state.spaces id
  unfolding path_up
  path_old id on = chain-push Space (λ t. t.id) (λ t. t.parent) state.spaces new below.spaces (path_up state.spaces) sound.spaces 33 id on

  -- its parent's path ends at the root
  pub on_parent : IsOnTree state.spaces p
  on_parent = IsOnTree-listed state.spaces sound.spaces p parent_there.0 parent_there.1

  -- what is around the new namespace is it, or around its parent
  path_new_cases : (x : ℕ) → IsIn x (path_up with_new stamp) → (x ≡ stamp) ⊎ IsIn x (path_up state.spaces p)
  unfolding path_up
  path_new_cases x i = chain-new_cases Space (λ t. t.id) (λ t. t.parent) state.spaces new below.spaces (path_up state.spaces) sound.spaces 32 p x refl on_parent i

  -- and what is around its parent is around it
  path_new : (x : ℕ) → IsIn x (path_up state.spaces p) → IsIn x (path_up with_new stamp)
  unfolding path_up level
  path_new x i =
      let l : level state.spaces p < 32 = leb-false 32 (level state.spaces p) shallow in
      let room : length (climb (parent_space state.spaces) 33 p) ≤ 32 = omega arith in
      IsIn-chain_new Space (λ t. t.id) (λ t. t.parent) state.spaces new below.spaces (path_up state.spaces) sound.spaces 32 p x refl on_parent room i

  -- the names in use are on the tree as before
  name_on_tree : (a : Name) → IsIn a (in_use state) → IsOnTree state.spaces a.space
  name_on_tree a i = IsOnTree-name state.spaces state.pid_max sound.spaces a (sound.numbered a i)

  -- their paths stay
  pub name_path_old : (a : Name) → IsIn a (in_use state) → path_up with_new a.space ≡ path_up state.spaces a.space
  name_path_old a i = path_old a.space (name_on_tree a i)

  -- and their numbers
  pub number_old : (a : Name) → IsIn a (in_use state) → (s : ℕ) → number with_new a s ≡ number state.spaces a s
  number_old a i s = number-same_path state.spaces with_new a s (name_path_old a i)

  -- the namespaces with the new one are a tree
  tree_new : IsTreeOfSpaces with_new
  tree_new =
      IsTree-push Space (λ t. t.id) (λ t. t.parent) state.spaces new below.spaces (path_up state.spaces) (path_up with_new)
      (λ s i. path_old s.id (sound.spaces.chains s i)) (path_new 0 on_parent) elder sound.spaces
    where
      elder : p < stamp
      elder = let at = space_at-Some state.spaces p parent_there.0 parent_there.1 in subst (λ x. x < stamp) at.1 (below.spaces parent_there.0 at.0)

  -- the children's namespaces stay good
  children_new : (own into : ℕ) → into < stamp → (space_at state.spaces into ≡ None) ⊎ IsIn own (path_up state.spaces into)
      → (space_at with_new into ≡ None) ⊎ IsIn own (path_up with_new into)
  children_new own into l good = option_both (space_at state.spaces into) (λ _. (space_at with_new into ≡ None) ⊎ IsIn own (path_up with_new into))
      (λ e. inl (at-push_none Space (λ t. t.id) (λ t. t.parent) state.spaces new below.spaces into l e))
      (λ s e. elim good [
        | inl none ↦ absurd (let n : space_at state.spaces into ≡ None = none in cc)
        | inr j ↦ inr (subst (IsIn own) (sym (path_old into (IsOnTree-listed state.spaces sound.spaces into s e))) j)
      ])

  -- nothing has a number in the new namespace yet
  pub nothing_taken : taken (with_space state p stamp) stamp ≡ []
  nothing_taken = no_element (taken (with_space state p stamp) stamp) (λ n i.
      let u = user_of_number (with_space state p stamp) stamp n i in
      let w : IsIn stamp (path_up with_new u.0.space) = (number-within with_new u.0 stamp n u.2).0 in
      let l = path_listed state.spaces sound.spaces u.0.space stamp (name_on_tree u.0 u.1) (subst (IsIn stamp) (name_path_old u.0 u.1) w) in
      let some : space_at state.spaces stamp ≡ Some l.0 = l.1 in
      let none : space_at state.spaces stamp ≡ None = not_there Space (λ t. t.id) (λ t. t.parent) state.spaces new below.spaces in
      cc)

  -- the new namespace has drawn no number
  pub new_cursor : cursor_of (with_space state p stamp) stamp ≡ 0
  new_cursor = ap (λ o. unwrap_or (option_map (λ (t : Space). t.cursor) o) 0) (at-push_new Space (λ t. t.id) (λ t. t.parent) state.spaces new below.spaces)

  -- so it gives 1
  first_drawn : find (λ s. is_none (draw (with_space state p stamp) s)) (path_up with_new stamp) ≡ None → drawn (with_space state p stamp) stamp ≡ 1
  unfolding draw
  first_drawn numbers =
      let n : ℕ = drawn (with_space state p stamp) stamp in
      let f = drawn-free (with_space state p stamp) (path_up with_new stamp) numbers stamp (path_first with_new stamp) in
      let c : IsCyclicDraw state.pid_max 0 [] (cyclic_draw state.pid_max 0 []) = draw_is_least state.pid_max 0 [] in
      let d : cyclic_draw state.pid_max 0 [] ≡ Some n = ap (λ k. cyclic_draw state.pid_max k []) (sym new_cursor) ∙ ap (cyclic_draw state.pid_max (cursor_of (with_space state p stamp) stamp)) (sym nothing_taken) ∙ f.3 in
      least n (subst (IsCyclicDraw state.pid_max 0 []) d c)
    where
      least : (n : ℕ) → IsCyclicDraw state.pid_max 0 [] (Some n) → n ≡ 1
      least n (inl is) = grind (arith, is.least 1, is.from)
      least n (inr r) = grind (arith, r.1.least 1, r.1.from)

  -- the new namespace is ready for its init
  pub IsReady-new : (caller : Row) → IsIn caller state.rows → (p ≡ caller.name.space)
      → find (λ s. is_none (draw (with_space state p stamp) s)) (path_up with_new stamp) ≡ None → IsReady state with_new caller stamp
  IsReady-new caller there here numbers = record {
    paths = name_path_old;
    listed = at_old;
    tree = tree_new;
    children = λ r i. children_new r.name.space r.children_space (below.children r i) (sound.children r i);
    thread_children = λ u i. children_new u.name.space u.children_space (below.thread_children u i) (sound.threads u i).children;
    root = each_pushed (λ (s : Space). s.id ≡ 0 → s.fallen ≡ false) state.spaces new sound.root (λ e. refl);
    standing = each_pushed (λ (s : Space). s.fallen ≡ false → HasLiveInit state.rows with_new s.id ⊎
        ((s.id ≡ stamp) × (drawn (with_space state p stamp) stamp ≡ 1))) state.spaces new
        (λ s j e. inl (let r = sound.standing s j e in (r.0, r.1, r.2, r.3, number_old r.0.name (own_in_use state r.0 r.1) s.id ∙ r.4)))
        (λ e. inr (refl, first_drawn numbers));
    fallen = each_pushed (λ (s : Space). s.fallen ≡ true → IsEmptied state.rows with_new s.id) state.spaces new emptied (λ e. absurd (cc));
    target = (new, IsIn-append_right new state.spaces (new ∷ []) (inl refl), refl, refl);
    around = path_new caller.name.space (subst (λ x. IsIn x (path_up state.spaces p)) here (path_first state.spaces p));
    outside = λ one same.
        let at = space_at-Some state.spaces p parent_there.0 parent_there.1 in
        let l : parent_there.0.id < stamp = below.spaces parent_there.0 at.0 in omega (arith, at.1);
  }
    where
      emptied : (s : Space) → IsIn s state.spaces → s.fallen ≡ true → IsEmptied state.rows with_new s.id
      emptied s j e =
          let em = sound.fallen s j e in
          record {
            ended = λ r k live. number_old r.name (own_in_use state r k) s.id ∙ em.ended r k live;
            below = each_pushed (λ (u : Space). IsIn s.id (path_up with_new u.id) → u.fallen ≡ true) state.spaces new
                (λ u old w. em.below u old (subst (IsIn s.id) (path_old u.id (sound.spaces.chains u old)) w)) (λ w. absurd (below_new s j e w));
          }
        where
          below_new : (s : Space) → IsIn s state.spaces → s.fallen ≡ true → IsIn s.id (path_up with_new stamp) → ⊥
          below_new s j e w = elim (path_new_cases s.id w) [
            | inl same ↦ (let l : s.id < stamp = below.spaces s j in omega arith)
            | inr up ↦
                let at = space_at-Some state.spaces p parent_there.0 parent_there.1 in
                let fell : parent_there.0.fallen ≡ true = (sound.fallen s j e).below parent_there.0 at.0 (subst (λ x. IsIn s.id (path_up state.spaces x)) (sym at.1) up) in
                let still : parent_there.0.fallen ≡ false = parent_there.2 in cc
          ]

-- ---- the call

-- where the calling thread is counted is there, and where its children go is dropped, or its process's namespace or below it, with an old id
pub as_thread_good : (state : State) (n : ℕ) (caller : Row) → IsCoherent state → caller_of state n ≡ Some caller
    → ((c : Control) × (control_at state.controls (as_thread state n caller).home ≡ Some c))
    × ((space_at state.spaces (as_thread state n caller).children_space ≡ None)
    ⊎ IsIn caller.name.space (path_up state.spaces (as_thread state n caller).children_space))
    × ((stamp : ℕ) → IsBelow stamp state → (as_thread state n caller).children_space < stamp)
as_thread_good state n caller sound h = go (thread_at state n) refl
  where
    i : IsIn caller state.rows
    i = (caller_of-Some state n caller h).0

    go : (o : Option Thread) → thread_at state n ≡ o
        → ((c : Control) × (control_at state.controls (option_map_or (λ (t : Thread). t.home) o caller.home) ≡ Some c))
        × ((space_at state.spaces (option_map_or (λ (t : Thread). t.children_space) o caller.children_space) ≡ None)
        ⊎ IsIn caller.name.space (path_up state.spaces (option_map_or (λ (t : Thread). t.children_space) o caller.children_space)))
        × ((stamp : ℕ) → IsBelow stamp state → option_map_or (λ (t : Thread). t.children_space) o caller.children_space < stamp)
    go None none = (sound.homes caller i, sound.children caller i, λ stamp below. below.children caller i)
    go (Some t) some =
        let j = (thread_at-Some state n t some).0 in
        let good = sound.threads t j in
        let own : t.name.space ≡ caller.name.space = thread_space state sound t caller j i (caller_thread state sound n caller t h some) in (
          good.home,
          elim good.children [ inl none ↦ inl none | inr up ↦ inr (subst (λ x. IsIn x (path_up state.spaces t.children_space)) own up) ],
          λ stamp below. below.thread_children t j,
        )

-- a child in the children's namespace leaves a coherent state
pub forked_leaves : (state : State) (n : ℕ) (caller : Row) → IsCoherent state → caller_of state n ≡ Some caller
    → (let own = as_thread state n caller in
    is_gone state own.children_space ≡ false → MayFork state own own.children_space
    → Leaves state (with_child state (child_of state own own.children_space) (path_up state.spaces own.children_space)))
forked_leaves state n caller sound found stands may =
    let c = caller_of-Some state n caller found in
    let own = as_thread state n caller in
    let good = as_thread_good state n caller sound found in
    forked_coherent state sound state.spaces caller own.children_space (IsReady-old state sound caller own.children_space c.0 stands good.1 may.numbers)
    c.0 c.1 may.numbers own.home own.children_space good.0

-- and so does one in a new namespace
pub forked_first_keeps : (state : State) (stamp n : ℕ) (caller : Row) → IsCoherent state → IsBelow stamp state → caller_of state n ≡ Some caller
    → (let own = as_thread state n caller in
    is_gone state own.children_space ≡ false → nat_le 32 (level state.spaces own.children_space) ≡ false
    → (own.children_space == caller.name.space) ≡ true → MayFork (with_space state own.children_space stamp) own stamp
    → (let planned = with_space state own.children_space stamp in
    let next = with_child planned (child_of planned own stamp) (path_up planned.spaces stamp) in
    IsCoherent next × IsBelow (stamp + 1) next))
forked_first_keeps state stamp n caller sound below found stands shallow here may =
    let c = caller_of-Some state n caller found in
    let own = as_thread state n caller in
    let p : ℕ = own.children_space in
    let good = as_thread_good state n caller sound found in
    let ready = IsReady-new state sound stamp below p stands shallow caller c.0 (eqb-true p caller.name.space here) may.numbers in
    let k = forked_coherent state sound (with_new state sound stamp below p stands shallow) caller stamp ready c.0 c.1 may.numbers own.home p good.0 in
    let more = IsBelow-next stamp state below in (
      k.0,
      k.1 (stamp + 1) (record {
        spaces = each_pushed (λ (s : Space). s.id < stamp + 1) state.spaces _ more.spaces (omega arith);
        controls = more.controls;
        children = more.children;
        thread_children = more.thread_children;
      }),
    )
