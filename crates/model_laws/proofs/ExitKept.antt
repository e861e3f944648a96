-- Exit leaves a sound state.
use Rattle.model_laws.proofs.Words.{◌≡◌, ℕ, zero, suc, Bool, true, false, List, map, length, Option, Some, None, refl, sym, ap, ◌∙◌, subst, inl, inr, arith, option_map, option_and_then, if◌then◌else◌, cases_eq, Name, Row, Thread, Ended, Exited, climb, State, path_up, number, root_number, is_parent, is_live, row_at, is_init, parent_number, row_after_exit, rows_after_exit, handed_over, is_thread_of, not, same_name, IsIn, HasGoodParents, IsCoherent, map-id, filter}
use Rattle.model_laws.proofs.Ground.{Climbs, IsIn-map, is_parent-true, is_parent-from, same_name-true, is_numbered-from, unique_key, row_at-map, row_at-listed, path_trans, path_antisym}
use Rattle.model_laws.specs.ParentLaws.{TakesOrphans}
use Rattle.model_laws.proofs.NearestSubreaper.{climbs, takes_orphans}
use Rattle.model_laws.proofs.SpaceMaps.{HasGoodParents-kept}
use Rattle.model_laws.proofs.Ancestry.{Far, Far-unique, Far-same, IsIn-roots, chain-in_rows, row_on_tree, root_init_row, top_row, row_far, parent_row, row_parent, nearer, one_step}
use Rattle.model_laws.proofs.Survivors.{Leaves, leaves, all_stay, all_there, settled, pairs, others_go_on}

-- ---- the rows after a task ended

module _ (state : State) (sound : IsCoherent state) (task heir : Row) (ended : Ended) (there : IsIn task state.rows)
    (no_init : number state.spaces task.name task.name.space ≡ Some 1 → ⊥) (takes : TakesOrphans state task heir) where
  -- the row after the exit
  abbrev after : Row → Row
  after = row_after_exit task (Some heir.name) ended

  -- the rows after the exit
  abbrev rows_after : List Row
  rows_after = map after state.rows

  -- each number's parent before
  abbrev old_parent : ℕ → Option ℕ
  old_parent = parent_number state.rows

  -- each number's parent after
  abbrev next_parent : ℕ → Option ℕ
  next_parent = parent_number rows_after

  -- the root number of the task that ends
  abbrev root_of_task : ℕ
  root_of_task = root_number task.name

  -- the task's children have the heir as parent
  parent_of_child : (r : Row) → is_parent task.name r ≡ true → (after r).parent ≡ Some heir.name
  parent_of_child r e = ap (λ b. if b then Some heir.name else r.parent) e

  -- the others keep theirs
  parent_of_other : (r : Row) → is_parent task.name r ≡ false → (after r).parent ≡ r.parent
  parent_of_other r e = ap (λ b. if b then Some heir.name else r.parent) e

  -- who is not the task lives on
  others_live : (r : Row) → (r.name ≡ task.name → ⊥) → is_live r ≡ true → is_live (after r) ≡ true
  others_live r differs live = grind (arith, same_name-true r.name task.name)

  -- who lives after lived before
  lived : (r : Row) → is_live (after r) ≡ true → is_live r ≡ true
  lived r live = grind arith

  -- ---- chains of parents

  -- who is no child of the task keeps its parent
  same_parent : (n : ℕ) → (old_parent n ≡ Some root_of_task → ⊥) → next_parent n ≡ old_parent n
  same_parent n differs =
      let m : row_at rows_after n ≡ option_map after (row_at state.rows n) = row_at-map after (λ r. refl) state.rows n in
      grind (arith, is_parent-true task.name)

  -- the task's children go to the heir
  child_parent : (n : ℕ) → old_parent n ≡ Some root_of_task → next_parent n ≡ Some (root_number heir.name)
  child_parent n e =
      let u = parent_row state sound n root_of_task e in
      let same : u.1 ≡ task = unique_key (λ (r : Row). root_number r.name) state.rows sound.rows_rise u.1 task u.4 there u.5 in
      let child : is_parent task.name u.0 ≡ true = is_parent-from task.name u.0 (u.7 ∙ ap (λ (r : Row). Some r.name) same) in
      let at : row_at state.rows n ≡ Some u.0 = subst (λ m. row_at state.rows m ≡ Some u.0) u.3 (row_at-listed state.rows sound.rows_rise u.0 u.2) in
      ap (option_and_then (λ (r : Row). option_map root_number r.parent)) (row_at-map after (λ r. refl) state.rows n ∙ ap (option_map after) at)
      ∙ ap (option_map root_number) (parent_of_child u.0 child)

  -- what is strictly around the task's namespace is no descendant of it
  around : (j : ℕ) (x : Row) → IsIn x state.rows → IsIn x.name.space (path_up state.spaces task.name.space) → (x.name.space ≡ task.name.space → ⊥)
      → Climbs old_parent j (root_number x.name) root_of_task → ⊥
  around zero x i up outside c = outside (ap (λ (r : Row). r.name.space) (unique_key (λ (r : Row). root_number r.name) _ sound.rows_rise x task i there c))
  around (suc j) x i up outside c =
      let u = row_parent state sound x i c.0 c.1 in
      let g = (sound.parents x i).good u.0.name u.4 in
      let on = row_on_tree state sound task there in
      around j u.0 u.1 (path_trans state.spaces sound.spaces task.name.space x.name.space u.0.name.space on up g.around)
      (λ here. outside (path_antisym state.spaces sound.spaces _ _ on up (subst (λ s. IsIn s (path_up state.spaces x.name.space)) here g.around)))
      (subst (λ z. Climbs old_parent j z root_of_task) (sym u.2) c.2)

  -- nor is the init of its namespace
  init_apart : number state.spaces heir.name task.name.space ≡ Some 1 → (j : ℕ) → Climbs old_parent j (root_number heir.name) root_of_task → ⊥
  init_apart one zero c =
      let same : heir ≡ task = unique_key (λ (r : Row). root_number r.name) state.rows sound.rows_rise heir task takes.there there c in
      no_init (subst (λ (r : Row). number state.spaces r.name task.name.space ≡ Some 1) same one)
  init_apart one (suc j) c =
      let u = row_parent state sound heir takes.there c.0 c.1 in
      let g = (sound.parents heir takes.there).good u.0.name u.4 in
      around j u.0 u.1 (subst (λ s. IsIn u.0.name.space (path_up state.spaces s)) takes.beside g.around)
      (λ here. g.outside (subst (λ s. number state.spaces heir.name s ≡ Some 1) (sym takes.beside) one) (here ∙ sym takes.beside))
      (subst (λ z. Climbs old_parent j z root_of_task) (sym u.2) c.2)

  -- so the heir is no descendant of the task
  apart : (j : ℕ) → Climbs old_parent j (root_number heir.name) root_of_task → ⊥
  apart j c = elim takes.who [
    | inl near ↦
        let top = top_row state sound in
        let far = row_far state sound task there in
        let up = climbs state sound (suc near.distance) heir task there near.is.above in
        let h = nearer old_parent top (suc near.distance) far.0 root_of_task (root_number heir.name) up far.1 in
        let b = nearer old_parent top j h.0 (root_number heir.name) root_of_task c h.1 in
        let same : b.0 ≡ far.0 = Far-unique old_parent top b.0 far.0 root_of_task b.1 far.1 in omega (arith, h.2, b.2)
    | inr init ↦ init_apart init.1 j c
  ]

  -- number 1 is reached from the heir
  heir_far : (k : ℕ) × Far next_parent k (root_number heir.name)
  heir_far =
      let far = row_far state sound heir takes.there in (
        far.0,
        (Far-same old_parent next_parent (λ n. (j : ℕ) → Climbs old_parent j n root_of_task → ⊥) (λ n free. same_parent n (λ e. free 1 (root_of_task, e, refl)))
            (λ n q free e j c. free (suc j) (q, e, c)) far.0 (root_number heir.name) far.1 apart).0,
      )

  -- and so it is from each number
  far_after : (k n : ℕ) → Far old_parent k n → (m : ℕ) × Far next_parent m n
  far_after zero n e = (0, e)
  far_after (suc k) n far = elim (cases_eq far.0 root_of_task) [
    | inl same ↦ (suc heir_far.0, (root_number heir.name, child_parent n (far.1 ∙ ap Some same), heir_far.1))
    | inr differs ↦
        let rest = far_after k far.0 far.2 in
        (suc rest.0, (far.0, same_parent n (λ e. differs (one_step old_parent n far.0 root_of_task far.1 e)) ∙ far.1, rest.1))
  ]

  -- ---- the state

  parents_after : (r : Row) → IsIn r state.rows → HasGoodParents rows_after state.spaces (after r)
  parents_after r i = by (is_parent task.name r) refl
    where
      chain : IsIn 1 (climb next_parent (length rows_after) (root_number r.name))
      chain =
          let far = row_far state sound r i in
          let f = far_after far.0 (root_number r.name) far.1 in
          let top = root_init_row state sound in
          let no_parent : old_parent 1 ≡ Some root_of_task → ⊥ = λ e. (let none : old_parent 1 ≡ None = top_row state sound in cc) in
          let at : row_at rows_after 1 ≡ Some (after top.0) = row_at-map after (λ r. refl) state.rows 1 ∙ ap (option_map after) (subst (λ m. row_at state.rows m ≡ Some top.0) top.4 (row_at-listed state.rows sound.rows_rise top.0 top.1)) in
          chain-in_rows rows_after (same_parent 1 no_parent ∙ top_row state sound) (IsIn-roots rows_after 1 (after top.0) at) f.0
          (root_number r.name) f.1

      by : (b : Bool) → is_parent task.name r ≡ b → HasGoodParents rows_after state.spaces (after r)
      by false e = HasGoodParents-kept state.rows rows_after state.spaces state.spaces r (after r) refl (parent_of_other r e) refl
          (λ q j up live. (after q, IsIn-map after q state.rows j, refl, others_live q (λ same. let child : is_parent task.name r ≡ true = is_parent-from task.name r (up ∙ ap Some same) in cc) live)) chain (sound.parents r i)
      by true e =
          let own : (after r).parent ≡ Some heir.name = parent_of_child r e in
          let g = (sound.parents r i).good task.name (is_parent-true task.name r e) in
          record {
            first = λ none. absurd (cc);
            good = λ parent f.
                let same : heir.name ≡ parent = cc in
                let at : parent.space ≡ task.name.space = ap (λ (a : Name). a.space) (sym same) ∙ takes.beside in
                record {
                  lives = (after heir, IsIn-map after heir state.rows takes.there, same, others_live heir (λ e. apart 0 (ap root_number e)) takes.lives);
                  around = subst (λ x. IsIn x (path_up state.spaces r.name.space)) (sym at) g.around;
                  outside = λ one here. g.outside one (sym at ∙ here);
                };
            chain = chain;
          }

  -- the threads after the exit, and the marks
  abbrev threads_after : List Thread
  threads_after = filter (λ t. not (is_thread_of task.name t)) state.threads

  abbrev left_after : List Name
  left_after = filter (λ name. not (same_name name task.name)) state.left

  pub exit_leaves : Leaves state (record state { rows = rows_after; threads = threads_after; left = left_after })
  exit_leaves = leaves state all_stay after (λ s. s) threads_after left_after sound (record {
    names = λ r. refl;
    rows = settled state sound;
    groups = pairs state.rows sound.groups;
    parents = λ r i stays. subst (λ rows. HasGoodParents rows state.spaces (after r)) (sym (all_there after state.rows)) (parents_after r i);
    spaces = λ s. (refl, refl);
    standing = λ s i e. (
      e,
      λ r j live here one. (
        refl,
        others_live r (λ same.
            let own : s.id ≡ task.name.space = sym here ∙ ap (λ (a : Name). a.space) same in
            no_init (subst (λ a. number state.spaces a task.name.space ≡ Some 1) same
            (subst (λ x. number state.spaces r.name x ≡ Some 1) own one))) live,
      ),
    );
    fallen = λ s i e. let em = sound.fallen s i e in (λ r j stays live. em.ended r j (lived r live), em.below);
    root = sound.root;
    go_on = others_go_on state sound task.name after (λ r. refl) others_live;
  }) _ _ (all_there after state.rows) (map-id state.spaces)

-- ---- the call

-- an exit that lets no namespace fall leaves a coherent state
pub handed_on_leaves : (state : State) (status : ℕ) (caller : Row) → IsCoherent state → IsIn caller state.rows → is_live caller ≡ true
    → is_init state caller ≡ false → Leaves state (handed_over state caller status)
unfolding rows_after_exit handed_over
handed_on_leaves state status caller sound i live none =
    let no_init : number state.spaces caller.name caller.name.space ≡ Some 1 → ⊥ = λ e. (let yes : is_init state caller ≡ true = is_numbered-from state.spaces caller.name caller.name.space 1 e in cc) in
    let h = takes_orphans state caller sound i live in
    subst (λ o. Leaves state (record state { rows = map (row_after_exit caller o (Exited status)) state.rows; threads = filter (λ (t : Thread). not (is_thread_of caller.name t)) state.threads; left = filter (λ (a : Name). not (same_name a caller.name)) state.left })) (sym h.1)
    (exit_leaves state sound caller h.0 (Exited status) i no_init h.2)
