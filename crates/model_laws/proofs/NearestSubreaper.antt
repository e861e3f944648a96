-- Who takes the children of a task that ends: the nearest subreaper, or else the init.
use Rattle.model_laws.proofs.Words.{◌≡◌, ℕ, zero, suc, ◌+◌, ◌<◌, Bool, true, false, ◌&&◌, ◌==◌, [], length, Option, Some, None, refl, sym, ap, ◌∙◌, subst, inl, inr, arith, find, option_map, drop, option_map_or, cases_Bool, false_from_ne_true, Row, IsIn, climb, State, root_number, is_live, row_at, task_numbered, parent_number, ancestors, is_subreaper_in, nearest_subreaper, new_parent, IsCoherent, number, path_up, Decides, Decides-at, Decides-and, Decides-eqb}
use Rattle.model_laws.proofs.Ground.{Climbs, in_climb, climb_in, find-None, own_in_use, number-on_path, option_both, row_at-listed, path_first, space_at-Some, task_at-own}
use Rattle.model_laws.specs.ParentLaws.{IsAbove, HasNoSubreaper, TakesOrphans}
use Rattle.model_laws.proofs.Ancestry.{parent_number-at, top_row, row_parent, one_step, nearer}

-- what is found along a chain is so many parents above its beginning, and nothing nearer passes
find-climb : (f : ℕ → Option ℕ) (p : ℕ → Bool) (k n m : ℕ) → find p (climb f k n) ≡ Some m
    → (j : ℕ) × Climbs f j n m × (p m ≡ true) × ((i x : ℕ) → i < j → Climbs f i n x → p x ≡ false)
unfolding climb
find-climb f p zero n m h = absurd (cc)
find-climb f p (suc k) n m h = elim (cases_Bool (p n)) [
  | inl e ↦ (let same : n ≡ m = grind arith in (0, same, ap p (sym same) ∙ e, λ i x l c. absurd (omega arith)))
  | inr e ↦
      let q : (q : ℕ) × (f n ≡ Some q) × (find p (climb f k q) ≡ Some m) = grind arith in
      let r = find-climb f p k q.0 m q.2 in
      (suc r.0, (q.0, q.1, r.1), r.2, nearer q.0 q.1 e r.0 r.3)
]
  where
    nearer : (q : ℕ) → f n ≡ Some q → p n ≡ false → (j : ℕ) → ((i x : ℕ) → i < j → Climbs f i q x → p x ≡ false) → (i x : ℕ) → i < suc j
        → Climbs f i n x → p x ≡ false
    nearer q e miss j all zero x l c = ap p (sym c) ∙ miss
    nearer q e miss j all (suc i) x l c = all i x (omega arith) (subst (λ z. Climbs f i z x) (one_step f n c.0 q c.1 e) c.2)

module _ (state : State) (sound : IsCoherent state) where
  -- the parent of the task with the root number, by its own
  abbrev parent_of : ℕ → Option ℕ
  parent_of = parent_number state.rows

  -- a row's parent by its number
  parent_is : (r : Row) → IsIn r state.rows → (parent : Row) → r.parent ≡ Some parent.name → parent_of (root_number r.name) ≡ Some (root_number parent.name)
  parent_is r i parent e = parent_number-at state.rows (root_number r.name) r (row_at-listed state.rows sound.rows_rise r i) ∙ ap (option_map root_number) e

  -- a task above is so many parents above by its number
  pub climbs : (k : ℕ) (a task : Row) → IsIn task state.rows → IsAbove state.rows k a task
      → Climbs parent_of k (root_number task.name) (root_number a.name)
  climbs zero a task i e = ap (λ (r : Row). root_number r.name) (sym e)
  climbs (suc k) a task i up = (root_number up.0.name, parent_is task i up.0 up.2, climbs k a up.0 up.1 up.3)

  -- and back: what is so many parents above a live task is one
  above : (k m : ℕ) (task : Row) → IsIn task state.rows → is_live task ≡ true → Climbs parent_of k (root_number task.name) m
      → (a : Row) × IsIn a state.rows × (is_live a ≡ true) × (root_number a.name ≡ m) × IsAbove state.rows k a task
  above zero m task i live e = (task, i, live, e, refl)
  above (suc k) m task i live c =
      let u = row_parent state sound task i c.0 c.1 in
      let r = above k m u.0 u.1 u.3 (subst (λ z. Climbs parent_of k z m) (sym u.2) c.2) in
      (r.0, r.1, r.2, r.3, (u.0, u.1, u.4, r.4))

  -- ---- the nearest

  -- the test of a subreaper, by its number
  marked : (space : ℕ) (a : Row) → IsIn a state.rows
      → Decides (is_subreaper_in state.rows space (root_number a.name)) ((a.subreaper ≡ true) × (a.name.space ≡ space))
  marked space a i =
      Decides-at _ _ (ap (λ o. option_map_or (λ (r : Row). r.subreaper && (r.name.space == space)) o false) (row_at-listed state.rows sound.rows_rise a i))
      (Decides-and a.subreaper (a.name.space == space) (λ e. e, λ e. e) (Decides-eqb a.name.space space))

  -- a task above another is there
  there_above : (k : ℕ) (a task : Row) → IsIn task state.rows → IsAbove state.rows k a task → IsIn a state.rows
  there_above zero a task i e = subst (λ r. IsIn r state.rows) (sym e) i
  there_above (suc k) a task i up = there_above k a up.0 up.1 up.3

  module _ (task : Row) (i : IsIn task state.rows) (live : is_live task ≡ true) where
    -- the ancestors are the chain of the parent, where there is one
    ancestors-are : ancestors state.rows task ≡ option_map_or (climb parent_of (length state.rows)) (parent_of (root_number task.name)) []
    unfolding climb
    ancestors-are =
        let more : length state.rows + 1 ≡ suc (length state.rows) = omega arith in ap (λ k. drop 1 (climb parent_of k (root_number task.name))) more

    -- a subreaper that is found is the nearest
    nearest-found : (m : ℕ) → nearest_subreaper state.rows task ≡ Some m → (a : Row) × (root_number a.name ≡ m) × TakesOrphans state task a
    nearest-found m h =
        option_both (parent_of (root_number task.name)) (λ o.
        find (is_subreaper_in state.rows task.name.space) (option_map_or (climb parent_of (length state.rows)) o []) ≡ Some m
        → (a : Row) × (root_number a.name ≡ m) × TakesOrphans state task a) (λ e none. absurd (cc)) (λ q e some.
        let f = find-climb parent_of (is_subreaper_in state.rows task.name.space) (length state.rows) q m some in
        let a = above (suc f.0) m task i live (q, e, f.1) in
        let t = (marked task.name.space a.0 a.1).0 (rw a.3 f.2) in (
          a.0,
          a.3,
          record {
            there = a.1;
            lives = a.2;
            beside = t.1;
            who = inl (record {
              distance = f.0;
              is = record { above = a.4; beside = t.1; marked = t.0 };
              nearest = λ k b l s.
                  let c = climbs (suc k) b task i s.above in
                  let never = f.3 k (root_number b.name) l (subst (λ z. Climbs parent_of k z (root_number b.name)) (one_step parent_of _ c.0 q c.1 e) c.2) in
                  let yes = (marked task.name.space b (there_above (suc k) b task i s.above)).1 (s.marked, s.beside) in
                  cc;
            });
          },
        ))
        (ap (find (is_subreaper_in state.rows task.name.space)) (sym ancestors-are) ∙ h)

    -- where none is found there is none
    nearest-none : nearest_subreaper state.rows task ≡ None → HasNoSubreaper state.rows task
    nearest-none h k b s =
        let c = climbs (suc k) b task i s.above in
        let there : IsIn b state.rows = there_above (suc k) b task i s.above in
        let way = in_climb parent_of (length state.rows) (root_number task.name) 1 (sound.parents task i).chain in
        let near = nearer parent_of (top_row state sound) (suc k) way.0 (root_number task.name) (root_number b.name) c way.1 in
        let p : ℕ → Bool = is_subreaper_in state.rows task.name.space in
        let none : find p (climb parent_of (length state.rows) c.0) ≡ None =
        ap (λ o. find p (option_map_or (climb parent_of (length state.rows)) o [])) (sym c.1) ∙ ap (find p) (sym ancestors-are) ∙ h in
        let never = find-None p _ none (root_number b.name) (climb_in parent_of _ k c.0 _ c.2 (omega (arith, near.2, way.2))) in
        let yes : is_subreaper_in state.rows task.name.space (root_number b.name) ≡ true = (marked task.name.space b there).1 (s.marked, s.beside) in
        cc

-- the init of a live task's namespace lives there, and is number 1 there
init_beside : (state : State) → IsCoherent state → (task : Row) → IsIn task state.rows → is_live task ≡ true
    → (init : Row) × IsIn init state.rows × (is_live init ≡ true) × (init.name.space ≡ task.name.space)
    × (number state.spaces init.name task.name.space ≡ Some 1)
init_beside state sound task there lives =
    let well = sound.numbered task.name (own_in_use state task there) in
    let on = path_first state.spaces task.name.space in
    let l = well.listed task.name.space on in
    let at = space_at-Some state.spaces task.name.space l.0 l.1 in
    let stands : l.0.fallen ≡ false = false_from_ne_true l.0.fallen (λ e.
    let no : number state.spaces task.name l.0.id ≡ None = (sound.fallen l.0 at.0 e).ended task there lives in
    let yes = number-on_path state.spaces task.name l.0.id well.one_each (subst (λ x. IsIn x (path_up state.spaces task.name.space)) (sym at.1) on) in
    let has : number state.spaces task.name l.0.id ≡ Some yes.0 = yes.1 in cc) in
    let i = sound.standing l.0 at.0 stands in
    (i.0, i.1, i.2, subst (λ x. i.0.name.space ≡ x) at.1 i.3, subst (λ x. number state.spaces i.0.name x ≡ Some 1) at.1 i.4)

-- the new parent is the nearest subreaper, or else the init
pub takes_orphans : (state : State) (task : Row) → IsCoherent state → IsIn task state.rows → is_live task ≡ true
    → (heir : Row) × (new_parent state task ≡ Some heir.name) × TakesOrphans state task heir
unfolding new_parent
takes_orphans state task sound i lives =
    option_both (nearest_subreaper state.rows task) (λ o. (heir : Row)
    × (option_map (λ (r : Row). r.name) (option_map_or (row_at state.rows) o (task_numbered state task.name.space 1)) ≡ Some heir.name)
    × TakesOrphans state task heir)
    (λ e.
    let b = init_beside state sound task i lives in
    let none = nearest-none state sound task i lives e in
    let at = task_at-own state sound b.0 b.1 task.name.space 1 b.4 in
    (b.0, ap (option_map (λ (r : Row). r.name)) at, record { there = b.1; lives = b.2; beside = b.3; who = inr (none, b.4) }))
    (λ m e.
    let a = nearest-found state sound task i lives m e in
    let at : row_at state.rows m ≡ Some a.0 = subst (λ x. row_at state.rows x ≡ Some a.0) a.1 (row_at-listed state.rows sound.rows_rise a.0 a.2.there) in
    (a.0, ap (option_map (λ (r : Row). r.name)) at, a.2))
