-- Calls that make, change and end threads leave a sound state.
use Rattle.model_laws.proofs.Words.{◌≡◌, ℕ, ◌+◌, ◌<◌, ◌≤◌, Bool, true, false, not, ◌==◌, List, [], ◌∷◌, map, length, Some, None, refl, sym, ap, ◌∙◌, subst, ◌⊎◌, inl, inr, arith, filter, option_map_or, if◌then◌else◌, eqb-true, eqb-false, ne_eqb, not_from_false, false_from_ne_true, cases_Bool, map-id, Name, Row, Space, Thread, Control, State, space_at, path_up, number, root_number, is_live, same_name, in_use, on_row, with_row, is_thread_of, running, thread_at, caller_of, as_thread, process_numbered, new_name, insert_thread, thread_of, with_thread, moved_cursor, with_cursors, without_thread, set_executed, after_exec, set_home, set_thread_home, with_home, set_thread_space, control_at, IsIn, IsRising, IsGoodThread, IsCoherent, IsBelow, IsGoodMark, has_left, without_first, insert_by}
use Rattle.model_laws.proofs.Ground.{number-on_path, IsIn-map, IsIn-from_map, IsIn-filter, IsIn-from_filter, IsRising-filter, on_row-keeps, on_row-both, own_in_use, used_by_row, thread_in_use, in_use_cases, same_row, path_first, space_at-Some, caller_of-Some, thread_space}
use Rattle.model_laws.proofs.Calls.{MayFork}
use Rattle.model_laws.proofs.Survivors.{Leaves, IsSettled, settled, KeepsThreads, all_there, all_go_on, own_leaves_with, spaces_leave, IsOwn, others_go_on}
use Rattle.model_laws.proofs.Inserts.{IsIn-from_insert_by, IsIn-insert_by_old, IsRising-insert_by}
use Rattle.model_laws.proofs.Kept.{numbered_within, own_space_below}
use Rattle.model_laws.proofs.ForkKept.{IsReady, IsReady-old, unused, new_root, distinct_with, well_with, as_thread_good}
use Rattle.model_laws.proofs.Callers.{is_thread_of-true, is_thread_of-from, has_left-from, same_thread, thread_at-Some, caller_thread, caller_first}

-- ---- threads of a process

-- a list that is not empty has an element
some_element : {X : Type 0} (xs : List X) → 0 < length xs → (x : X) × IsIn x xs
some_element [] l = absurd (omega arith)
some_element (x ∷ xs) l = (x, inl refl)

-- of two or more rising threads one has another root number
another : (n : ℕ) (ts : List Thread) → IsRising (map (λ t. root_number t.name) ts) → 2 ≤ length ts
    → (u : Thread) × IsIn u ts × ((root_number u.name == n) ≡ false)
another n [] rise l = absurd (omega arith)
another n (a ∷ []) rise l = absurd (omega arith)
another n (a ∷ b ∷ ts) rise l = elim (cases_Bool (root_number a.name == n)) [
  | inr e ↦ (a, inl refl, e)
  | inl e ↦
      let same : root_number a.name ≡ n = eqb-true (root_number a.name) n e in
      let above : root_number a.name < root_number b.name = rise.0 (root_number b.name) (inl refl) in
      (b, inr (inl refl), ne_eqb (root_number b.name) n (λ f. omega arith))
]

-- ---- the end of one thread

-- threads and marks after the end of a thread, whose rows stay as they are
thread_leaves_rest : (state : State) (threads : List Thread) (left : List Name) → IsCoherent state → KeepsThreads state state.rows threads left
    → Leaves state (record state { threads = threads; left = left })
thread_leaves_rest state threads left sound on =
    subst (λ rows. Leaves state (record state { rows = rows; threads = threads; left = left })) (map-id state.rows)
    (own_leaves_with state (λ r. r) threads left sound (λ r. refl) (settled state sound)
    (subst (λ rows. KeepsThreads state rows threads left) (sym (map-id state.rows)) on))

-- all threads and marks go on
all_as_they_are : (state : State) → IsCoherent state → KeepsThreads state state.rows state.threads state.left
all_as_they_are state sound =
    subst (λ rows. KeepsThreads state rows state.threads state.left) (map-id state.rows) (all_go_on state (λ r. r) sound (λ r. refl) (λ r. refl))

-- a first thread that leaves others running leaves a coherent state
pub left_first_leaves : (state : State) (n : ℕ) (caller : Row) → IsCoherent state → caller_of state n ≡ Some caller
    → thread_at state n ≡ None → (running state caller == 1) ≡ false → Leaves state (without_first state caller)
unfolding without_first
left_first_leaves state n caller sound found none more =
    thread_leaves_rest state state.threads (insert_by root_number caller.name state.left) sound (record {
      each = on.each;
      rise = on.rise;
      marks = λ name i. elim (IsIn-from_insert_by root_number caller.name state.left name i) [
        | inl e ↦ subst (IsGoodMark state.rows state.threads) (sym e) mark
        | inr j ↦ on.marks name j
      ];
      marks_rise = IsRising-insert_by root_number caller.name state.left sound.left_rise fresh;
    })
  where
    on : KeepsThreads state state.rows state.threads state.left
    on = all_as_they_are state sound

    first : (has_left state n ≡ false) × (root_number caller.name ≡ n)
    first = caller_first state n caller found none

    here : has_left state (root_number caller.name) ≡ false
    here = subst (λ m. has_left state m ≡ false) (sym first.1) first.0

    fresh : (name : Name) → IsIn name state.left → root_number name ≡ root_number caller.name → ⊥
    fresh name i e =
        let yes : has_left state (root_number caller.name) ≡ true = has_left-from state name (root_number caller.name) i e in
        let no : has_left state (root_number caller.name) ≡ false = here in
        cc

    mark : IsGoodMark state.rows state.threads caller.name
    mark =
        let c = caller_of-Some state n caller found in
        let own : List Thread = filter (is_thread_of caller.name) state.threads in
        let one : running state caller ≡ length own + 1 = ap (λ b. length own + (if b then 0 else 1)) here in
        let differs : running state caller ≡ 1 → ⊥ = eqb-false (running state caller) 1 more in
        let some = some_element own (grind arith) in
        let f = IsIn-from_filter (is_thread_of caller.name) some.0 state.threads some.1 in
        ((caller, c.0, refl, c.1), (some.0, f.0, is_thread_of-true caller.name some.0 f.1))

-- another thread that leaves its process running leaves a coherent state
pub left_other_leaves : (state : State) (n : ℕ) (caller : Row) (t : Thread) → IsCoherent state → caller_of state n ≡ Some caller
    → thread_at state n ≡ Some t → (running state caller == 1) ≡ false → Leaves state (without_thread state n)
unfolding without_thread
left_other_leaves state n caller t sound found at more =
    thread_leaves_rest state (filter stays state.threads) state.left sound (record {
      each = λ u i. on.each u (IsIn-from_filter stays u state.threads i).0;
      rise = IsRising-filter (λ (u : Thread). root_number u.name) stays state.threads sound.threads_rise;
      marks = λ name i. let m = on.marks name i in (m.0, by name i m.1 (cases_Bool (root_number m.1.0.name == n)));
      marks_rise = on.marks_rise;
    })
  where
    on : KeepsThreads state state.rows state.threads state.left
    on = all_as_they_are state sound

    stays : Thread → Bool
    stays u = not (root_number u.name == n)

    own : IsIn t state.threads × (root_number t.name ≡ n)
    own = thread_at-Some state n t at

    -- the process goes on in that thread, or else in another one
    by : (name : Name) → IsIn name state.left → (u : (v : Thread) × IsIn v state.threads × (v.process ≡ name))
        → ((root_number u.0.name == n) ≡ true) ⊎ ((root_number u.0.name == n) ≡ false) → (v : Thread) × IsIn v (filter stays state.threads) × (v.process ≡ name)
    by name i u (inr e) = (u.0, IsIn-filter stays u.0 state.threads u.1 (not_from_false (root_number u.0.name == n) e), u.2)
    by name i u (inl e) =
        let one : u.0 ≡ t = same_thread state sound u.0 t u.1 own.0 (eqb-true (root_number u.0.name) n e ∙ sym own.1) in
        let process : t.process ≡ caller.name = caller_thread state sound n caller t found at in
        let self : name ≡ caller.name = sym u.2 ∙ ap (λ (v : Thread). v.process) one ∙ process in
        let gone : has_left state (root_number caller.name) ≡ true = has_left-from state name (root_number caller.name) i (ap root_number self) in
        let ts : List Thread = filter (is_thread_of caller.name) state.threads in
        let all : running state caller ≡ length ts + 0 = ap (λ b. length ts + (if b then 0 else 1)) gone in
        let differs : running state caller ≡ 1 → ⊥ = eqb-false (running state caller) 1 more in
        let first : 0 < length ts = filled ts (IsIn-filter (is_thread_of caller.name) t state.threads own.0 (is_thread_of-from caller.name t process)) in
        let v = another n ts (IsRising-filter (λ (w : Thread). root_number w.name) (is_thread_of caller.name) state.threads sound.threads_rise) (grind arith) in
        let f = IsIn-from_filter (is_thread_of caller.name) v.0 state.threads v.1 in
        (v.0, IsIn-filter stays v.0 state.threads f.0 (not_from_false (root_number v.0.name == n) v.2), is_thread_of-true caller.name v.0 f.1 ∙ sym self)
      where
        filled : (ts : List Thread) → IsIn t ts → 0 < length ts
        filled [] k = elim k [ ]
        filled (v ∷ ts) k = omega arith

-- ---- exec

-- an exec leaves a coherent state
pub exec_leaves : (state : State) (n : ℕ) (caller : Row) → IsCoherent state → caller_of state n ≡ Some caller
    → Leaves state (after_exec state n caller.name)
unfolding after_exec with_row
exec_leaves state n caller sound found =
    own_leaves_with state change threads left sound (λ r. on_row-both (IsOwn r) caller.name (set_executed state n) r (λ e. refl) refl)
    (λ r i. on_row-both (IsSettled state) caller.name (set_executed state n) r (goes r i) (settled state sound r i))
    (subst (λ rows. KeepsThreads state rows threads left) (all_there change state.rows)
    (others_go_on state sound caller.name change names (λ r other live. lives r ∙ live)))
  where
    threads : List Thread
    threads = filter (λ (t : Thread). not (is_thread_of caller.name t)) state.threads

    left : List Name
    left = filter (λ (name : Name). not (same_name name caller.name)) state.left

    change : Row → Row
    change = on_row caller.name (set_executed state n)

    names : (r : Row) → (change r).name ≡ r.name
    names = on_row-keeps caller.name (set_executed state n) (λ r. r.name) (λ r. refl)

    lives : (r : Row) → is_live (change r) ≡ is_live r
    lives = on_row-keeps caller.name (set_executed state n) is_live (λ r. refl)

    goes : (r : Row) → IsIn r state.rows → r.name ≡ caller.name → IsSettled state (set_executed state n r)
    goes r i e =
        let same : r ≡ caller = same_row state.rows sound.rows_rise r caller i (caller_of-Some state n caller found).0 e in
        let s = settled state sound r i in
        let good = as_thread_good state n caller sound found in (
          s.0,
          s.1,
          subst (λ (x : Row). (space_at state.spaces (as_thread state n x).children_space ≡ None) ⊎ IsIn x.name.space (path_up state.spaces (as_thread state n x).children_space)) (sym same) good.1,
          subst (λ (x : Row). (c : Control) × (control_at state.controls (as_thread state n x).home ≡ Some c)) (sym same) good.0,
          λ stamp below. subst (λ (x : Row). (as_thread state n x).children_space < stamp) (sym same) (good.2 stamp below),
        )

-- ---- changes of threads

-- root numbers stay where threads keep their names
roots_kept : (f : Thread → Thread) → ((t : Thread) → (f t).name ≡ t.name) → (ts : List Thread)
    → map (λ t. root_number t.name) (map f ts) ≡ map (λ t. root_number t.name) ts
roots_kept f names [] = refl
roots_kept f names (t ∷ ts) = rw (names t, roots_kept f names ts) refl

-- threads that keep their names and processes go on, if their homes and their children's namespaces are good ones
threads_changed : (state : State) → IsCoherent state → (g : Row → Row) → ((r : Row) → (g r).name ≡ r.name) → ((r : Row) → is_live (g r) ≡ is_live r)
    → (f : Thread → Thread) → ((t : Thread) → ((f t).name ≡ t.name) × ((f t).process ≡ t.process))
    → ((t : Thread) → IsIn t state.threads
    → ((c : Control) × (control_at state.controls (f t).home ≡ Some c))
    × ((space_at state.spaces (f t).children_space ≡ None) ⊎ IsIn t.name.space (path_up state.spaces (f t).children_space))
    × ((stamp : ℕ) → IsBelow stamp state → (f t).children_space < stamp)) → KeepsThreads state (map g state.rows) (map f state.threads) state.left
threads_changed state sound g names lives f same good = record {
  each = λ v j.
      let q = IsIn-from_map f v state.threads j in
      let t : Thread = q.0 in
      let k = good t q.1 in
      let p = (sound.threads t q.1).process in
      let own : v.name ≡ t.name = ap (λ (x : Thread). x.name) q.2 ∙ (same t).0 in
      let space : v.name.space ≡ t.name.space = ap (λ (a : Name). a.space) own in
      record {
        before = (t, q.1, own);
        process = (
          g p.0,
          IsIn-map g p.0 state.rows p.1,
          names p.0 ∙ p.2 ∙ sym (ap (λ (x : Thread). x.process) q.2 ∙ (same t).1),
          lives p.0 ∙ p.3,
          space ∙ p.4 ∙ ap (λ (a : Name). a.space) (sym (names p.0)),
        );
        children = subst (λ (x : Thread). (space_at state.spaces x.children_space ≡ None) ⊎ IsIn v.name.space (path_up state.spaces x.children_space)) (sym q.2)
            (elim k.1 [ inl none ↦ inl none | inr up ↦ inr (subst (λ x. IsIn x (path_up state.spaces (f t).children_space)) (sym space) up) ]);
        home = subst (λ (x : Thread). (c : Control) × (control_at state.controls x.home ≡ Some c)) (sym q.2) k.0;
        below = λ stamp below. subst (λ (x : Thread). x.children_space < stamp) (sym q.2) (k.2 stamp below);
      };
  rise = subst IsRising (sym (roots_kept f (λ t. (same t).0) state.threads)) sound.threads_rise;
  marks = λ name i.
      let m = sound.left name i in (
        (g m.0.0, IsIn-map g m.0.0 state.rows m.0.1, names m.0.0 ∙ m.0.2, lives m.0.0 ∙ m.0.3),
        (f m.1.0, IsIn-map f m.1.0 state.threads m.1.1, (same m.1.0).1 ∙ m.1.2),
      );
  marks_rise = sound.left_rise;
}

-- a join of another thread leaves a coherent state
pub join_other_leaves : (state : State) (n target : ℕ) (caller row : Row) (t : Thread) → IsCoherent state → caller_of state n ≡ Some caller
    → process_numbered state caller.name.space target ≡ Some row → thread_at state n ≡ Some t
    → Leaves state (record state { threads = map (set_thread_space n row.name.space) state.threads })
join_other_leaves state n target caller row t sound found there at =
    thread_leaves_rest state (map into state.threads) state.left sound
    (subst (λ rows. KeepsThreads state rows (map into state.threads) state.left) (map-id state.rows)
    (threads_changed state sound (λ r. r) (λ r. refl) (λ r. refl) into (λ u. (refl, refl)) good))
  where
    into : Thread → Thread
    into = set_thread_space n row.name.space

    own : IsIn t state.threads × (root_number t.name ≡ n)
    own = thread_at-Some state n t at

    seen : IsIn row state.rows × IsIn caller.name.space (path_up state.spaces row.name.space)
    seen = numbered_within state caller.name.space target row sound there

    -- the thread that calls is in its process's namespace
    beside : (u : Thread) → IsIn u state.threads → root_number u.name ≡ n → u.name.space ≡ caller.name.space
    beside u j e =
        let one : u ≡ t = same_thread state sound u t j own.0 (e ∙ sym own.1) in
        thread_space state sound u caller j (caller_of-Some state n caller found).0 (ap (λ (v : Thread). v.process) one ∙ caller_thread state sound n caller t found at)

    good : (u : Thread) → IsIn u state.threads
        → ((c : Control) × (control_at state.controls (into u).home ≡ Some c))
        × ((space_at state.spaces (into u).children_space ≡ None) ⊎ IsIn u.name.space (path_up state.spaces (into u).children_space))
        × ((stamp : ℕ) → IsBelow stamp state → (into u).children_space < stamp)
    good u j = (
      (sound.threads u j).home,
      elim (cases_Bool (root_number u.name == n)) [
        | inl e ↦ rw e (inr (subst (λ x. IsIn x (path_up state.spaces row.name.space)) (sym (beside u j (eqb-true (root_number u.name) n e))) seen.1))
        | inr e ↦ rw e (sound.threads u j).children
      ],
      λ stamp below. elim (cases_Bool (root_number u.name == n)) [
        | inl e ↦ rw e (own_space_below state row sound seen.0 stamp below)
        | inr e ↦ rw e (below.thread_children u j)
      ],
    )

-- a move leaves a coherent state
pub move_leaves : (state : State) (id : ℕ) (task : Row) (c : Control) → IsCoherent state → control_at state.controls id ≡ Some c
    → Leaves state (with_home state task.name id)
unfolding with_home with_row
move_leaves state id task c sound there =
    own_leaves_with state change (map into state.threads) state.left sound (λ r. on_row-both (IsOwn r) task.name (set_home state id) r (λ e. refl) refl)
    (λ r i. on_row-both (IsSettled state) task.name (set_home state id) r (λ e.
    let s = settled state sound r i in (s.0, s.1, s.2, home r i (has_left state (root_number r.name)), s.4)) (settled state sound r i))
    (threads_changed state sound change names lives into (λ u. (refl, refl)) (λ u j.
    let g = sound.threads u j in (at_home u j (is_thread_of task.name u), g.children, λ stamp below. below.thread_children u j)))
  where
    change : Row → Row
    change = on_row task.name (set_home state id)

    into : Thread → Thread
    into = set_thread_home task.name id

    names : (r : Row) → (change r).name ≡ r.name
    names = on_row-keeps task.name (set_home state id) (λ r. r.name) (λ r. refl)

    lives : (r : Row) → is_live (change r) ≡ is_live r
    lives = on_row-keeps task.name (set_home state id) is_live (λ r. refl)

    home : (r : Row) → IsIn r state.rows → (b : Bool) → (d : Control) × (control_at state.controls (if b then r.home else id) ≡ Some d)
    home r i true = sound.homes r i
    home r i false = (c, there)

    at_home : (u : Thread) → IsIn u state.threads → (b : Bool) → (d : Control) × (control_at state.controls (if b then id else u.home) ≡ Some d)
    at_home u j true = (c, there)
    at_home u j false = (sound.threads u j).home

-- ---- a new thread

-- the process's namespace stands, as a live task is in it, and is ready for a thread
pub ready_for_thread : (state : State) (n : ℕ) (caller : Row) → IsCoherent state → caller_of state n ≡ Some caller
    → MayFork state (as_thread state n caller) caller.name.space → IsReady state state.spaces caller caller.name.space
ready_for_thread state n caller sound found may =
    let c = caller_of-Some state n caller found in
    let own : ℕ = caller.name.space in
    let well = sound.numbered caller.name (own_in_use state caller c.0) in
    let listed = well.listed own (path_first state.spaces own) in
    let at = space_at-Some state.spaces own listed.0 listed.1 in
    let has = number-on_path state.spaces caller.name own well.one_each (path_first state.spaces own) in
    let stands : listed.0.fallen ≡ false = false_from_ne_true listed.0.fallen (λ e.
    let gone : number state.spaces caller.name listed.0.id ≡ None = (sound.fallen listed.0 at.0 e).ended caller c.0 c.1 in
    let none : number state.spaces caller.name own ≡ None = subst (λ x. number state.spaces caller.name x ≡ None) at.1 gone in
    let some : number state.spaces caller.name own ≡ Some has.0 = has.1 in cc) in
    IsReady-old state sound caller own c.0 (ap (λ o. option_map_or (λ (s : Space). s.fallen) o true) listed.1 ∙ stands)
    (inr (path_first state.spaces own)) may.numbers

-- a new thread leaves a coherent state
pub thread_leaves : (state : State) (n : ℕ) (caller : Row) → IsCoherent state → caller_of state n ≡ Some caller
    → ((as_thread state n caller).children_space == caller.name.space) ≡ true → MayFork state (as_thread state n caller) caller.name.space
    → Leaves state (with_thread state (thread_of state (as_thread state n caller)) (path_up state.spaces caller.name.space))
unfolding with_cursors
thread_leaves state n caller sound found here may =
    let k = spaces_leave (record state { threads = after }) (moved_cursor state path) (λ s. (refl, refl, refl)) coherent in (
      k.0,
      λ stamp below. k.1 stamp (record {
        spaces = below.spaces;
        controls = below.controls;
        children = below.children;
        thread_children = each_after (λ t. t.children_space < stamp) (own_space_below state caller sound there stamp below) below.thread_children;
      }),
    )
  where
    own : ℕ
    own = caller.name.space

    path : List ℕ
    path = path_up state.spaces own

    new : Thread
    new = thread_of state (as_thread state n caller)

    after : List Thread
    after = insert_thread new state.threads

    there : IsIn caller state.rows
    there = (caller_of-Some state n caller found).0

    live : is_live caller ≡ true
    live = (caller_of-Some state n caller found).1

    good_home : (c : Control) × (control_at state.controls (as_thread state n caller).home ≡ Some c)
    good_home = (as_thread_good state n caller sound found).0

    ready : IsReady state state.spaces caller own
    ready = ready_for_thread state n caller sound found may

    -- a name in use after is the new one, or was in use
    before : (a : Name) → IsIn a (in_use (record state { threads = after })) → (a ≡ new_name state own) ⊎ IsIn a (in_use state)
    before a i = elim (in_use_cases (record state { threads = after }) a i) [
      | inl j ↦ inr (used_by_row state a j)
      | inr t ↦ elim (IsIn-from_insert_by (λ (u : Thread). root_number u.name) new state.threads t.0 t.1) [
        | inl e ↦ inl (t.2 ∙ ap (λ (u : Thread). u.name) e)
        | inr j ↦ inr (subst (λ x. IsIn x (in_use state)) (sym t.2) (thread_in_use state t.0 j))
      ]
    ]

    -- what holds of the new thread and of each from before holds of each
    each_after : (P : Thread → Type 0) → P new → ((t : Thread) → IsIn t state.threads → P t) → (t : Thread) → IsIn t after → P t
    each_after P first old t i = elim (IsIn-from_insert_by (λ (u : Thread). root_number u.name) new state.threads t i) [
      | inl e ↦ subst P (sym e) first
      | inr j ↦ old t j
    ]

    coherent : IsCoherent (record state { threads = after })
    coherent = record {
      distinct = λ a b i j.
          distinct_with state sound state.spaces caller own ready there live may.numbers (as_thread state n caller).home own good_home a b (before a i) (before b j);
      numbered = λ a i.
          well_with state sound state.spaces caller own ready there live may.numbers (as_thread state n caller).home own good_home a (before a i);
      parents = sound.parents;
      children = sound.children;
      root = sound.root;
      standing = sound.standing;
      fallen = sound.fallen;
      groups = sound.groups;
      rows_rise = sound.rows_rise;
      spaces = sound.spaces;
      controls = sound.controls;
      limits = sound.limits;
      homes = sound.homes;
      threads = each_after (IsGoodThread state.rows state.spaces state.controls) (record {
        process = (caller, there, refl, live, refl);
        apart = λ used. unused state sound state.spaces caller own ready there live may.numbers (as_thread state n caller).home own good_home
            (used_by_row state (new_name state own) used);
        children = inr (path_first state.spaces own);
        home = good_home;
      }) sound.threads;
      threads_rise = IsRising-insert_by (λ (u : Thread). root_number u.name) new state.threads sound.threads_rise (λ t i.
          new_root state sound state.spaces caller own ready there live may.numbers (as_thread state n caller).home own good_home t.name
          (thread_in_use state t i));
      left = λ name i.
          let m = sound.left name i in
          (m.0, (m.1.0, IsIn-insert_by_old (λ (u : Thread). root_number u.name) new state.threads m.1.0 m.1.1, m.1.2));
      left_rise = sound.left_rise;
    }
