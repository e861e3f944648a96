-- Calls that change fields of rows leave a sound state.
use Rattle.model_laws.proofs.Words.{◌≡◌, ℕ, ℤ, pos, negsuc, ◌+◌, ◌<◌, true, false, ◌&&◌, ◌||◌, not, Some, refl, sym, ap, ◌∙◌, subst, ◌⊎◌, inl, inr, arith, if◌then◌else◌, cases_Bool, Name, Row, State, is_live, is_numbered, process_numbered, path_up, same_name, is_parent, names_in_use, on_row, with_row, sweep, target_of, set_group, group_for, has_members, set_children_space, IsIn, IsCoherent, IsSound, IsBelow, not_from_Decides, has_thread, or_cases}
use Rattle.model_laws.proofs.Ground.{find-Some, is_numbered-true, own_in_use, on_row-keeps, on_row-both, same_name-true, same_name-refl, own_name_in_use, group_in_use, session_in_use, number-within, space_at-Some, same_row, path_first, has_thread-true, thread_space}
use Rattle.model_laws.specs.Refusals.{IsGroupFor}
use Rattle.model_laws.specs.StepLaws.{StaysSound}
use Rattle.model_laws.proofs.Refusals.{group_found, target_found, Decides-members}
use Rattle.model_laws.proofs.Sweeps.{from_kept, IsSound-sweep}
use Rattle.model_laws.proofs.Survivors.{IsSettled, settled, Leaves, map_leaves, all_go_on, IsOwn, own_leaves}

-- ---- what each call has to leave

-- ids below a stamp are below the next
pub IsBelow-next : (stamp : ℕ) (state : State) → IsBelow stamp state → IsBelow (stamp + 1) state
IsBelow-next stamp state b = record {
  spaces = λ s i. omega (arith, b.spaces s i);
  controls = λ c i. omega (arith, b.controls c i);
  children = λ r i. omega (arith, b.children r i);
  thread_children = λ t i. omega (arith, b.thread_children t i);
}

-- a coherent state whose ids are below a stamp is sound after the sweep, with ids below it
pub swept_below : (next : State) (stamp : ℕ) → IsCoherent next × IsBelow stamp next → IsSound (sweep next) × IsBelow stamp (sweep next)
unfolding sweep
swept_below next stamp k = (
  IsSound-sweep next k.0,
  record {
    spaces = λ s i. k.1.spaces s (from_kept next s i).0;
    controls = k.1.controls;
    children = k.1.children;
    thread_children = k.1.thread_children;
  },
)

-- so is what a change leaves
pub swept : (state next : State) → Leaves state next → StaysSound state (sweep next)
swept state next k = (IsSound-sweep next k.0, λ stamp below. (swept_below next stamp (k.0, k.1 stamp below)).1)

-- a change of one task's row that keeps whose it is: its name, parent, life, group and session
pub row_leaves : (state : State) (name : Name) (change : Row → Row) → IsCoherent state → ((r : Row) → IsOwn r (change r))
    → ((r : Row) → IsIn r state.rows → r.name ≡ name → IsSettled state (change r)) → Leaves state (with_row state name change)
unfolding with_row
row_leaves state name change sound own rows = own_leaves state (on_row name change) sound (λ r. on_row-both (IsOwn r) name change r (λ e. own r) refl)
    (λ r i. on_row-both (IsSettled state) name change r (rows r i) (settled state sound r i))

-- ---- join

-- the process that a number names is there, in the namespace or below it
pub numbered_within : (state : State) (s n : ℕ) (row : Row) → IsCoherent state → process_numbered state s n ≡ Some row
    → IsIn row state.rows × IsIn s (path_up state.spaces row.name.space)
unfolding process_numbered
numbered_within state s n row sound h =
    let f = find-Some (λ (r : Row). has_thread state (λ name. is_numbered state.spaces name s n) r || is_numbered state.spaces r.name s n) state.rows row h in (
      f.0,
      elim (or_cases (has_thread state (λ name. is_numbered state.spaces name s n) row) (is_numbered state.spaces row.name s n) f.1) [
        | inl e ↦
            let t = has_thread-true state (λ name. is_numbered state.spaces name s n) row e in
            subst (λ x. IsIn s (path_up state.spaces x)) (thread_space state sound t.0 row t.1 f.0 t.3)
            (number-within state.spaces t.0.name s n (is_numbered-true state.spaces t.0.name s n t.2)).0
        | inr e ↦ (number-within state.spaces row.name s n (is_numbered-true state.spaces row.name s n e)).0
      ],
    )

-- its namespace is there, and has an old id
pub own_space_below : (state : State) (row : Row) → IsCoherent state → IsIn row state.rows → (stamp : ℕ) → IsBelow stamp state → row.name.space < stamp
own_space_below state row sound i stamp below =
    let listed = (sound.numbered row.name (own_in_use state row i)).listed row.name.space (path_first state.spaces row.name.space) in
    let at = space_at-Some state.spaces row.name.space listed.0 listed.1 in
    subst (λ x. x < stamp) at.1 (below.spaces listed.0 at.0)

-- a join of a first thread leaves a coherent state
pub join_leaves : (state : State) (target : ℕ) (caller row : Row) → IsCoherent state → process_numbered state caller.name.space target ≡ Some row
    → Leaves state (with_row state caller.name (set_children_space row.name.space))
join_leaves state target caller row sound there =
    let seen = numbered_within state caller.name.space target row sound there in
    row_leaves state caller.name (set_children_space row.name.space) sound (λ r. refl) (λ r i e.
    let s = settled state sound r i in
    (s.0, s.1, inr (subst (λ (a : Name). IsIn a.space (path_up state.spaces row.name.space)) (sym e) seen.1), s.3, own_space_below state row sound seen.0))

-- ---- setpgid and setsid

-- the task may be put there: who is in the group is in the session, and so is the task that the group is named after, if it is another
-- one, and who is in a group that is named after the task
pub record IsOpen (state : State) (target : Row) (group session : Name) : Type 0 where
  pub group_used : IsIn group (names_in_use state.rows)
  pub session_used : IsIn session (names_in_use state.rows)
  pub members : (r : Row) → IsIn r state.rows → r.group ≡ group → r.session ≡ session
  pub leader : (r : Row) → IsIn r state.rows → r.name ≡ group → (r.name ≡ target.name) ⊎ (r.session ≡ session)
  pub own : (r : Row) → IsIn r state.rows → r.group ≡ target.name → r.session ≡ session

module _ (state : State) (sound : IsCoherent state) (target : Row) (i : IsIn target state.rows) (change : Row → Row)
    (same : (r : Row) → change r ≡ record r { group = (change r).group; session = (change r).session })
    (free : IsOpen state target (change target).group (change target).session) where
  abbrev after : Row → Row
  after = on_row target.name change

  name : (r : Row) → (after r).name ≡ r.name
  name = on_row-keeps target.name change (λ r. r.name) (λ r. ap (λ (x : Row). x.name) (same r))

  -- the task's row is changed
  target_is : (r : Row) → IsIn r state.rows → r.name ≡ target.name → r ≡ target
  target_is r j e = same_row state.rows sound.rows_rise r target j i e

  put : (r : Row) → IsIn r state.rows → same_name r.name target.name ≡ true → after r ≡ change target
  put r j e = ap (λ b. if b then change r else r) e ∙ ap change (target_is r j (same_name-true r.name target.name e))

  -- each other one stays
  row_cases : (r : Row) → IsIn r state.rows → ((r.name ≡ target.name) × (after r ≡ change target)) ⊎ (after r ≡ r)
  row_cases r j = elim (cases_Bool (same_name r.name target.name)) [
    | inl e ↦ inl (same_name-true r.name target.name e, put r j e)
    | inr e ↦ inr (ap (λ b. if b then change r else r) e)
  ]

  -- the task that the group is named after is in the session, be it the one that was put there or another
  led : (b : Row) → IsIn b state.rows → b.name ≡ (change target).group → (after b).session ≡ (change target).session
  led b k e = grind (arith, row_cases b k, free.leader b k e, put b k, same_name-refl b.name target.name)

  together : (a b : Row) → IsIn a state.rows → IsIn b state.rows → (after a).group ≡ (after b).group → (after a).session ≡ (after b).session
  together a b j k e = grind (arith, row_cases a j, row_cases b k, free.members a j, free.members b k, sound.groups.together a b j k)

  leader : (a b : Row) → IsIn a state.rows → IsIn b state.rows → (after a).group ≡ b.name → (after a).session ≡ (after b).session
  leader a b j k e = grind (arith, row_cases a j, row_cases b k, led b k, free.own a j, sound.groups.leader a b j k)

  -- a task that goes to a group and a session that are open to it leaves a coherent state
  pub placed_leaves : Leaves state (with_row state target.name change)
  unfolding with_row
  placed_leaves =
      map_leaves state after state.threads state.left sound (λ r. (
        name r,
        on_row-keeps target.name change (λ x. x.parent) (λ x. ap (λ (y : Row). y.parent) (same x)) r,
        on_row-keeps target.name change is_live (λ x. ap is_live (same x)) r,
      ))
      (λ r j. on_row-both (IsSettled state) target.name change r (λ e. subst (λ x. IsSettled state (change x)) (sym (target_is r j e)) goes)
      (settled state sound r j))
      (λ a b j k. (together a b j k, λ e. leader a b j k (e ∙ name b)))
      (all_go_on state after sound name lives)
    where
      lives : (r : Row) → is_live (after r) ≡ is_live r
      lives = on_row-keeps target.name change is_live (λ r. ap is_live (same r))

      goes : IsSettled state (change target)
      goes = let s = settled state sound target i in subst (IsSettled state) (sym (same target)) (free.group_used, free.session_used, s.2, s.3, s.4)

-- the group that setpgid finds is open to its target
pub grouped_leaves : (state : State) (caller target : Row) (pid pgid : ℤ) (group : Name) → IsCoherent state → IsIn caller state.rows
    → target_of state caller pid ≡ Some target → (is_parent caller.name target && not (same_name target.session caller.session)) ≡ false
    → not (is_parent caller.name target || same_name target.name caller.name) ≡ false → group_for state caller target pgid ≡ Some group
    → Leaves state (with_row state target.name (set_group group))
grouped_leaves state caller target pid pgid group sound i aimed same own there =
    placed_leaves state sound target (is_row pid aimed) (set_group group) (λ r. refl) (open_at pgid ((group_found state caller target pgid).some group there))
  where
    is_row : (n : ℤ) → target_of state caller n ≡ Some target → IsIn target state.rows
    is_row (negsuc n) h = absurd (cc)
    is_row (pos n) h = elim ((target_found state caller (pos n)).some target h) [
      | inl s ↦ subst (λ r. IsIn r state.rows) (sym s.1) i
      | inr s ↦ s.1.0
    ]

    session : target.session ≡ caller.session
    session =
        let self : target.name ≡ caller.name → target.session ≡ caller.session = λ e. ap (λ (r : Row). r.session)
        (same_row state.rows sound.rows_rise target caller (is_row pid aimed) i e) in
        grind (arith, self, same_name-true target.session caller.session, same_name-true target.name caller.name)

    -- it is the target's own, or that of a task of the same session
    open_at : (n : ℤ) → IsGroupFor state caller target n group → IsOpen state target group target.session
    open_at (negsuc n) g = elim g [ ]
    open_at (pos n) (inl g) = subst (λ a. IsOpen state target a target.session) (sym g.1) (record {
      group_used = own_name_in_use state.rows target (is_row pid aimed);
      session_used = session_in_use state.rows target (is_row pid aimed);
      members = λ b j e. sound.groups.leader b target j (is_row pid aimed) e;
      leader = λ b j e. inl e;
      own = λ b j e. sound.groups.leader b target j (is_row pid aimed) e;
    })
    open_at (pos n) (inr g) = let s = g.1 in subst (λ a. IsOpen state target a target.session) s.3 (record {
      group_used = group_in_use state.rows s.0 s.1;
      session_used = session_in_use state.rows target (is_row pid aimed);
      members = λ b k e. sound.groups.together b s.0 k s.1 e ∙ s.2 ∙ sym session;
      leader = λ b k e. inr (sym (sound.groups.leader s.0 b s.1 k (sym e)) ∙ s.2 ∙ sym session);
      own = λ b k e. sound.groups.leader b target k (is_row pid aimed) e;
    })

-- where nobody is in a group of the task's name, that group and that session are open to it
pub IsOpen-new : (state : State) (caller : Row) → IsIn caller state.rows → has_members state caller.name ≡ false
    → IsOpen state caller caller.name caller.name
IsOpen-new state caller i none = record {
  group_used = own_name_in_use state.rows caller i;
  session_used = own_name_in_use state.rows caller i;
  members = λ r j e. absurd (not_from_Decides _ (Decides-members state caller.name) none (r, j, e));
  leader = λ r j e. inl e;
  own = λ r j e. absurd (not_from_Decides _ (Decides-members state caller.name) none (r, j, e));
}
