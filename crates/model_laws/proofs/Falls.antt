-- What a fall does to each process and each thread.
use Rattle.model_laws.proofs.Words.{◌≡◌, ℕ, Bool, true, false, not, Some, refl, sym, ap, ◌∙◌, subst, filter, is_some, arith, option_map_or, and_left, or_from, or_right, not_from_false, not-true, false_from_ne_true, Name, Row, Space, Life, Zombie, Exited, Killed, Done, IsIn, State, path_up, is_within, is_member, same_name, Outcome, sweep, is_init, has_parent_within, goes_in_fall, row_after_fall, rows_after_fall, fallen_below, fall, IsSound, Exit, List, Thread, in_use, is_of, ◌↔◌}
use Rattle.model_laws.proofs.Ground.{each_of_map, IsIn-map, IsIn-from_map, IsIn-filter, IsIn-from_filter, IsIn-from_contains, contains-from_IsIn, option_both, same_name-true, same_name-refl, own_in_use, number-on_path, number-within, unique_key, path_first, same_row, caller_of-Some, thread_in_use}
use Rattle.model_laws.specs.FallLaws.{IsMember, HasMemberParent, HasFallen, ExitOfInitFalls, HasNumberIn}
use Rattle.model_laws.proofs.Refusals.{step_comes}
use Rattle.model_laws.proofs.Sweeps.{from_kept, to_kept}
use Rattle.model_laws.proofs.Calls.{Comes, still, fell, handed_on, no_answer}

module _ (state : State) (sound : IsSound state) (init : Row) (status : ℕ) (there : IsIn init state.rows) where
  -- the namespace that falls
  abbrev space : ℕ
  space = init.name.space

  -- the row after the fall
  abbrev after : Row → Row
  after = row_after_fall state init status

  -- whether the row stays
  abbrev stays : Row → Bool
  stays r = not (goes_in_fall state init r)

  -- a member is one by the test
  member-true : (r : Row) → IsMember state space r → is_member state.spaces space r ≡ true
  member-true r m = ap (λ o. is_some o) m.1

  -- and nobody else is
  member-false : (r : Row) → (IsMember state space r → ⊥) → is_member state.spaces space r ≡ false
  member-false r none = grind (arith, none)

  -- a parent that is a member is within the namespace
  parent-true : (r : Row) → HasMemberParent state space r → has_parent_within state space r ≡ true
  parent-true r h =
      let on : IsIn space (path_up state.spaces h.0.name.space) = (number-within state.spaces h.0.name space h.3.0 h.3.1).0 in
      ap (λ o. option_map_or (λ (parent : Name). is_within state.spaces parent.space space) o false) h.2 ∙ contains-from_IsIn (path_up state.spaces h.0.name.space) space on

  -- and one that is not is outside
  parent-false : (r : Row) → IsIn r state.rows → (HasMemberParent state space r → ⊥) → has_parent_within state space r ≡ false
  parent-false r i none =
      option_both r.parent (λ o. option_map_or (λ (parent : Name). is_within state.spaces parent.space space) o false ≡ false) (λ e. refl) (λ a e.
      false_from_ne_true (is_within state.spaces a.space space) (λ w.
      let g = ((sound.coherent.parents r i).good a e).lives in
      let well = sound.coherent.numbered g.0.name (own_in_use state g.0 g.1) in
      none (g.0, g.1, e ∙ ap Some (sym g.2), number-on_path state.spaces g.0.name space well.one_each (rw g.2 (IsIn-from_contains _ space w)))))

  -- two names that differ
  differs : (r : Row) → (r.name ≡ init.name → ⊥) → same_name r.name init.name ≡ false
  differs r other = false_from_ne_true (same_name r.name init.name) (λ e. other (same_name-true r.name init.name e))

  -- the state after the fall
  abbrev next : State
  next = sweep (fall state init status)

  -- a row that stays is there with the life that it has then
  kept_as : (r : Row) (l : Life) → IsIn r state.rows → goes_in_fall state init r ≡ false → (after r).life ≡ l → IsIn (record r { life = l }) next.rows
  unfolding sweep fall rows_after_fall
  kept_as r l i e same =
      let build : Life → Row = λ x. record r { life = x } in
      subst (λ x. IsIn x next.rows) (ap build same) (IsIn-map after r (filter stays state.rows) (IsIn-filter stays r state.rows i (not_from_false _ e)))

  -- and nobody else is there
  from_after : (x : Row) → IsIn x next.rows → (r : Row) × IsIn r state.rows × (goes_in_fall state init r ≡ false) × (x ≡ after r)
  unfolding sweep fall rows_after_fall
  from_after x i =
      let q = IsIn-from_map after x (filter stays state.rows) i in
      let f = IsIn-from_filter stays q.0 state.rows q.1 in (q.0, f.0, not-true (goes_in_fall state init q.0) f.1, q.2)

  -- the test tells which of the names in use have no number in the namespace
  unseen : (a : Name) → IsIn a (in_use state) → (is_of state.spaces space a ≡ false) ↔ (HasNumberIn state space a → ⊥)
  unseen a i = (
    λ e seen.
        let on : is_of state.spaces space a ≡ true =
        contains-from_IsIn (path_up state.spaces a.space) space (number-within state.spaces a space seen.0 seen.1).0 in
        cc,
    λ none. false_from_ne_true (is_of state.spaces space a) (λ w.
        none (number-on_path state.spaces a space (sound.coherent.numbered a i).one_each (IsIn-from_contains (path_up state.spaces a.space) space w))),
  )

  -- what the fall keeps of a list, each of which has a name in use
  remains_of : {X : Type 0} (name : X → Name) (xs : List X) → ((x : X) → IsIn x xs → IsIn (name x) (in_use state)) → (x : X)
      → IsIn x (filter (λ y. not (is_of state.spaces space (name y))) xs) ↔ (IsIn x xs × (HasNumberIn state space (name x) → ⊥))
  remains_of name xs used x = (
    λ i.
        let f = IsIn-from_filter (λ y. not (is_of state.spaces space (name y))) x xs i in
        (f.0, (unseen (name x) (used x f.0)).0 (not-true (is_of state.spaces space (name x)) f.1)),
    λ h. IsIn-filter (λ y. not (is_of state.spaces space (name y))) x xs h.0
        (not_from_false (is_of state.spaces space (name x)) ((unseen (name x) (used x h.0)).1 h.1)),
  )

  -- what becomes of each task and each namespace
  falls : HasFallen state next init status
  unfolding sweep fall
  falls = record {
    controls = refl;
    itself = let own = same_name-refl init.name init.name refl in kept_as init (Zombie (Exited status)) there (grind arith) (grind arith);
    outside = λ r i none.
        let off = member-false r none in
        let other = differs r (λ e. none (subst (HasNumberIn state space) (sym e) own_member)) in
        kept_as r r.life i (grind (arith, off)) (grind (arith, off, other));
    gone = λ r o up x i e.
        let q = from_after x i in
        let same : q.0 ≡ r = same_row state.rows sound.coherent.rows_rise q.0 r q.1 o.0 (ap (λ (y : Row). y.name) (sym q.3) ∙ e) in
        let goes : goes_in_fall state init r ≡ true = grind (arith, differs r o.1, member-true r o.2, parent-true r up) in
        let stay : goes_in_fall state init r ≡ false = subst (λ y. goes_in_fall state init y ≡ false) same q.2 in
        cc;
    killed = λ r o none live.
        kept_as r (Zombie Killed) o.0 (grind (arith, parent-false r o.0 none)) (grind (arith, differs r o.1, member-true r o.2));
    ended = λ r o none dead. kept_as r r.life o.0 (grind (arith, parent-false r o.0 none)) (grind (arith, differs r o.1));
    threads = remains_of (λ (t : Thread). t.name) state.threads (thread_in_use state);
    left = remains_of (λ process. process) state.left (λ process i.
        let row = (sound.coherent.left process i).0 in subst (λ a. IsIn a (in_use state)) row.2 (own_in_use state row.0 row.1));
    nobody_new = λ x i. let q = from_after x i in (q.0, q.1, ap (λ (r : Row). r.name) (sym q.3));
    below = λ s t i up j.
        each_of_map (λ x. x.id ≡ s.id → x.fallen ≡ true) (fallen_below state.spaces space) state.spaces (λ x k e.
        let same = unique_key (λ (y : Space). y.id) state.spaces sound.coherent.spaces.rising x s k i e in
        or_right x.fallen _ (contains-from_IsIn _ space (subst (λ (y : Space). IsIn space (path_up state.spaces y.id)) (sym same) up)))
        t (from_kept (fall state init status) t j).0;
    standing = λ s i off e.
        let out = false_from_ne_true (is_within state.spaces s.id space) (λ w. off (IsIn-from_contains (path_up state.spaces s.id) space w)) in
        let stands : (fallen_below state.spaces space s).fallen ≡ false = or_from s.fallen (is_within state.spaces s.id space) e out in
        let build : Bool → Space = λ b. record s { fallen = b } in
        subst (λ x. IsIn x next.spaces) (ap build (stands ∙ sym e)) (to_kept (fall state init status) (fallen_below state.spaces space s)
        (IsIn-map (fallen_below state.spaces space) s state.spaces i) (and_left (fallen_below state.spaces space s).fallen _ stands));
  }
    where
      own_member : IsMember state space init
      own_member = number-on_path state.spaces init.name space (sound.coherent.numbered init.name (own_in_use state init there)).one_each (path_first state.spaces space)

-- the exit of a namespace's init lets the namespace fall
pub exit_of_init_falls : ExitOfInitFalls
exit_of_init_falls state stamp n status init sound found one told = go _ (step_comes state stamp (Exit n status)) told
  where
    go : (o : Outcome) → Comes state stamp (Exit n status) o → o.reply ≡ Done → HasFallen state o.state init status
    go o (still _ reply answer) told = absurd (no_answer reply Done answer refl told)
    go o (handed_on _ _ caller there none) told =
        absurd (let same : caller ≡ init = cc in let no : is_init state init ≡ false = rw same at none in cc)
    go o (fell _ _ caller there _ _) told = let same : caller ≡ init = cc in rw same (falls state sound init status (caller_of-Some state n init found).0)
