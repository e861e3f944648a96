-- Whom each call may touch.
use Rattle.model_laws.proofs.Words.{◌≡◌, ◌==◌, ◌<◌, ℕ, zero, suc, ℤ, pos, negsuc, Bool, true, false, not, List, [], ◌∷◌, filter, Option, Some, None, refl, sym, ap, ◌∙◌, subst, inl, inr, arith, is_some, option_map, option_and_then, option_map_or, if◌then◌else◌, false_from_ne_true, not_from_false, ne_eqb, Call, Fork, GetPid, NsPid, Exec, Exit, Wait, GetPpid, SetPgid, SetSid, MakeControl, RemoveControl, SetLimit, Move, Count, GetPgid, GetSid, Next, Join, SetSubreaper, Which, Row, Name, Ended, Done, Reaped, IsIn, State, Outcome, sweep, without_row, root_number, number, number_or_zero, is_live, is_member, is_parent, is_numbered, same_name, row_at, live_row, task_numbered, self_or_task, parent_number, step, is_init, rows_after_exit, IsSound, IsBelow, set_group, start_session, with_row, matching, ended_children, unwrap_or}
use Rattle.model_laws.proofs.Ground.{IsIn-filter, IsIn-from_filter, row_at-listed, live_row-Some, unique_key, same_name-true, is_parent-true, is_numbered-from, is_numbered-true, number-within, number-on_path, own_in_use, task_at-own}
use Rattle.model_laws.proofs.Trees.{process_numbered-Some}
use Rattle.pid_types.specs.Threads.{caller_of, process_numbered}
use Rattle.pid_types.specs.Exit.{handed_over}
use Rattle.task_table.proofs.Alone.{caller-live, process-task}
use Rattle.model_laws.proofs.Lists.{IsIn-filter_map, IsIn-from_filter_map}
use Rattle.model_laws.proofs.Ancestry.{number-root_of_row, parent_number-at, root_init_row, row_far, top_row, Far}
use Rattle.model_laws.proofs.Calls.{Comes, still, fell, handed_on, waits, reaped, grouped, led, no_answer}
use Rattle.model_laws.proofs.EndsKept.{least_row-IsIn, reaped_row}
use Rattle.model_laws.proofs.Falls.{exit_of_init_falls}
use Rattle.model_laws.proofs.Refusals.{step_comes, may-match}
use Rattle.model_laws.proofs.StepKept.{step_keeps}
use Rattle.model_laws.specs.FallLaws.{HasFallen}
use Rattle.std.specs.List.Sorted.{IsPermutation, IsSorted}
use Rattle.std.specs.Ordering.{nat_cmp}
use Rattle.std.proofs.lemmas.List.Sorted.{IsNonDecreasingBy-from_sort}
use Rattle.pid_types.specs.declared.call.Kind.TheVariants.{Task}
use Rattle.translate.specs.declared.members.Reach.TheVariants.{Subtree}
use Rattle.translate.specs.declared.page.Whom.{Whom}
use Rattle.translate.specs.declared.page.Whom.TheVariants.{Belonging, Namespace}
use Rattle.translate.specs.Members.{visible_numbers, is_among}
use Rattle.translate.specs.Pages.{numbers_asked, numbers_belonging, belongs, is_meant, AreListedFrom}
use Rattle.translate.specs.Relations.{relations_of, relations_at}
use Rattle.translate.proofs.Rising.{once-more, rising-once, times-permuted, IsIn-permuted, IsIn-unpermuted}
use Rattle.call_effects.specs.Touched.{is_touching, Touches}
use Rattle.call_effects.specs.Whom.{none_or_one, root_seen, target_seen, IsRootList}
use Rattle.call_effects.proofs.Lists.{once_rising}
use Rattle.call_effects.proofs.Stays.{Stays, found, itself, other, all_stay, bystander, live_row-listed}

-- the exit of a task that comes to more than a refusal has a caller
exit_caller : (state : State) (stamp n status : ℕ) → (step state stamp (Exit n status)).reply ≡ Done → (caller : Row) × (caller_of state n ≡ Some caller)
exit_caller state stamp n status done = go _ (step_comes state stamp (Exit n status)) done
  where
    go : (o : Outcome) → Comes state stamp (Exit n status) o → o.reply ≡ Done → (caller : Row) × (caller_of state n ≡ Some caller)
    go o (still _ reply answer) told = absurd (no_answer reply Done answer refl told)
    go o (fell _ _ caller there deep one) told = (caller, there)
    go o (handed_on _ _ caller there none) told = (caller, there)

-- a call that is none of the four touches nobody
pub is_plain : (call : Call) → ((n status : ℕ) → call ≡ Exit n status → ⊥) → ((n : ℕ) (which : Which) → call ≡ Wait n which → ⊥)
    → ((n : ℕ) (pid pgid : ℤ) → call ≡ SetPgid n pid pgid → ⊥) → ((n : ℕ) → call ≡ SetSid n → ⊥) → is_touching call ≡ false
is_plain (Exit n status) e w p s = absurd (e n status refl)
is_plain (Wait n which) e w p s = absurd (w n which refl)
is_plain (SetPgid n pid pgid) e w p s = absurd (p n pid pgid refl)
is_plain (SetSid n) e w p s = absurd (s n refl)
is_plain (Fork n new_space) e w p s = refl
is_plain (GetPid n) e w p s = refl
is_plain (NsPid n target) e w p s = refl
is_plain (Exec n) e w p s = refl
is_plain (GetPpid n) e w p s = refl
is_plain (MakeControl parent) e w p s = refl
is_plain (RemoveControl id) e w p s = refl
is_plain (SetLimit id limit) e w p s = refl
is_plain (Move n id) e w p s = refl
is_plain (Count id) e w p s = refl
is_plain (GetPgid n pid) e w p s = refl
is_plain (GetSid n pid) e w p s = refl
is_plain (Next n kind from) e w p s = refl
is_plain (Join n target) e w p s = refl
is_plain (SetSubreaper n on) e w p s = refl

-- nobody is his own parent
no_own_parent : (f : ℕ → Option ℕ) → f 1 ≡ None → (k n : ℕ) → f n ≡ Some n → Far f k n → ⊥
no_own_parent f top zero n own far = (let z : f n ≡ None = ap f far ∙ top in cc)
no_own_parent f top (suc k) n own far =
    let same : far.0 ≡ n = (let z : Some far.0 ≡ Some n = sym far.1 ∙ own in cc) in no_own_parent f top k n own (subst (Far f k) same far.2)

-- in a state without threads, so that a live task calls by its own number
module _ (state : State) (stamp : ℕ) (sound : IsSound state) (below : IsBelow stamp state) (threads : state.threads ≡ []) (left : state.left ≡ []) where
  as_live : (n : ℕ) (row : Row) → caller_of state n ≡ Some row → live_row state.rows n ≡ Some row
  as_live n row calls = sym (caller-live state threads left n) ∙ calls

  -- the state after the call
  abbrev after : Call → State
  after call = (step state stamp call).state

  sound_after : (call : Call) → IsSound (after call)
  sound_after call = (step_keeps state stamp call sound below).0

  -- a row that stays has its relations
  stays : (call : Call) (row : Row) → Stays (after call).rows row → relations_at (after call).rows (root_number row.name) ≡ Some (relations_of row)
  stays call row s = found (after call) (sound_after call) row s

  -- where the state is the same, all stay
  same_stays : (call : Call) → after call ≡ state → (row : Row) → IsIn row state.rows → Stays (after call).rows row
  same_stays call same row i = itself (after call).rows row (subst (λ (s : State). IsIn row s.rows) (sym same) i)

  -- a row has relations
  row_there : (row : Row) → IsIn row state.rows → (m : ℕ) → root_number row.name ≡ m → is_some (relations_at state.rows m) ≡ true
  row_there row i m e = ap (λ o. is_some (option_map relations_of o)) (subst (λ x. row_at state.rows x ≡ Some row) e (row_at-listed state.rows sound.coherent.rows_rise row i))

  -- its number in the root namespace is its root number
  root_is : (row : Row) → IsIn row state.rows → (m : ℕ) → number state.spaces row.name 0 ≡ Some m → root_number row.name ≡ m
  root_is row i m e = let z : Some (root_number row.name) ≡ Some m = sym (number-root_of_row state sound.coherent row i) ∙ e in cc

  -- numbers are above 0
  above_zero : (row : Row) (s m : ℕ) → IsIn row state.rows → number state.spaces row.name s ≡ Some m → 0 < m
  above_zero row s m i e = ((sound.coherent.numbered row.name (own_in_use state row i)).in_range m (number-within state.spaces row.name s m e).1).0

  -- the caller means a task by its number
  meant : (caller row : Row) (m : ℕ) → IsIn row state.rows → number state.spaces row.name caller.name.space ≡ Some m → self_or_task state caller m ≡ Some row
  meant caller row m i e =
      let some = above_zero row caller.name.space m i e in
      ap (λ b. if b then Some caller else process_numbered state caller.name.space m) (ne_eqb m 0 (λ z. omega (arith, z, some)))
      ∙ process-task state threads caller.name.space m ∙ task_at-own state sound.coherent row i caller.name.space m e

  -- nothing is touched where all stay
  pub untouched : (call : Call) → is_touching call ≡ false → Touches state (after call) []
  untouched call plain = record {
    rising = tt;
    there = λ n i. absurd i;
    rest = λ row i none. stays call row (all_stay state stamp call (step state stamp call) (step_comes state stamp call) plain row i);
  }

  -- nor where the state is the same
  unchanged : (call : Call) → after call ≡ state → Touches state (after call) []
  unchanged call same = record { rising = tt; there = λ n i. absurd i; rest = λ row i none. stays call row (same_stays call same row i) }

  -- one task is touched, or none
  one_touched : (call : Call) (n m : ℕ) (o : Option ℕ) → o ≡ root_seen state n m
      → ((row : Row) → IsIn row state.rows → (IsIn (root_number row.name) (none_or_one o) → ⊥) → Stays (after call).rows row) → Touches state (after call) (none_or_one o)
  one_touched call n m None is rest = record { rising = tt; there = λ k i. absurd i; rest = λ row i none. stays call row (rest row i none) }
  one_touched call n m (Some k) is rest = record {
    rising = (λ j i. absurd i, tt);
    there = λ j i. elim i [ inl e ↦ seen_there n m j (sym is ∙ ap Some (sym e)) | inr none ↦ absurd none ];
    rest = λ row i none. stays call row (rest row i none);
  }
    where
      seen_there : (n m k : ℕ) → root_seen state n m ≡ Some k → is_some (relations_at state.rows k) ≡ true
      seen_there n m k e = go (live_row state.rows n) refl e
        where
          go : (c : Option Row) → live_row state.rows n ≡ c
              → option_and_then (λ caller. option_map (λ (row : Row). root_number row.name) (self_or_task state caller m)) c ≡ Some k → is_some (relations_at state.rows k) ≡ true
          go None at e = absurd (cc)
          go (Some caller) at e = task (m == 0) refl (self_or_task state caller m) refl e
            where
              task : (b : Bool) → (m == 0) ≡ b → (t : Option Row) → self_or_task state caller m ≡ t → option_map (λ (row : Row). root_number row.name) t ≡ Some k
                  → is_some (relations_at state.rows k) ≡ true
              task b at_zero None on e = absurd (cc)
              task true at_zero (Some row) on e =
                  let same : caller ≡ row = (let z : Some caller ≡ Some row = sym (ap (λ b. if b then Some caller else process_numbered state caller.name.space m) at_zero) ∙ on in cc) in
                  row_there row (subst (λ r. IsIn r state.rows) same (live_row-Some state.rows n caller at).0) k (let z : root_number row.name ≡ k = cc in z)
              task false at_zero (Some row) on e =
                  row_there row (process_numbered-Some state caller.name.space m row (sym (ap (λ b. if b then Some caller else process_numbered state caller.name.space m) at_zero) ∙ on)) k
                  (let z : root_number row.name ≡ k = cc in z)

  -- ---- the root init asks

  abbrev top : Row
  top = (root_init_row state sound.coherent).0

  top_asks : (whom : Whom) (n : ℕ) (ns : List ℕ) → IsRootList state whom n ns → AreListedFrom (numbers_asked state top whom n) 0 ns
  top_asks whom n ns lists =
      let r = root_init_row state sound.coherent in
      lists top (subst (λ m. live_row state.rows m ≡ Some top) r.4 (live_row-listed state sound.coherent top r.1 r.2))

  -- a row's root number as the root init has it
  as_top : (row : Row) → IsIn row state.rows → number state.spaces row.name top.name.space ≡ Some (root_number row.name)
  as_top row i = subst (λ s. number state.spaces row.name s ≡ Some (root_number row.name)) (sym (root_init_row state sound.coherent).3) (number-root_of_row state sound.coherent row i)

  as_root : (row : Row) → IsIn row state.rows → (m : ℕ) → number state.spaces row.name top.name.space ≡ Some m → root_number row.name ≡ m
  as_root row i m e = root_is row i m (subst (λ s. number state.spaces row.name s ≡ Some m) (root_init_row state sound.coherent).3 e)

  module _ (task : Row) (at : IsIn task state.rows) where
    -- the task is whom it means by its root number
    it : self_or_task state top (root_number task.name) ≡ Some task
    it = meant top task (root_number task.name) at (as_top task at)

    members : numbers_asked state top (Namespace Subtree) (root_number task.name) ≡ visible_numbers state Subtree task.name.space top.name.space
    members = ap (λ o. option_map_or (λ (t : Row). visible_numbers state Subtree t.name.space top.name.space) o []) it

    -- a member is listed
    member_in : (row : Row) → IsIn row state.rows → is_member state.spaces task.name.space row ≡ true → IsIn (root_number row.name) (visible_numbers state Subtree task.name.space top.name.space)
    member_in row i on =
        IsIn-filter_map (λ r. number state.spaces r.name top.name.space) row (root_number row.name) (filter (is_among state.spaces Subtree task.name.space) state.rows)
        (IsIn-filter (is_among state.spaces Subtree task.name.space) row state.rows i on) (as_top row i)

    -- and who is listed is there
    member_there : (m : ℕ) → IsIn m (visible_numbers state Subtree task.name.space top.name.space) → is_some (relations_at state.rows m) ≡ true
    member_there m i =
        let f = IsIn-from_filter_map (λ r. number state.spaces r.name top.name.space) m (filter (is_among state.spaces Subtree task.name.space) state.rows) i in
        let g = IsIn-from_filter (is_among state.spaces Subtree task.name.space) f.0 state.rows f.1 in
        row_there f.0 g.0 m (as_root f.0 g.0 m f.2)

    -- its children are those who belong to it
    belongs_from : (row : Row) → row.parent ≡ Some task.name → belongs state top Task (root_number task.name) row ≡ true
    belongs_from row e =
        let some = above_zero task top.name.space (root_number task.name) at (as_top task at) in
        ap (λ o. option_map_or (is_meant state top Task (root_number task.name)) o false) e
        ∙ ap (λ b. if b then same_name task.name top.name else is_numbered state.spaces task.name top.name.space (root_number task.name)) (ne_eqb (root_number task.name) 0 (λ z. omega (arith, z, some)))
        ∙ is_numbered-from state.spaces task.name top.name.space (root_number task.name) (as_top task at)

    child_in : (row : Row) → IsIn row state.rows → row.parent ≡ Some task.name → IsIn (root_number row.name) (numbers_belonging state top Task (root_number task.name))
    child_in row i e =
        IsIn-filter_map (λ r. number state.spaces r.name top.name.space) row (root_number row.name) (filter (belongs state top Task (root_number task.name)) state.rows)
        (IsIn-filter (belongs state top Task (root_number task.name)) row state.rows i (belongs_from row e)) (as_top row i)

  -- ---- exits

  -- an exit that is refused leaves the state
  exit_refused : (n status : ℕ) → ((step state stamp (Exit n status)).reply ≡ Done → ⊥) → after (Exit n status) ≡ state
  exit_refused n status never = go _ (step_comes state stamp (Exit n status)) never
    where
      go : (o : Outcome) → Comes state stamp (Exit n status) o → (o.reply ≡ Done → ⊥) → o.state ≡ state
      go o (still _ reply answer) never = refl
      go o (fell _ _ caller there deep one) never = absurd (never refl)
      go o (handed_on _ _ caller there none) never = absurd (never refl)

  pub touches_refused : (n status : ℕ) → ((step state stamp (Exit n status)).reply ≡ Done → ⊥) → Touches state (after (Exit n status)) []
  touches_refused n status never = unchanged (Exit n status) (exit_refused n status never)

  -- the exit of an init touches the members of its namespace
  pub touches_members : (n status : ℕ) → (step state stamp (Exit n status)).reply ≡ Done → ((row : Row) → live_row state.rows n ≡ Some row → is_init state row ≡ true)
      → (ns : List ℕ) → IsRootList state (Namespace Subtree) n ns → Touches state (after (Exit n status)) ns
  touches_members n status done own ns lists =
      let c = exit_caller state stamp n status done in
      let init : Row = c.0 in
      let i = live_row-Some state.rows n init (as_live n init c.1) in
      let falls : HasFallen state (after (Exit n status)) init status = exit_of_init_falls state stamp n status init sound c.1 (own init (as_live n init c.1)) done in
      let listed = subst (λ all. AreListedFrom all 0 ns) (ap (λ m. numbers_asked state top (Namespace Subtree) m) (sym i.1) ∙ members init i.0) (top_asks (Namespace Subtree) n ns lists) in
      record {
        rising = listed.rising;
        there = λ m on. member_there init i.0 m ((listed.each m).0 on).1;
        rest = λ row j off. stays (Exit n status) row (itself (after (Exit n status)).rows row (falls.outside row j (λ m.
            off ((listed.each (root_number row.name)).1 (omega arith, member_in init i.0 row j (ap is_some m.1))))));
      }

  -- another one touches the task and its children
  module _ (n status : ℕ) (xs ys : List ℕ) (lists : IsRootList state (Belonging Task) n xs) (perm : IsPermutation (n ∷ xs) ys) (sorted : IsSorted nat_cmp ys)
      (caller : Row) (at : live_row state.rows n ≡ Some caller) (is : (after (Exit n status)).rows ≡ rows_after_exit state caller status) where
    listed : AreListedFrom (numbers_asked state top (Belonging Task) n) 0 xs
    listed = top_asks (Belonging Task) n xs lists

    i : IsIn caller state.rows × (root_number caller.name ≡ n) × (is_live caller ≡ true)
    i = live_row-Some state.rows n caller at

    child_listed : (row : Row) → IsIn row state.rows → row.parent ≡ Some caller.name → IsIn (root_number row.name) xs
    child_listed row j e =
        (listed.each (root_number row.name)).1 (omega arith, subst (λ m. IsIn (root_number row.name) (numbers_belonging state top Task m)) i.1 (child_in caller i.0 row j e))

    own_child : IsIn n xs → ⊥
    own_child on =
        let all = ((listed.each n).0 on).1 in
        let f = IsIn-from_filter_map (λ r. number state.spaces r.name top.name.space) n (filter (belongs state top Task n) state.rows) all in
        let g = IsIn-from_filter (belongs state top Task n) f.0 state.rows f.1 in
        let same : f.0 ≡ caller = unique_key (λ (r : Row). root_number r.name) state.rows sound.coherent.rows_rise f.0 caller g.0 i.0 (as_root f.0 g.0 n f.2 ∙ sym i.1) in
        own_parent (subst (λ r. belongs state top Task n r ≡ true) same g.1)
      where
        own_parent : belongs state top Task n caller ≡ true → ⊥
        own_parent e = parent caller.parent refl e
          where
            parent : (p : Option Name) → caller.parent ≡ p → option_map_or (is_meant state top Task n) p false ≡ true → ⊥
            parent None up e = absurd (cc)
            parent (Some a) up e =
                let far = row_far state sound.coherent caller i.0 in
                let good = ((sound.coherent.parents caller i.0).good a up).lives in
                let some = above_zero caller top.name.space (root_number caller.name) i.0 (as_top caller i.0) in
                let numbered : number state.spaces a top.name.space ≡ Some n =
                is_numbered-true state.spaces a top.name.space n
                (sym (ap (λ b. if b then same_name a top.name else is_numbered state.spaces a top.name.space n) (ne_eqb n 0 (λ z. let e = i.1 in omega (arith, z, some, e)))) ∙ e) in
                let mine : root_number a ≡ root_number caller.name =
                ap root_number (sym good.2) ∙ as_root good.0 good.1 n (subst (λ x. number state.spaces x top.name.space ≡ Some n) (sym good.2) numbered) ∙ sym i.1 in
                no_own_parent (parent_number state.rows) (top_row state sound.coherent) far.0 (root_number caller.name)
                (parent_number-at state.rows (root_number caller.name) caller (row_at-listed state.rows sound.coherent.rows_rise caller i.0)
                ∙ ap (option_map root_number) up ∙ ap Some mine) far.1

    touched : Touches state (after (Exit n status)) ys
    touched = record {
      rising = rising-once ys (IsNonDecreasingBy-from_sort (λ x. x) ys sorted) (λ m.
          let e = times-permuted m (n ∷ xs) ys perm in let one = once-more m n xs own_child (once_rising xs listed.rising m) in omega (arith, e, one));
      there = λ m on. elim (IsIn-unpermuted m (n ∷ xs) ys perm on) [
        | inl e ↦ row_there caller i.0 m (i.1 ∙ sym e)
        | inr later ↦
            let all = ((listed.each m).0 later).1 in
            let f = IsIn-from_filter_map (λ r. number state.spaces r.name top.name.space) m (filter (belongs state top Task n) state.rows) all in
            let g = IsIn-from_filter (belongs state top Task n) f.0 state.rows f.1 in
            row_there f.0 g.0 m (as_root f.0 g.0 m f.2)
      ];
      rest = λ row j off. stays (Exit n status) row (subst (λ rows. Stays rows row) (sym is) (bystander state caller status row j
          (λ e. off (IsIn-permuted (root_number row.name) (n ∷ xs) ys perm (inl (e ∙ i.1))))
          (false_from_ne_true (is_parent caller.name row) (λ e. off (IsIn-permuted (root_number row.name) (n ∷ xs) ys perm (inr (child_listed row j (is_parent-true caller.name row e))))))));
    }

  pub touches_children : (n status : ℕ) → (step state stamp (Exit n status)).reply ≡ Done → ((row : Row) → live_row state.rows n ≡ Some row → is_init state row ≡ false)
      → (xs ys : List ℕ) → IsRootList state (Belonging Task) n xs → IsPermutation (n ∷ xs) ys → IsSorted nat_cmp ys → Touches state (after (Exit n status)) ys
  unfolding sweep handed_over
  touches_children n status done own xs ys lists perm sorted = go _ (step_comes state stamp (Exit n status)) refl done
    where
      go : (o : Outcome) → Comes state stamp (Exit n status) o → step state stamp (Exit n status) ≡ o → o.reply ≡ Done → Touches state (after (Exit n status)) ys
      go o (still _ reply answer) same told = absurd (no_answer reply Done answer refl told)
      go o (fell _ _ caller there deep one) same told = absurd (let z = own caller (as_live n caller there) in cc)
      go o (handed_on _ _ caller there none) same told = touched n status xs ys lists perm sorted caller (as_live n caller there) (ap (λ (o : Outcome). o.state.rows) same)

  -- ---- a wait, and moves to another group or session

  -- a wait that reaps touches whom it reaps
  pub touches_reaped : (n : ℕ) (which : Which) (child : ℕ) (ended : Ended) (o : Option ℕ) → (step state stamp (Wait n which)).reply ≡ Reaped child ended → o ≡ root_seen state n child
      → Touches state (after (Wait n which)) (none_or_one o)
  unfolding sweep without_row matching
  touches_reaped n which child ended o told is = one_touched (Wait n which) n child o is (λ row i off. go _ (step_comes state stamp (Wait n which)) told row i off)
    where
      go : (q : Outcome) → Comes state stamp (Wait n which) q → q.reply ≡ Reaped child ended → (row : Row) → IsIn row state.rows → (IsIn (root_number row.name) (none_or_one o) → ⊥)
          → Stays q.state.rows row
      go q (still _ reply answer) told row i off = absurd (no_answer reply (Reaped child ended) answer refl told)
      go q (waits _ _ caller there none) told row i off = absurd (cc)
      go q (reaped _ _ caller gone there least) told row i off =
          itself _ row (IsIn-filter (λ r. not (same_name r.name gone.name)) row state.rows i (not_from_false (same_name row.name gone.name) (false_from_ne_true (same_name row.name gone.name) (λ e.
          off (subst (λ p. IsIn (root_number row.name) (none_or_one p)) (sym here) (inl (ap root_number (same_name-true row.name gone.name e))))))))
        where
          number-is : number_or_zero state.spaces gone.name caller.name.space ≡ child
          number-is = cc

          g : IsIn gone state.rows
          g = (reaped_row state caller gone which least).0

          child_of_caller : gone.parent ≡ Some caller.name
          child_of_caller =
              let f = IsIn-from_filter (λ r. not (is_live r)) gone (matching state caller which) (least_row-IsIn state caller.name.space (ended_children state caller which) gone least) in
              ((may-match state caller which gone).0 f.0).1

          seen : (m : ℕ) × (number state.spaces gone.name caller.name.space ≡ Some m)
          seen =
              number-on_path state.spaces gone.name caller.name.space (sound.coherent.numbered gone.name (own_in_use state gone g)).one_each
              ((sound.coherent.parents gone g).good caller.name child_of_caller).around

          here : o ≡ Some (root_number gone.name)
          here =
              let m : seen.0 ≡ child = (let z = ap (λ p. unwrap_or p 0) seen.1 in let y = number-is in cc) in
              is ∙ ap (λ c. option_and_then (λ (c : Row). option_map (λ (r : Row). root_number r.name) (self_or_task state c child)) c) (as_live n caller there)
              ∙ ap (option_map (λ (r : Row). root_number r.name)) (meant caller gone child g (subst (λ k. number state.spaces gone.name caller.name.space ≡ Some k) m seen.1))

  -- any other wait leaves the state
  pub touches_nobody : (n : ℕ) (which : Which) → ((child : ℕ) (ended : Ended) → (step state stamp (Wait n which)).reply ≡ Reaped child ended → ⊥) → Touches state (after (Wait n which)) []
  touches_nobody n which never = unchanged (Wait n which) (go _ (step_comes state stamp (Wait n which)) never)
    where
      go : (o : Outcome) → Comes state stamp (Wait n which) o → ((child : ℕ) (ended : Ended) → o.reply ≡ Reaped child ended → ⊥) → o.state ≡ state
      go o (still _ reply answer) never = refl
      go o (waits _ _ caller there none) never = refl
      go o (reaped _ _ caller gone there least) never = absurd (never _ _ refl)

  -- a setpgid touches its target
  pub touches_target : (n : ℕ) (pid pgid : ℤ) (o : Option ℕ) → o ≡ target_seen state n pid → Touches state (after (SetPgid n pid pgid)) (none_or_one o)
  unfolding sweep with_row
  touches_target n (negsuc m) pgid o is = subst (λ p. Touches state (after (SetPgid n (negsuc m) pgid)) (none_or_one p)) (sym is) (unchanged (SetPgid n (negsuc m) pgid) (go _ (step_comes state stamp (SetPgid n (negsuc m) pgid))))
    where
      go : (q : Outcome) → Comes state stamp (SetPgid n (negsuc m) pgid) q → q.state ≡ state
      go q (still _ reply answer) = refl
      go q (grouped _ _ _ caller target group there aimed leads same own found) = absurd (cc)
  touches_target n (pos m) pgid o is = one_touched (SetPgid n (pos m) pgid) n m o is (λ row i off. go _ (step_comes state stamp (SetPgid n (pos m) pgid)) row i off)
    where
      go : (q : Outcome) → Comes state stamp (SetPgid n (pos m) pgid) q → (row : Row) → IsIn row state.rows → (IsIn (root_number row.name) (none_or_one o) → ⊥) → Stays q.state.rows row
      go q (still _ reply answer) row i off = itself state.rows row i
      go q (grouped _ _ _ caller target group there aimed leads same own found) row i off =
          let here : o ≡ Some (root_number target.name) =
          is ∙ ap (λ c. option_and_then (λ (c : Row). option_map (λ (r : Row). root_number r.name) (self_or_task state c m)) c) (as_live n caller there)
          ∙ ap (option_map (λ (r : Row). root_number r.name)) aimed in
          other target (set_group group) state.rows row i (λ e. off (subst (λ p. IsIn (root_number row.name) (none_or_one p)) (sym here) (inl e)))

  -- a setsid touches its caller
  pub touches_leader : (n : ℕ) (o : Option ℕ) → o ≡ root_seen state n 0 → Touches state (after (SetSid n)) (none_or_one o)
  unfolding sweep with_row
  touches_leader n o is = one_touched (SetSid n) n 0 o is (λ row i off. go _ (step_comes state stamp (SetSid n)) row i off)
    where
      go : (q : Outcome) → Comes state stamp (SetSid n) q → (row : Row) → IsIn row state.rows → (IsIn (root_number row.name) (none_or_one o) → ⊥) → Stays q.state.rows row
      go q (still _ reply answer) row i off = itself state.rows row i
      go q (led _ caller there none) row i off =
          let here : o ≡ Some (root_number caller.name) =
          is ∙ ap (λ c. option_and_then (λ (c : Row). option_map (λ (r : Row). root_number r.name) (self_or_task state c 0)) c) (as_live n caller there) in
          other caller start_session state.rows row i (λ e. off (subst (λ p. IsIn (root_number row.name) (none_or_one p)) (sym here) (inl e)))
