-- What setpgid(2) answers by keys is what it comes to in the model.
use Rattle.std.proofs.Common.{◌≡◌, ◌≢◌, ◌⊎◌, inl, inr, ℕ, ◌<◌, ◌==◌, ◌&&◌, ◌||◌, not, Bool, true, false, length, Option, Some, None, IsSome, is_some, if◌then◌else◌, option_map, refl, sym, ap, subst, ◌∙◌}
use Rattle.std.specs.Prelude.{ℤ, pos, negsuc, Result, Ok, Err, ok_or}
use Rattle.std.specs.Option.{option_map_or, option_eq}
use Rattle.std.proofs.lemmas.Bool.{eqb-true}
use Rattle.pid_types.proofs.General.{held}
use Rattle.pid_types.specs.declared.plain.Name.{Name}
use Rattle.pid_types.specs.declared.plain.Row.{Row}
use Rattle.pid_types.specs.declared.reply.Refusal.{Refusal}
use Rattle.pid_types.specs.declared.reply.Refusal.TheVariants.{NoCaller, BadGroup, NoTask, OtherSession, Executed, IsLeader, NoGroup}
use Rattle.pid_types.specs.declared.reply.Reply.TheVariants.{Done}
use Rattle.pid_types.specs.State.{State}
use Rattle.pid_types.specs.Threads.{caller_of}
use Rattle.pid_types.specs.Names.{is_parent, live_row, same_name, with_row}
use Rattle.pid_types.specs.Outcome.{Outcome, changed, refused, for_found, refuse_if}
use Rattle.pid_types.specs.Groups.{is_negative, is_no_leader, target_of, session_group, group_for, set_group, set_group_of, set_pgid}
use Rattle.pid_numbers.specs.Numbering.{Numbering, Identifier, identifier_at, id_at}
use Rattle.task_tree.specs.declared.Task.{Task}
use Rattle.task_tree.specs.Tree.{task_at, parent_of}
use Rattle.groups_sessions.specs.declared.ask.GroupAsk.{GroupAsk}
use Rattle.groups_sessions.specs.declared.ask.Target.{Target}
use Rattle.groups_sessions.specs.Membership.{Membership, membership_at, session_of, AreInSession}
use Rattle.groups_sessions.specs.Setpgid.{target_refusal, answer_for, setpgid_answer, has_number, session_group_key, group_key_for, refusal_if}
use Rattle.groups_sessions.proofs.SessionGroups.{session_group-some}
use Rattle.task_table.specs.Store.{Store}
use Rattle.task_table.proofs.Changes.{in_range}
use Rattle.task_table.proofs.Groups.{session_is, in_group}
use Rattle.task_table.specs.View.{name_at, row_of, state_of}
use Rattle.task_table.specs.Lawful.{IsLawful}
use Rattle.task_table.specs.Whole.{IsWhole}
use Rattle.task_table.proofs.Keys.{number-is_key}
use Rattle.task_table.proofs.LookUps.{named, group-named, session-named, same-name, rows-in}
use Rattle.task_table.proofs.InUse.{member}
use Rattle.set_calls.specs.Asked.{IsAskedTarget, IsNamed, MayJoin}
use Rattle.task_table.proofs.Seated.{group-name, session-name, who, one-key}
use Rattle.set_calls.proofs.InSession.{session-group-is}

-- nobody asks
pub unknown-caller : (state : State) (n : ℕ) (pid pgid : ℤ) → caller_of state n ≡ None → set_pgid state n pid pgid ≡ refused state NoCaller
unfolding set_pgid
unknown-caller state n pid pgid none =
    ap (λ o. for_found state o NoCaller (λ caller. refuse_if state (is_negative pgid) BadGroup (for_found state (target_of state caller pid) NoTask (λ t.
    refuse_if state (is_no_leader state caller pid) BadGroup (set_group_of state caller t pgid))))) none

-- who asks is a task, of its session and its namespace, and the target is whom the number names
pub record IsAsk (s : Store) (own : Task) (pid : ℤ) (ask : GroupAsk) : Type 0 where
  pub there : task_at s.tree ask.caller ≡ Some own
  pub session : session_of s.members ask.caller ≡ Some ask.session
  pub space : id_at s.numbering ask.space ≡ Some (name_at s.numbering ask.caller).space
  pub target : IsNamed s ask.caller own pid ask.target

module _ (s : Store) (l : IsLawful s) (w : IsWhole s) (own : Task) (pid : ℤ) (ask : GroupAsk) (a : IsAsk s own pid ask) where
  abbrev b : Numbering
  b = s.numbering

  abbrev state : State
  state = state_of s

  abbrev row : Row
  row = row_of s ask.caller own

  -- the caller's session
  own_session : (m : Membership) × (membership_at s.members ask.caller ≡ Some m) × (m.session ≡ ask.session)
  own_session = let m = member s l ask.caller own a.there in (m.0, m.1, session_is s.members ask.caller m.0 m.1 ask.session a.session)

  session_here : row.session ≡ name_at b ask.session
  session_here = let m = own_session in session-name s l ask.caller own m.0 m.1 ∙ ap (name_at b) m.2

  session_there : IsSome (identifier_at b ask.session)
  session_there = let m = own_session in let z = session-named s l ask.caller m.0 m.1 in ap is_some (ap (identifier_at b) (sym m.2) ∙ z.1)

  module _ (target : Target) (t : Task) (h : IsAskedTarget s ask.caller t target) where
    target_named : (u : Identifier) × (identifier_at b target.ident ≡ Some u)
    target_named = named s l target.ident t h.there

    -- the group that the number names for the target
    group-is : (z : ℤ) → group_for state row (row_of s target.ident t) z ≡ option_map (name_at b) (group_key_for s.members b ask target z)
    group-is (negsuc n) = refl
    group-is (pos n) =
        let u = target_named in
        ap (λ o. if (n == 0) || option_eq ◌==◌ o (Some n) then Some (name_at b target.ident) else session_group state row n)
        (number-is_key b l.numbering ask.space row.name.space target.ident u.0 a.space u.1) ∙ test ((n == 0) || has_number b target.ident ask.space n)
      where
        test : (x : Bool) → (if x then Some (name_at b target.ident) else session_group state row n)
            ≡ option_map (name_at b) (if x then Some target.ident else session_group_key s.members b ask.session ask.space n)
        test true = refl
        test false = session-group-is s l row ask.session ask.space session_here session_there a.space n

    child-is : is_parent row.name (row_of s target.ident t) ≡ target.is_child
    child-is = go (parent_of s.tree target.ident) refl ∙ sym h.is_child
      where
        go : (o : Option ℕ) → parent_of s.tree target.ident ≡ o → option_eq same_name (option_map (name_at b) o) (Some row.name) ≡ option_eq ◌==◌ o (Some ask.caller)
        go None e = refl
        go (Some p) e =
            let v = held (task_at s.tree p) (w.parents target.ident p e) in
            same-name s l p ask.caller (let x = named s l p v.0 v.1 in ap is_some x.1) (let x = named s l ask.caller own a.there in ap is_some x.1)

    -- the target's session
    own_membership : (m : Membership) × (membership_at s.members target.ident ≡ Some m) × (m.session ≡ target.session)
    own_membership = let m = member s l target.ident t h.there in (m.0, m.1, session_is s.members target.ident m.0 m.1 target.session h.session)

    session_of_target : (row_of s target.ident t).session ≡ name_at b target.session
    session_of_target = let m = own_membership in session-name s l target.ident t m.0 m.1 ∙ ap (name_at b) m.2

    target_session_there : IsSome (identifier_at b target.session)
    target_session_there = let m = own_membership in let z = session-named s l target.ident m.0 m.1 in ap is_some (ap (identifier_at b) (sym m.2) ∙ z.1)

    -- what comes of an answer
    abbrev comes_to : Result ℕ Refusal → Outcome
    comes_to (Ok g) = changed (with_row state (name_at b target.ident) (set_group (name_at b g))) Done
    comes_to (Err r) = refused state r

    -- the refusals, one after the other
    in_turn : (v x y z : Bool) (g : Option ℕ)
        → refuse_if state v OtherSession (refuse_if state x Executed (refuse_if state y NoTask (refuse_if state z IsLeader
        (for_found state (option_map (name_at b) g) NoGroup (λ group. changed (with_row state (name_at b target.ident) (set_group group)) Done)))))
        ≡ comes_to (option_map_or Err (refusal_if v OtherSession (refusal_if x Executed (refusal_if y NoTask (refusal_if z IsLeader None)))) (ok_or g NoGroup))
    in_turn true x y z g = refl
    in_turn false true y z g = refl
    in_turn false false true z g = refl
    in_turn false false false true g = refl
    in_turn false false false false None = refl
    in_turn false false false false (Some g) = refl

    pub set-group-is : set_group_of state row (row_of s target.ident t) ask.pgid ≡ comes_to (answer_for s.members b ask target)
    unfolding set_group_of
    set-group-is =
        (λ i. form (child-is i) (session i) (executed i) (self i) (leader i) (group-is ask.pgid i))
        ∙ in_turn (target.is_child && not (target.session == ask.session)) (target.is_child && target.executed) (not (target.is_child || (target.ident == ask.caller))) (target.session == target.ident) (group_key_for s.members b ask target ask.pgid)
      where
        form : Bool → Bool → Bool → Bool → Bool → Option Name → Outcome
        form child session executed self leader group =
            refuse_if state (child && not session) OtherSession (refuse_if state (child && executed) Executed (refuse_if state (not (child || self)) NoTask (refuse_if state leader IsLeader
            (for_found state group NoGroup (λ g. changed (with_row state (name_at b target.ident) (set_group g)) Done)))))

        session : same_name (row_of s target.ident t).session row.session ≡ (target.session == ask.session)
        session = ap (λ x. same_name x row.session) session_of_target ∙ ap (same_name (name_at b target.session)) session_here ∙ same-name s l target.session ask.session target_session_there session_there

        executed : t.executed ≡ target.executed
        executed = sym h.executed

        self : same_name (name_at b target.ident) row.name ≡ (target.ident == ask.caller)
        self = let u = target_named in same-name s l target.ident ask.caller (ap is_some u.1) (let x = named s l ask.caller own a.there in ap is_some x.1)

        leader : same_name (row_of s target.ident t).session (name_at b target.ident) ≡ (target.session == target.ident)
        leader = let u = target_named in ap (λ x. same_name x (name_at b target.ident)) session_of_target ∙ same-name s l target.session target.ident target_session_there (ap is_some u.1)

    -- why the target goes into no group, and its group
    go_on : (o : Option Refusal) (p : Option ℕ) (g : ℕ) → option_map_or Err o (ok_or p NoGroup) ≡ Ok g → (o ≡ None) × (p ≡ Some g)
    go_on (Some r) p g e = absurd (cc)
    go_on None None g e = absurd (cc)
    go_on None (Some i) g e = (refl, (let z : i ≡ g = cc in ap Some z))

    -- who is not refused is in the caller's session
    not_refused : target_refusal ask target ≡ None → target.session ≡ ask.session
    not_refused e = go target.is_child refl (target.session == ask.session) refl (target.ident == ask.caller) refl
      where
        go : (x : Bool) → target.is_child ≡ x → (y : Bool) → (target.session == ask.session) ≡ y → (z : Bool) → (target.ident == ask.caller) ≡ z → target.session ≡ ask.session
        go x xs true ys z zs = eqb-true target.session ask.session ys
        go true xs false ys z zs =
            let r : target_refusal ask target ≡ Some OtherSession = λ i. refusal_if (xs i && not (ys i)) OtherSession (refusal_if (target.is_child && target.executed) Executed
            (refusal_if (not (target.is_child || (target.ident == ask.caller))) NoTask (refusal_if (target.session == target.ident) IsLeader None))) in
            absurd (let z : Some OtherSession ≡ None = sym r ∙ e in cc)
        go false xs false ys true zs =
            let same : target.ident ≡ ask.caller = eqb-true target.ident ask.caller zs in
            let m = own_membership in
            let c = own_session in
            let z : Some m.0 ≡ Some c.0 = sym m.1 ∙ ap (membership_at s.members) same ∙ c.1 in
            sym m.2 ∙ ap (λ o. option_map_or (λ (i : Membership). i.session) o 0) z ∙ c.2
        go false xs false ys false zs =
            let r : target_refusal ask target ≡ Some NoTask = λ i. refusal_if (xs i && not (target.session == ask.session)) OtherSession (refusal_if (xs i && target.executed) Executed
            (refusal_if (not (xs i || zs i)) NoTask (refusal_if (target.session == target.ident) IsLeader None))) in
            absurd (let z : Some NoTask ≡ None = sym r ∙ e in cc)

    -- whose group it is
    whose : (g : ℕ) (z : ℤ) → group_key_for s.members b ask target z ≡ Some g → (g ≡ target.ident) ⊎ ((k : ℕ) × (membership_at s.members k ≡ Some (record { group = g; session = ask.session })))
    whose g (negsuc n) e = absurd (cc)
    whose g (pos n) e = go ((n == 0) || has_number b target.ident ask.space n) e
      where
        go : (x : Bool) → (if x then Some target.ident else session_group_key s.members b ask.session ask.space n) ≡ Some g
            → (g ≡ target.ident) ⊎ ((k : ℕ) × (membership_at s.members k ≡ Some (record { group = g; session = ask.session })))
        go true e = inl (ap (λ (o : Option ℕ). option_map_or (λ x. x) o g) (sym e))
        go false e = inr ((session_group-some s.members b ask.session ask.space n g e).1)

    -- in a sound state who is in a group is in the session of the task that it is named after
    leads : (i : ℕ) → session_of s.members target.ident ≡ Some i → AreInSession s.members target.ident i
    leads i is k mine =
        let m = in_group s.members k target.ident mine in
        let v = who s l k m.0 m.1 in
        let c = own_membership in
        let own : c.0.session ≡ i = session_is s.members target.ident c.0 c.1 i is in
        let names : name_at b m.0.session ≡ name_at b c.0.session =
        sym (session-name s l k v.0 m.0 m.1)
        ∙ w.sound.coherent.groups.leader (row_of s k v.0) (row_of s target.ident t) (rows-in s l k v.0 v.1) (rows-in s l target.ident t h.there) (group-name s l k v.0 m.0 m.1 ∙ ap (name_at b) m.2)
        ∙ session-name s l target.ident t c.0 c.1 in
        let x = session-named s l k m.0 m.1 in
        let y = session-named s l target.ident c.0 c.1 in
        let same : m.0.session ≡ c.0.session = one-key s l m.0.session c.0.session (ap is_some x.1) (ap is_some y.1) names in
        ap (option_map (λ (m : Membership). m.session)) m.1 ∙ ap Some (same ∙ own)

    pub may-join : ((k : ℕ) (m : Membership) → membership_at s.members k ≡ Some m → m.group < length s.members) → (g : ℕ) → answer_for s.members b ask target ≡ Ok g → MayJoin s target.ident g
    may-join room g e =
        let parts = go_on (target_refusal ask target) (group_key_for s.members b ask target ask.pgid) g e in
        go (whose g ask.pgid parts.1) (not_refused parts.0)
      where
        go : (g ≡ target.ident) ⊎ ((k : ℕ) × (membership_at s.members k ≡ Some (record { group = g; session = ask.session }))) → target.session ≡ ask.session → MayJoin s target.ident g
        go (inl own) same =
            let c = own_membership in
            let u = target_named in record {
              task = ap is_some h.there;
              member = ap is_some c.1;
              group = ap is_some (ap (identifier_at b) own ∙ u.1);
              room = subst (λ (k : ℕ). k < length s.members) (sym own) (in_range s.members target.ident (ap is_some c.1));
              together = λ i is. subst (λ (k : ℕ). AreInSession s.members k i) (sym own) (leads i is);
            }
        go (inr (k, at)) same =
            let m : Membership = record { group = g; session = ask.session } in
            let c = own_membership in
            let u = group-named s l k m at in record {
              task = ap is_some h.there;
              member = ap is_some c.1;
              group = ap is_some u.1;
              room = room k m at;
              together = λ i is.
                  let mine : ask.session ≡ i = sym same ∙ sym c.2 ∙ session_is s.members target.ident c.0 c.1 i is in
                  subst (λ (j : ℕ). AreInSession s.members g j) mine (l.together k m at);
            }

  -- what comes of an answer, by the target
  abbrev comes : Option Target → Result ℕ Refusal → Outcome
  comes (Some target) (Ok g) = changed (with_row state (name_at b target.ident) (set_group (name_at b g))) Done
  comes None (Ok g) = refused state NoTask
  comes o (Err r) = refused state r

  by_target : (o : Option Target) → IsNamed s ask.caller own pid o
      → for_found state (target_of state row pid) NoTask (λ t. set_group_of state row t ask.pgid) ≡ comes o (option_map_or (answer_for s.members b ask) o (Err NoTask))
  by_target None e = ap (λ o. for_found state o NoTask (λ t. set_group_of state row t ask.pgid)) e
  by_target (Some target) (t, h, e) = ap (λ o. for_found state o NoTask (λ t. set_group_of state row t ask.pgid)) e ∙ set-group-is target t h ∙ same (answer_for s.members b ask target)
    where
      same : (r : Result ℕ Refusal) → comes_to target t h r ≡ comes (Some target) r
      same (Ok g) = refl
      same (Err r) = refl

  -- what setpgid(2) comes to in the model is what the answer says
  pub answered : (n : ℕ) → live_row state.rows n ≡ Some row → set_pgid state n pid ask.pgid ≡ comes ask.target (setpgid_answer s.members b ask)
  unfolding set_pgid
  answered n live =
      ap (λ o. for_found state o NoCaller (λ caller. refuse_if state (is_negative ask.pgid) BadGroup (for_found state (target_of state caller pid) NoTask (λ t.
      refuse_if state (is_no_leader state caller pid) BadGroup (set_group_of state caller t ask.pgid))))) live
      ∙ ap (λ x. refuse_if state (is_negative ask.pgid) BadGroup (for_found state (target_of state row pid) NoTask (λ t.
      refuse_if state x BadGroup (set_group_of state row t ask.pgid)))) (leads pid)
      ∙ test (is_negative ask.pgid)
    where
      -- a store has no threads, so no number is that of another thread than the first one
      leads : (p : ℤ) → is_no_leader state row p ≡ false
      leads (pos m) = refl
      leads (negsuc m) = refl

      none : (o : Option Target) → refused state BadGroup ≡ comes o (Err BadGroup)
      none None = refl
      none (Some target) = refl

      test : (x : Bool) → refuse_if state x BadGroup (for_found state (target_of state row pid) NoTask (λ t. set_group_of state row t ask.pgid))
          ≡ comes ask.target (if x then Err BadGroup else option_map_or (answer_for s.members b ask) ask.target (Err NoTask))
      test true = none ask.target
      test false = by_target ask.target a.target

  -- a refusal
  pub refuses : (n : ℕ) → live_row state.rows n ≡ Some row → (r : Refusal) → setpgid_answer s.members b ask ≡ Err r → set_pgid state n pid ask.pgid ≡ refused state r
  refuses n live r e = answered n live ∙ ap (comes ask.target) e ∙ go ask.target
    where
      go : (o : Option Target) → comes o (Err r) ≡ refused state r
      go None = refl
      go (Some target) = refl

  -- a group
  pub chooses : (n : ℕ) → live_row state.rows n ≡ Some row → (target : Target) → ask.target ≡ Some target → (g : ℕ) → setpgid_answer s.members b ask ≡ Ok g
      → set_pgid state n pid ask.pgid ≡ changed (with_row state (name_at b target.ident) (set_group (name_at b g))) Done
  chooses n live target is g e = answered n live ∙ ap (comes ask.target) e ∙ ap (λ o. comes o (Ok g)) is

  of_target : (x : Bool) (o : Option Target) (g : ℕ) → (if x then Err BadGroup else option_map_or (answer_for s.members b ask) o (Err NoTask)) ≡ Ok g → (target : Target) × (o ≡ Some target) × (answer_for s.members b ask target ≡ Ok g)
  of_target true o g e = absurd (cc)
  of_target false None g e = absurd (cc)
  of_target false (Some target) g e = (target, refl, e)

  -- where a group is answered somebody is the target
  pub somebody : (g : ℕ) → setpgid_answer s.members b ask ≡ Ok g → ask.target ≢ None
  somebody g e none = let t = of_target (is_negative ask.pgid) ask.target g e in let z : Some t.0 ≡ None = sym t.1 ∙ none in cc

  -- and may go into the group
  pub may : ((k : ℕ) (m : Membership) → membership_at s.members k ≡ Some m → m.group < length s.members) → (target : Target) → ask.target ≡ Some target → (g : ℕ) → setpgid_answer s.members b ask ≡ Ok g → MayJoin s target.ident g
  may room target is g e =
      let t = of_target (is_negative ask.pgid) ask.target g e in
      let same : Some t.0 ≡ Some target = sym t.1 ∙ is in
      let one : t.0 ≡ target = ap (λ o. option_map_or (λ x. x) o target) same in
      let named = subst (λ (o : Option Target). IsNamed s ask.caller own pid o) is a.target in
      may-join target named.0 named.1 room g (ap (answer_for s.members b ask) (sym one) ∙ t.2)
