-- A group has a session exactly where somebody is in it, after each change.
use Rattle.std.proofs.Common.{◌≡◌, ◌≢◌, ◌⊎◌, inl, inr, ℕ, ◌<◌, ◌≤◌, List, [], ◌∷◌, zero, suc, length, set, Option, Some, None, IsSome, is_some, sym, ap, subst, ◌∙◌, arith}
use Rattle.std.proofs.lemmas.Bool.{cases_eq}
use Rattle.std.proofs.lemmas.List.{get_or-set_same, get_or-set_other, length-set}
use Rattle.member_lists.specs.Owners.{owner_of}
use Rattle.groups_sessions.specs.Membership.{IsJoined, AreMemberships}

-- the same, but that the group that a task was in may have a session though nobody is left in it
pub record IsKeptBut (groups sessions : List (Option ℕ)) (old : Option ℕ) : Type 0 where
  pub room : length groups ≤ length sessions
  pub few : length groups ≤ 1073741824
  pub inside : (k g : ℕ) → owner_of groups k ≡ Some g → g < length groups
  pub held : (k g : ℕ) → owner_of groups k ≡ Some g → IsSome (owner_of sessions g)
  pub joined : (g s : ℕ) → old ≢ Some g → owner_of sessions g ≡ Some s → IsJoined groups g
  pub session_room : (g s : ℕ) → owner_of sessions g ≡ Some s → s < length groups

-- a group went from its session if nobody was left in it
pub record IsForgotten (groups sessions sessions' : List (Option ℕ)) (group : ℕ) : Type 0 where
  pub joined : IsSome (owner_of sessions' group) → IsJoined groups group
  pub stays : IsJoined groups group → owner_of sessions' group ≡ owner_of sessions group
  pub others : (g : ℕ) → g ≢ group → owner_of sessions' g ≡ owner_of sessions g
  pub room : length sessions' ≡ length sessions

-- who entered was in no group before
pub IsKept-from_none : (groups sessions : List (Option ℕ)) → IsKeptBut groups sessions None → AreMemberships groups sessions
IsKept-from_none groups sessions w = record {
  room = w.room;
  few = w.few;
  inside = w.inside;
  held = w.held;
  joined = λ g s e. w.joined g s (λ z. absurd (cc)) e;
  session_room = w.session_room;
}

module _ (groups sessions sessions' : List (Option ℕ)) (old : ℕ) (f : IsForgotten groups sessions sessions' old) where
  -- each group in which somebody is has the session that it had
  pub session-stays : (k g : ℕ) → owner_of groups k ≡ Some g → owner_of sessions' g ≡ owner_of sessions g
  session-stays k g mine = elim (cases_eq g old) [
    | inl same ↦
        ap (owner_of sessions') same ∙ f.stays (k, mine ∙ ap Some same) ∙ ap (owner_of sessions) (sym same)
    | inr other ↦ f.others g other
  ]

  -- a session that is left is what it was
  was : IsKeptBut groups sessions (Some old) → (g s : ℕ) → owner_of sessions' g ≡ Some s → owner_of sessions g ≡ Some s
  was w g s e = elim (cases_eq g old) [
    | inl same ↦
        (let some : IsSome (owner_of sessions' old) = ap is_some (ap (owner_of sessions') (sym same) ∙ e) in
        ap (owner_of sessions) same ∙ sym (f.stays (f.joined some)) ∙ ap (owner_of sessions') (sym same) ∙ e)
    | inr other ↦ sym (f.others g other) ∙ e
  ]

  in_group : IsKeptBut groups sessions (Some old) → (g s : ℕ) → owner_of sessions' g ≡ Some s → IsJoined groups g
  in_group w g s e = elim (cases_eq g old) [
    | inl same ↦
        (let j = f.joined (ap is_some (ap (owner_of sessions') (sym same) ∙ e)) in (j.0, j.1 ∙ ap Some (sym same)))
    | inr other ↦ w.joined g s (λ z. other (sym (let y : old ≡ g = cc in y))) (was w g s e)
  ]

  pub IsKept-forgotten : IsKeptBut groups sessions (Some old) → AreMemberships groups sessions'
  IsKept-forgotten w = record {
    room = let a = w.room in let b = f.room in omega (arith, a, b);
    few = w.few;
    inside = w.inside;
    held = λ k g mine. ap is_some (session-stays k g mine) ∙ w.held k g mine;
    joined = in_group w;
    session_room = λ g s e. w.session_room g s (was w g s e);
  }

module _ (groups sessions : List (Option ℕ)) (w : AreMemberships groups sessions) (t : ℕ) (task : t < length groups) where
  -- who else was in a group is still in it
  stayed : (o : Option ℕ) (k h : ℕ) → owner_of groups t ≢ Some h → owner_of groups k ≡ Some h → owner_of (set groups t o) k ≡ Some h
  stayed o k h another mine = get_or-set_other groups t k o None (λ same. another (ap (owner_of groups) (sym same) ∙ mine)) ∙ mine

  -- a task is gone from its group
  left : (k h : ℕ) → owner_of (set groups t None) k ≡ Some h → owner_of groups k ≡ Some h
  left k h e = elim (cases_eq k t) [
    | inl same ↦
        (let none : owner_of (set groups t None) k ≡ None = ap (owner_of (set groups t None)) same ∙ get_or-set_same groups t None None task in
        absurd (cc))
    | inr another ↦ sym (get_or-set_other groups t k None None another) ∙ e
  ]

  pub IsKeptBut-left : IsKeptBut (set groups t None) sessions (owner_of groups t)
  IsKeptBut-left = record {
    room = let a = w.room in let l = length-set groups t None in omega (arith, a, l);
    few = let a = w.few in let l = length-set groups t None in omega (arith, a, l);
    inside = λ k h e. let a = w.inside k h (left k h e) in let l = length-set groups t None in omega (arith, a, l);
    held = λ k h e. w.held k h (left k h e);
    joined = λ h r another e. let j = w.joined h r e in (j.0, stayed None j.0 h another j.1);
    session_room = λ h r e. let a = w.session_room h r e in let l = length-set groups t None in omega (arith, a, l);
  }

  module _ (g s : ℕ) (group : g < length groups) (session : s < length groups) where
    inside : g < length sessions
    inside = let a = w.room in omega (arith, group, a)

    -- each task is in the group that it was in, or in this one
    goes : (k h : ℕ) → owner_of (set groups t (Some g)) k ≡ Some h → (h ≡ g) ⊎ (owner_of groups k ≡ Some h)
    goes k h e = elim (cases_eq k t) [
      | inl same ↦
          (let here : owner_of (set groups t (Some g)) k ≡ Some g = ap (owner_of (set groups t (Some g))) same ∙ get_or-set_same groups t (Some g) None task in
          let is : h ≡ g = cc in
          inl is)
      | inr another ↦ inr (sym (get_or-set_other groups t k (Some g) None another) ∙ e)
    ]

    put_here : owner_of (set sessions g (Some s)) g ≡ Some s
    put_here = get_or-set_same sessions g (Some s) None inside

    low : (k h : ℕ) → (h ≡ g) ⊎ (owner_of groups k ≡ Some h) → h < length groups
    low k h (inl is) = omega (arith, is, group)
    low k h (inr e) = w.inside k h e

    has : (k h : ℕ) → (h ≡ g) ⊎ (owner_of groups k ≡ Some h) → IsSome (owner_of (set sessions g (Some s)) h)
    has k h (inl is) = ap is_some (ap (owner_of (set sessions g (Some s))) is ∙ put_here)
    has k h (inr e) = elim (cases_eq h g) [
      | inl is ↦ ap is_some (ap (owner_of (set sessions g (Some s))) is ∙ put_here)
      | inr other ↦ ap is_some (get_or-set_other sessions g h (Some s) None other) ∙ w.held k h e
    ]

    someone : (h r : ℕ) → owner_of groups t ≢ Some h → owner_of (set sessions g (Some s)) h ≡ Some r → IsJoined (set groups t (Some g)) h
    someone h r another e = elim (cases_eq h g) [
      | inl is ↦ (t, get_or-set_same groups t (Some g) None task ∙ ap Some (sym is))
      | inr other ↦
          (let j = w.joined h r (sym (get_or-set_other sessions g h (Some s) None other) ∙ e) in
          (j.0, stayed (Some g) j.0 h another j.1))
    ]

    below : (h r : ℕ) → owner_of (set sessions g (Some s)) h ≡ Some r → r < length groups
    below h r e = elim (cases_eq h g) [
      | inl is ↦
          (let here : owner_of (set sessions g (Some s)) h ≡ Some s = ap (owner_of (set sessions g (Some s))) is ∙ put_here in
          let same : r ≡ s = cc in
          omega (arith, same, session))
      | inr other ↦ w.session_room h r (sym (get_or-set_other sessions g h (Some s) None other) ∙ e)
    ]

    -- a task is in the group, which has the session
    pub IsKeptBut-put : IsKeptBut (set groups t (Some g)) (set sessions g (Some s)) (owner_of groups t)
    IsKeptBut-put = record {
      room = let a = w.room in let l = length-set groups t (Some g) in let m = length-set sessions g (Some s) in omega (arith, a, l, m);
      few = let a = w.few in let l = length-set groups t (Some g) in omega (arith, a, l);
      inside = λ k h e. let a = low k h (goes k h e) in let l = length-set groups t (Some g) in omega (arith, a, l);
      held = λ k h e. has k h (goes k h e);
      joined = someone;
      session_room = λ h r e. let a = below h r e in let l = length-set groups t (Some g) in omega (arith, a, l);
    }

-- who has an owner has a key in range
pub in_range : (owners : List (Option ℕ)) (k g : ℕ) → owner_of owners k ≡ Some g → k < length owners
in_range [] k g e = absurd (cc)
in_range (x ∷ xs) zero g e = omega arith
in_range (x ∷ xs) (suc k) g e = let h = in_range xs k g e in omega (arith, h)

module _ (groups sessions : List (Option ℕ)) (w : AreMemberships groups sessions) (t : ℕ) where
  -- a task entered its first group
  pub IsKept-entered : t < length groups → owner_of groups t ≡ None → (g s : ℕ) → g < length groups → s < length groups
      → AreMemberships (set groups t (Some g)) (set sessions g (Some s))
  IsKept-entered task free g s group session =
      IsKept-from_none (set groups t (Some g)) (set sessions g (Some s))
      (subst (λ (o : Option ℕ). IsKeptBut (set groups t (Some g)) (set sessions g (Some s)) o) free (IsKeptBut-put groups sessions w t task g s group session))

  module _ (old : ℕ) (mine : owner_of groups t ≡ Some old) where
    -- a task went to another group, and the old one from its session if it was the last
    pub IsKept-moved : (g s : ℕ) → g < length groups → s < length groups → (groups' sessions' sessions'' : List (Option ℕ))
        → groups' ≡ set groups t (Some g) → sessions' ≡ set sessions g (Some s) → IsForgotten groups' sessions' sessions'' old → AreMemberships groups' sessions''
    IsKept-moved g s group session groups' sessions' sessions'' same_groups same_sessions f =
        let but : IsKeptBut (set groups t (Some g)) (set sessions g (Some s)) (Some old) =
        subst (λ (o : Option ℕ). IsKeptBut (set groups t (Some g)) (set sessions g (Some s)) o) mine
        (IsKeptBut-put groups sessions w t (in_range groups t old mine) g s group session) in
        IsKept-forgotten groups' sessions' sessions'' old f (rw (same_groups, same_sessions) but)

    -- a task left its group, and that one went from its session if it was the last
    pub IsKept-left : (groups' sessions' : List (Option ℕ)) → groups' ≡ set groups t None → IsForgotten groups' sessions sessions' old
        → AreMemberships groups' sessions'
    IsKept-left groups' sessions' same_groups f =
        let but : IsKeptBut (set groups t None) sessions (Some old) =
        subst (λ (o : Option ℕ). IsKeptBut (set groups t None) sessions o) mine (IsKeptBut-left groups sessions w t (in_range groups t old mine)) in
        IsKept-forgotten groups' sessions sessions' old f (rw same_groups but)

-- more room, and nobody moved
pub IsKept-grown : (groups groups' sessions sessions' : List (Option ℕ)) → AreMemberships groups sessions → length groups' ≤ length sessions'
    → length groups' ≤ 1073741824 → length groups ≤ length groups' → ((k : ℕ) → owner_of groups' k ≡ owner_of groups k)
    → ((g : ℕ) → owner_of sessions' g ≡ owner_of sessions g) → AreMemberships groups' sessions'
IsKept-grown groups groups' sessions sessions' w room few more same_groups same_sessions = record {
  room = room;
  few = few;
  inside = λ k g e. let a = w.inside k g (sym (same_groups k) ∙ e) in omega (arith, a, more);
  held = λ k g e. ap is_some (same_sessions g) ∙ w.held k g (sym (same_groups k) ∙ e);
  joined = λ g s e. let j = w.joined g s (sym (same_sessions g) ∙ e) in (j.0, same_groups j.0 ∙ j.1);
  session_room = λ g s e. let a = w.session_room g s (sym (same_sessions g) ∙ e) in omega (arith, a, more);
}
