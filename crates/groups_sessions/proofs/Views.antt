-- What each task is in, by the groups of tasks and the sessions of groups.
use Rattle.std.proofs.Common.{◌≡◌, ◌≢◌, inl, inr, ℕ, ◌<◌, List, length, get_or, set, Bool, true, false, IsTrue, Option, Some, None, option_map, unwrap_or, refl, sym, ap, subst, ◌∙◌, arith}
use Rattle.std.proofs.lemmas.Bool.{cases_eq}
use Rattle.std.proofs.lemmas.List.{ext_get_or, get_or-set_same, get_or-set_other, length-map, length-set}
use Rattle.std.proofs.Math.ListN.{get_or-map}
use Rattle.member_lists.specs.Owners.{owner_of}
use Rattle.groups_sessions.specs.Membership.{Membership, membership_at, group_of, session_of, groups_of, AreInSession, AreOthersInSession, membership_in, memberships_of, AreMemberships}

-- the session of a group
abbrev pub session_at : List (Option ℕ) → ℕ → ℕ
session_at sessions g = unwrap_or (owner_of sessions g) 0

module _ (groups : List (Option ℕ)) (sessions : List (Option ℕ)) where
  pub membership_at-is : (k : ℕ) → membership_at (memberships_of groups sessions) k ≡ option_map (membership_in sessions) (owner_of groups k)
  membership_at-is k = get_or-map (option_map (membership_in sessions)) groups k None

  pub group_of-is : (k : ℕ) → group_of (memberships_of groups sessions) k ≡ owner_of groups k
  group_of-is k = ap (option_map (λ (m : Membership). m.group)) (membership_at-is k) ∙ go (owner_of groups k)
    where
      go : (o : Option ℕ) → option_map (λ (m : Membership). m.group) (option_map (membership_in sessions) o) ≡ o
      go None = refl
      go (Some g) = refl

  -- whoever is in a group is in the session that it has
  pub in_session : (g s : ℕ) → session_at sessions g ≡ s → AreInSession (memberships_of groups sessions) g s
  in_session g s is k mine =
      ap (option_map (λ (m : Membership). m.session)) (membership_at-is k ∙ ap (option_map (membership_in sessions)) (sym (group_of-is k) ∙ mine)) ∙ ap Some is

  -- a task's group, and its session by that
  pub told : (k : ℕ) (m : Membership) → membership_at (memberships_of groups sessions) k ≡ Some m → (owner_of groups k ≡ Some m.group) × (session_at sessions m.group ≡ m.session)
  told k m is = go (owner_of groups k) refl (sym (membership_at-is k) ∙ is)
    where
      go : (o : Option ℕ) → owner_of groups k ≡ o → option_map (membership_in sessions) o ≡ Some m → (owner_of groups k ≡ Some m.group) × (session_at sessions m.group ≡ m.session)
      go None e same = absurd (cc)
      go (Some g) e same = let at : membership_in sessions g ≡ m = cc in (e ∙ ap (λ (x : Membership). Some x.group) at, ap (λ (x : Membership). session_at sessions x.group) (sym at) ∙ ap (λ (x : Membership). x.session) at)

  module _ (t g s : ℕ) (inside : g < length sessions) (together : AreOthersInSession (memberships_of groups sessions) t g s) where
    -- the group's session is what it was, if somebody else is in it
    session_kept : (k h : ℕ) → k ≢ t → owner_of groups k ≡ Some h → session_at (set sessions g (Some s)) h ≡ session_at sessions h
    session_kept k h another mine = elim (cases_eq h g) [
      | inl same ↦
          let at : group_of (memberships_of groups sessions) k ≡ Some g = group_of-is k ∙ mine ∙ ap Some same in
          let is : Some (session_at sessions h) ≡ Some s =
          sym (ap (option_map (λ (m : Membership). m.session)) (membership_at-is k ∙ ap (option_map (membership_in sessions)) mine)) ∙ together k another at in
          let e : session_at sessions h ≡ s = cc in
          ap (λ i. session_at (set sessions g (Some s)) i) same ∙ ap (λ o. unwrap_or o 0) (get_or-set_same sessions g (Some s) None inside) ∙ sym e
      | inr other ↦ ap (λ o. unwrap_or o 0) (get_or-set_other sessions g h (Some s) None other)
    ]

    kept : (k : ℕ) → k ≢ t → (o : Option ℕ) → owner_of groups k ≡ o → option_map (membership_in (set sessions g (Some s))) o ≡ option_map (membership_in sessions) o
    kept k another None e = refl
    kept k another (Some h) e = ap (λ (i : ℕ). Some (record { group = h; session = i })) (session_kept k h another e)

    -- one task goes into a group, which has its session
    pub memberships_of-put : memberships_of (set groups t (Some g)) (set sessions g (Some s)) ≡ set (memberships_of groups sessions) t (Some (record { group = g; session = s }))
    memberships_of-put =
        ext_get_or None _ _
        (length-map (set groups t (Some g)) (option_map (membership_in (set sessions g (Some s)))) ∙ length-set groups t (Some g)
        ∙ sym (length-set (memberships_of groups sessions) t (Some (record { group = g; session = s })) ∙ length-map groups (option_map (membership_in sessions))))
        (λ k low. get_or-map (option_map (membership_in (set sessions g (Some s)))) (set groups t (Some g)) k None ∙ at k (let l = length-map (set groups t (Some g)) (option_map (membership_in (set sessions g (Some s)))) in let m = length-set groups t (Some g) in omega (arith, low, l, m)))
      where
        at : (k : ℕ) → k < length groups
            → option_map (membership_in (set sessions g (Some s))) (get_or (set groups t (Some g)) k None) ≡ get_or (set (memberships_of groups sessions) t (Some (record { group = g; session = s }))) k None
        at k low = elim (cases_eq k t) [
          | inl same ↦
              let here : t < length groups = subst (λ (j : ℕ). j < length groups) same low in
              let there : t < length (memberships_of groups sessions) = (let l = length-map groups (option_map (membership_in sessions)) in omega (arith, here, l)) in
              ap (λ j. option_map (membership_in (set sessions g (Some s))) (get_or (set groups t (Some g)) j None)) same
              ∙ ap (option_map (membership_in (set sessions g (Some s)))) (get_or-set_same groups t (Some g) None here)
              ∙ ap (λ o. Some (record { group = g; session = unwrap_or o 0 })) (get_or-set_same sessions g (Some s) None inside)
              ∙ sym (ap (λ j. get_or (set (memberships_of groups sessions) t (Some (record { group = g; session = s }))) j None) same ∙ get_or-set_same (memberships_of groups sessions) t (Some (record { group = g; session = s })) None there)
          | inr another ↦
              ap (option_map (membership_in (set sessions g (Some s)))) (get_or-set_other groups t k (Some g) None another)
              ∙ kept k another (owner_of groups k) refl
              ∙ sym (membership_at-is k)
              ∙ sym (get_or-set_other (memberships_of groups sessions) t k (Some (record { group = g; session = s })) None another)
        ]

-- the session of a group in which nobody is tells nothing
pub same_view : (groups sessions sessions' : List (Option ℕ)) → ((k g : ℕ) → owner_of groups k ≡ Some g → owner_of sessions' g ≡ owner_of sessions g)
    → memberships_of groups sessions' ≡ memberships_of groups sessions
same_view groups sessions sessions' same =
    ext_get_or None _ _ (length-map groups (option_map (membership_in sessions')) ∙ sym (length-map groups (option_map (membership_in sessions))))
    (λ k _. membership_at-is groups sessions' k ∙ go k (owner_of groups k) refl ∙ sym (membership_at-is groups sessions k))
  where
    go : (k : ℕ) (o : Option ℕ) → owner_of groups k ≡ o → option_map (membership_in sessions') o ≡ option_map (membership_in sessions) o
    go k None e = refl
    go k (Some g) e = ap (λ o. Some (record { group = g; session = unwrap_or o 0 })) (same k g e)

-- at each key the group is what the lists say
pub groups_of-is : (groups : List (Option ℕ)) (sessions : List (Option ℕ)) → groups_of (memberships_of groups sessions) ≡ groups
groups_of-is groups sessions =
    ext_get_or None _ _ (length-map (memberships_of groups sessions) (option_map (λ (m : Membership). m.group)) ∙ length-map groups (option_map (membership_in sessions)))
    (λ k _. get_or-map (option_map (λ (m : Membership). m.group)) (memberships_of groups sessions) k None ∙ group_of-is groups sessions k)

-- the task in another group, where its session is known
pub with_group : (v : List (Option Membership)) (t g s : ℕ) → session_of v t ≡ Some s → option_map (λ (m : Membership). record m { group = g }) (membership_at v t) ≡ Some (record { group = g; session = s })
with_group v t g s is = go (membership_at v t) is
  where
    go : (o : Option Membership) → option_map (λ (m : Membership). m.session) o ≡ Some s → option_map (λ (m : Membership). record m { group = g }) o ≡ Some (record { group = g; session = s })
    go None e = absurd (cc)
    go (Some m) e = let same : m.session ≡ s = cc in ap (λ i. Some (record { group = g; session = i })) same

-- the same, of a value seen from outside
pub entered : (groups : List (Option ℕ)) (sessions : List (Option ℕ)) (v : List (Option Membership)) → memberships_of groups sessions ≡ v → AreMemberships groups sessions
    → (t g s : ℕ) → g < length v → AreOthersInSession v t g s → memberships_of (set groups t (Some g)) (set sessions g (Some s)) ≡ set v t (Some (record { group = g; session = s }))
entered groups sessions v is kept t g s room together =
    let long = ap length is in
    memberships_of-put groups sessions t g s (omega (arith, kept.room, long, length-map groups (option_map (membership_in sessions)))) (subst (λ (w : List (Option Membership)). AreOthersInSession w t g s) (sym is) together)
    ∙ ap (λ (w : List (Option Membership)). set w t (Some (record { group = g; session = s }))) is

-- there is room for what the view has room for
pub in_room : (groups sessions : List (Option ℕ)) (v : List (Option Membership)) → memberships_of groups sessions ≡ v → (g : ℕ) → g < length v → g < length groups
in_room groups sessions v is g low = let long = ap length is in let same = length-map groups (option_map (membership_in sessions)) in omega (arith, low, long, same)

-- who is in no group is in no list
pub unowned : (groups sessions : List (Option ℕ)) (v : List (Option Membership)) → memberships_of groups sessions ≡ v → (t : ℕ) → membership_at v t ≡ None → owner_of groups t ≡ None
unowned groups sessions v is t free =
    sym (group_of-is groups sessions t) ∙ ap (λ (w : List (Option Membership)). group_of w t) is ∙ ap (option_map (λ (m : Membership). m.group)) free

-- who is in no list is in no group
pub nobody : (groups : List (Option ℕ)) (sessions : List (Option ℕ)) (v : List (Option Membership)) → memberships_of groups sessions ≡ v → (g : ℕ)
    → ((k : ℕ) → owner_of groups k ≢ Some g) → (k : ℕ) → group_of v k ≢ Some g
nobody groups sessions v is g none k mine = none k (sym (group_of-is groups sessions k) ∙ ap (λ (w : List (Option Membership)). group_of w k) is ∙ mine)

-- more room, and nobody moved
pub grown : (groups groups' : List (Option ℕ)) (sessions sessions' : List (Option ℕ)) → ((k : ℕ) → owner_of groups' k ≡ owner_of groups k)
    → ((k : ℕ) → owner_of sessions' k ≡ owner_of sessions k) → (k : ℕ) → membership_at (memberships_of groups' sessions') k ≡ membership_at (memberships_of groups sessions) k
grown groups groups' sessions sessions' same_groups same_sessions k =
    membership_at-is groups' sessions' k ∙ ap (option_map (membership_in sessions')) (same_groups k) ∙ go (owner_of groups k) ∙ sym (membership_at-is groups sessions k)
  where
    go : (o : Option ℕ) → option_map (membership_in sessions') o ≡ option_map (membership_in sessions) o
    go None = refl
    go (Some g) = ap (λ (i : ℕ). Some (record { group = g; session = i })) (ap (λ o. unwrap_or o 0) (same_sessions g))

pub true_unless : (b : Bool) → (b ≡ false → ⊥) → IsTrue b
true_unless true never = refl
true_unless false never = absurd (never refl)
