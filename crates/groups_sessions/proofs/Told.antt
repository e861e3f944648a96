-- What the session of a group and the groups of a session tell of tasks.
use Rattle.std.proofs.Common.{◌≡◌, ℕ, List, [], ◌∷◌, Option, Some, None, option_map, unwrap_or, refl, sym, ap, ◌∙◌}
use Rattle.std.specs.List.{AllByRecursion}
use Rattle.pid_types.proofs.General.{held}
use Rattle.member_lists.specs.Owners.{owner_of, AreMembers}
use Rattle.groups_sessions.specs.Membership.{Membership, membership_at, IsSessionOf, AreGroupsOf, membership_in, memberships_of, AreMemberships}
use Rattle.groups_sessions.proofs.Views.{membership_at-is, group_of-is, in_session, told}

module _ (groups sessions : List (Option ℕ)) (w : AreMemberships groups sessions) where
  -- the session that the lists have for a group
  pub session_told : (g : ℕ) → IsSessionOf (memberships_of groups sessions) g (owner_of sessions g)
  session_told g = go (owner_of sessions g) refl
    where
      go : (o : Option ℕ) → owner_of sessions g ≡ o → IsSessionOf (memberships_of groups sessions) g o
      go None e = λ k mine. let s = held (owner_of sessions g) (w.held k g (sym (group_of-is groups sessions k) ∙ mine)) in absurd (let z = sym e ∙ s.1 in cc)
      go (Some s) e = let j = w.joined g s e in ((j.0, group_of-is groups sessions j.0 ∙ j.1), in_session groups sessions g s (ap (λ o. unwrap_or o 0) e))

  -- the lists have the session of each task's group
  pub owner-told : (k : ℕ) (m : Membership) → membership_at (memberships_of groups sessions) k ≡ Some m → owner_of sessions m.group ≡ Some m.session
  owner-told k m is =
      let t = told groups sessions k m is in
      let s = held (owner_of sessions m.group) (w.held k m.group t.0) in
      s.1 ∙ ap Some (sym (ap (λ o. unwrap_or o 0) s.1) ∙ t.1)

  -- some task is in each group that has a session
  someone : (g s : ℕ) → owner_of sessions g ≡ Some s → (k : ℕ) × (membership_at (memberships_of groups sessions) k ≡ Some (record { group = g; session = s }))
  someone g s e =
      let j = w.joined g s e in
      let at = membership_at-is groups sessions j.0 ∙ ap (option_map (membership_in sessions)) j.1 in
      (j.0, at ∙ ap (λ o. Some (record { group = g; session = unwrap_or o 0 })) e)

  all : (s : ℕ) (gs : List ℕ) → AllByRecursion (λ g. owner_of sessions g ≡ Some s) gs
      → AllByRecursion (λ g. (k : ℕ) × (membership_at (memberships_of groups sessions) k ≡ Some (record { group = g; session = s }))) gs
  all s [] h = h
  all s (g ∷ gs) h = (someone g s h.0, all s gs h.1)

  -- the list of a session's groups
  pub groups_told : (s : ℕ) (gs : List ℕ) → AreMembers sessions s gs → AreGroupsOf (memberships_of groups sessions) s gs
  groups_told s gs h = record { once = λ k g is. h.once g (owner-told k (record { group = g; session = s }) is); owned = all s gs h.owned }
