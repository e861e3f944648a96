-- The members of a session, group by group.
use Rattle.std.proofs.Common.{◌≡◌, ℕ, ◌+◌, ◌<◌, ◌==◌, Bool, true, false, nat_le, List, [], ◌∷◌, ◌++◌, length, Option, Some, None, cond, option_map, refl, sym, ap, subst, ◌∙◌, arith}
use Rattle.std.specs.Option.{option_map_or}
use Rattle.std.proofs.lemmas.Bool.{eq-eqb, eqb-true}
use Rattle.std.proofs.lemmas.List.{append_assoc}
use Rattle.std.proofs.lemmas.List.Sums.{sum_by-append}
use Rattle.pid_types.specs.declared.call.Kind.TheVariants.{Session}
use Rattle.pid_types.specs.Membership.{IsIn}
use Rattle.member_lists.specs.Owners.{owner_of, times, AreMembers}
use Rattle.pid_numbers.specs.Numbering.{Numbering, number_of}
use Rattle.groups_sessions.specs.Membership.{Membership, membership_at, group_of, groups_of, session_of, AreGroupsOf}
use Rattle.task_table.specs.Store.{Store}
use Rattle.task_table.specs.Lawful.{IsLawful}
use Rattle.task_table.proofs.Places.{each-in}
use Rattle.translate.specs.Gathered.{numbers_of_keys, group_times, AreGathered}
use Rattle.translate.proofs.Rising.{zero-of, times-cons, IsIn-times, times-IsIn}
use Rattle.translate.proofs.Pages.{group-told, gathered}

-- the numbers of more keys
numbers_from-append : (b : Numbering) (space from : ℕ) (js ks : List ℕ) → numbers_of_keys b space from (js ++ ks) ≡ numbers_of_keys b space from js ++ numbers_of_keys b space from ks
numbers_from-append b space from [] ks = refl
numbers_from-append b space from (j ∷ js) ks = go (numbers_from-append b space from js ks) (number_of b j space) refl
  where
    go : numbers_of_keys b space from (js ++ ks) ≡ numbers_of_keys b space from js ++ numbers_of_keys b space from ks → (o : Option ℕ) → number_of b j space ≡ o
        → numbers_of_keys b space from (j ∷ (js ++ ks)) ≡ numbers_of_keys b space from (j ∷ js) ++ numbers_of_keys b space from ks
    go rest None is = rw is rest
    go rest (Some n) is = test (nat_le from n) refl
      where
        test : (t : Bool) → nat_le from n ≡ t → numbers_of_keys b space from (j ∷ (js ++ ks)) ≡ numbers_of_keys b space from (j ∷ js) ++ numbers_of_keys b space from ks
        test false out = rw (is, out) rest
        test true out = rw (is, out) (ap (λ ns. n ∷ ns) rest)

module _ (s : Store) where
  -- who is in a group stands there once more
  group_step : (k g : ℕ) (rest ms : List ℕ) → AreMembers (groups_of s.members) g ms → times k ms + group_times s rest k ≡ group_times s (g ∷ rest) k
  group_step k g rest ms m = go (group_of s.members k) refl
    where
      mine : IsIn k ms → group_of s.members k ≡ Some g
      mine on = sym (group-told s k) ∙ each-in (λ j. owner_of (groups_of s.members) j ≡ Some g) ms m.owned k on

      go : (o : Option ℕ) → group_of s.members k ≡ o → times k ms + option_map_or (λ h. times h rest) o 0 ≡ option_map_or (λ h. times h (g ∷ rest)) o 0
      go None is =
          let none = zero-of (times k ms) (λ some. let z = sym is ∙ mine (times-IsIn k ms some) in absurd (cc)) in
          omega (arith, none)
      go (Some h) is = test (g == h) refl (times-cons h g rest)
        where
          test : (b : Bool) → (g == h) ≡ b → times h (g ∷ rest) ≡ cond {A = ℕ} b 1 0 + times h rest → times k ms + times h rest ≡ times h (g ∷ rest)
          test true same e =
              let one = m.once k (group-told s k ∙ is ∙ ap Some (sym (eqb-true g h same))) in
              omega (arith, e, one)
          test false differs e =
              let none = zero-of (times k ms) (λ some.
              let z : Some h ≡ Some g = sym is ∙ mine (times-IsIn k ms some) in
              let same : h ≡ g = cc in
              let w : true ≡ false = sym (eq-eqb g h (sym same)) ∙ differs in
              absurd (cc)) in
              omega (arith, e, none)

  -- one group more
  pub group_added : (space from g : ℕ) (all rest ms keys first before now : List ℕ) → AreMembers (groups_of s.members) g ms
      → before ≡ first ++ numbers_of_keys s.numbering space from keys → ((k : ℕ) → times k keys + group_times s (g ∷ rest) k ≡ group_times s all k)
      → now ≡ before ++ numbers_of_keys s.numbering space from ms
      → (now ≡ first ++ numbers_of_keys s.numbering space from (keys ++ ms)) × ((k : ℕ) → times k (keys ++ ms) + group_times s rest k ≡ group_times s all k)
  group_added space from g all rest ms keys first before now m was counts is = (
    is ∙ ap (λ ns. ns ++ numbers_of_keys s.numbering space from ms) was ∙ append_assoc first (numbers_of_keys s.numbering space from keys) (numbers_of_keys s.numbering space from ms)
        ∙ ap (λ ns. first ++ ns) (sym (numbers_from-append s.numbering space from keys ms)),
    λ k.
        let sum : times k (keys ++ ms) ≡ times k keys + times k ms = sum_by-append (λ j. cond {A = ℕ} (j == k) 1 0) keys ms in
        let step = group_step k g rest ms m in
        let count = counts k in
        omega (arith, sum, step, count),
  )

  module _ (l : IsLawful s) (space from o : ℕ) where
    -- a session's groups have all its members
    pub gathered_session : (groups keys : List ℕ) → AreGroupsOf s.members o groups → ((k : ℕ) → times k keys ≡ group_times s groups k)
        → AreGathered s space Session o from (numbers_of_keys s.numbering space from keys)
    gathered_session groups keys a counts = gathered s l space from Session o keys once owned
      where
        once : (k : ℕ) → session_of s.members k ≡ Some o → times k keys ≡ 1
        once k mine = go (membership_at s.members k) refl mine
          where
            go : (v : Option Membership) → membership_at s.members k ≡ v → option_map (λ (m : Membership). m.session) v ≡ Some o → times k keys ≡ 1
            go None is e = absurd (cc)
            go (Some m) is e =
                let same : m.session ≡ o = cc in
                let here : membership_at s.members k ≡ Some (record { group = m.group; session = o }) = is ∙ ap (λ (i : ℕ). Some (record { group = m.group; session = i })) same in
                counts k ∙ ap (λ v. option_map_or (λ g. times g groups) (option_map (λ (x : Membership). x.group) v) 0) is ∙ a.once k m.group here

        owned : (k : ℕ) → IsIn k keys → session_of s.members k ≡ Some o
        owned k on = go (group_of s.members k) refl (let some = IsIn-times k keys on in let e = counts k in omega (arith, some, e))
          where
            go : (v : Option ℕ) → group_of s.members k ≡ v → 0 < option_map_or (λ g. times g groups) v 0 → session_of s.members k ≡ Some o
            go None is some = absurd (omega (arith, some))
            go (Some g) is some =
                let p = each-in (λ h. (j : ℕ) × (membership_at s.members j ≡ Some (record { group = h; session = o }))) groups a.owned g (times-IsIn g groups some) in
                l.together p.0 (record { group = g; session = o }) p.1 k is

-- a session has room
pub roomy : (members : List (Option Membership)) → ((k : ℕ) (m : Membership) → membership_at members k ≡ Some m → m.session < length members) → (k o : ℕ)
    → session_of members k ≡ Some o → o < length members
roomy members room k o mine = go (membership_at members k) refl mine
  where
    go : (v : Option Membership) → membership_at members k ≡ v → option_map (λ (m : Membership). m.session) v ≡ Some o → o < length members
    go None is e = absurd (cc)
    go (Some m) is e = let same : m.session ≡ o = cc in subst (λ h. h < length members) same (room k m is)
