-- The group with a number in a session, told by keys.
use Rattle.std.proofs.Common.{◌≡◌, ◌≢◌, ℕ, zero, suc, ◌==◌, ◌&&◌, Bool, true, false, if◌then◌else◌, List, [], ◌∷◌, Option, Some, None, option_map, find, filter_map, refl, sym, ap, subst, ◌∙◌}
use Rattle.std.specs.Option.{option_eq}
use Rattle.std.proofs.lemmas.Bool.{eq-eqb, eqb-true}
use Rattle.pid_types.proofs.General.{both, some_number}
use Rattle.pid_numbers.specs.Numbering.{Numbering, number_of}
use Rattle.groups_sessions.specs.Membership.{Membership, membership_at, HasMembers, AreInSession, IsSessionOf}
use Rattle.groups_sessions.specs.Setpgid.{has_number, session_group_key}

module _ (p : Membership → Bool) where
  -- what is found is at some key
  found : (xs : List (Option Membership)) (m : Membership) → find p (filter_map (λ o. o) xs) ≡ Some m → (p m ≡ true) × ((k : ℕ) × (membership_at xs k ≡ Some m))
  found [] m is = absurd (cc)
  found (None ∷ xs) m is = let rest = found xs m is in (rest.0, (suc (rest.1).0, (rest.1).1))
  found (Some x ∷ xs) m is = go (λ e. found xs m e) (p x) refl is
    where
      go : (find p (filter_map (λ o. o) xs) ≡ Some m → (p m ≡ true) × ((k : ℕ) × (membership_at xs k ≡ Some m))) → (b : Bool) → p x ≡ b
          → (if b then Some x else find p (filter_map (λ o. o) xs)) ≡ Some m → (p m ≡ true) × ((k : ℕ) × (membership_at (Some x ∷ xs) k ≡ Some m))
      go later true e is = let same : x ≡ m = cc in (sym (ap p same) ∙ e, (0, is))
      go later false e is = let rest = later is in (rest.0, (suc (rest.1).0, (rest.1).1))

  -- where nothing is found, no key passes
  missing : (xs : List (Option Membership)) → find p (filter_map (λ o. o) xs) ≡ None → (k : ℕ) (m : Membership) → membership_at xs k ≡ Some m → p m ≡ false
  missing [] none k m is = absurd (cc)
  missing (None ∷ xs) none zero m is = absurd (cc)
  missing (None ∷ xs) none (suc k) m is = missing xs none k m is
  missing (Some x ∷ xs) none k m is = go (λ e i at. missing xs e i m at) (p x) refl none k is
    where
      go : (find p (filter_map (λ o. o) xs) ≡ None → (i : ℕ) → membership_at xs i ≡ Some m → p m ≡ false) → (b : Bool) → p x ≡ b
          → (if b then Some x else find p (filter_map (λ o. o) xs)) ≡ None → (i : ℕ) → membership_at (Some x ∷ xs) i ≡ Some m → p m ≡ false
      go later true e none i is = absurd (cc)
      go later false e none zero is = let same : x ≡ m = cc in sym (ap p same) ∙ e
      go later false e none (suc i) is = later none i is

module _ (members : List (Option Membership)) (numbers : Numbering) (session space n : ℕ) where
  -- the group has the number, and some task of the session is in it
  pub session_group-some : (i : ℕ) → session_group_key members numbers session space n ≡ Some i
      → (number_of numbers i space ≡ Some n) × ((k : ℕ) × (membership_at members k ≡ Some (record { group = i; session = session })))
  unfolding session_group_key
  session_group-some i is = go (find passes (filter_map (λ o. o) members)) refl is
    where
      passes : Membership → Bool
      passes m = (m.session == session) && has_number numbers m.group space n

      go : (o : Option Membership) → find passes (filter_map (λ o. o) members) ≡ o → option_map (λ (m : Membership). m.group) o ≡ Some i
          → (number_of numbers i space ≡ Some n) × ((k : ℕ) × (membership_at members k ≡ Some (record { group = i; session = session })))
      go None e is = absurd (cc)
      go (Some m) e is =
          let at = found passes members m e in
          let test = both (m.session == session) (has_number numbers m.group space n) at.0 in
          let group : m.group ≡ i = cc in
          let mine : m.session ≡ session = eqb-true m.session session test.0 in
          let as_told : m ≡ record { group = i; session = session } = ap (λ (g : ℕ). record { group = g; session = m.session }) group ∙ ap (λ (t : ℕ). record { group = i; session = t }) mine in
          (sym (ap (λ (g : ℕ). number_of numbers g space) group) ∙ some_number (number_of numbers m.group space) n test.1, ((at.1).0, (at.1).1 ∙ ap Some as_told))

  -- no task of the session is in a group with the number
  pub session_group-none : session_group_key members numbers session space n ≡ None → (k : ℕ) (m : Membership) → membership_at members k ≡ Some m → m.session ≡ session
      → number_of numbers m.group space ≢ Some n
  unfolding session_group_key
  session_group-none none k m at mine has = go (find passes (filter_map (λ o. o) members)) refl none
    where
      passes : Membership → Bool
      passes x = (x.session == session) && has_number numbers x.group space n

      go : (o : Option Membership) → find passes (filter_map (λ o. o) members) ≡ o → option_map (λ (x : Membership). x.group) o ≡ None → ⊥
      go (Some x) e none = absurd (cc)
      go None e none =
          let off = missing passes members e k m at in
          let one = eq-eqb m.session session mine in
          let two : has_number numbers m.group space n ≡ true = ap (λ o. option_eq ◌==◌ o (Some n)) has ∙ eq-eqb n n refl in
          let on : passes m ≡ true = rw (one, two) refl in
          absurd (cc)

  -- where nobody has the number there is no such group
  pub session_group-unknown : ((i : ℕ) → number_of numbers i space ≢ Some n) → session_group_key members numbers session space n ≡ None
  session_group-unknown free = go (session_group_key members numbers session space n) refl
    where
      go : (o : Option ℕ) → session_group_key members numbers session space n ≡ o → session_group_key members numbers session space n ≡ None
      go None e = e
      go (Some j) e = absurd (free j (session_group-some j e).0)

  module _ (distinct : (i j s m : ℕ) → number_of numbers i s ≡ Some m → number_of numbers j s ≡ Some m → i ≡ j) (i : ℕ) (has : number_of numbers i space ≡ Some n) where
    seen : (k : ℕ) (o : Option Membership) → membership_at members k ≡ o → option_map (λ (m : Membership). m.group) o ≡ Some i → option_map (λ (m : Membership). m.session) o ≡ Some session
        → session_group_key members numbers session space n ≢ None
    seen k None at group mine none = absurd (cc)
    seen k (Some m) at group mine none =
        let same : m.group ≡ i = cc in
        let session_same : m.session ≡ session = cc in
        session_group-none none k m at session_same (ap (λ (g : ℕ). number_of numbers g space) same ∙ has)

    here : HasMembers members i → AreInSession members i session → (o : Option ℕ) → session_group_key members numbers session space n ≡ o → session_group_key members numbers session space n ≡ Some i
    here some together None e = absurd (seen some.0 (membership_at members some.0) refl some.1 (together some.0 some.1) e)
    here some together (Some j) e = e ∙ ap Some (distinct j i space n (session_group-some j e).0 has)

    away : (o : Option ℕ) → option_eq ◌==◌ o (Some session) ≡ false → IsSessionOf members i o → (k : ℕ) → membership_at members k ≡ Some (record { group = i; session = session }) → ⊥
    away None differs nobody k at = nobody k (ap (option_map (λ (m : Membership). m.group)) at)
    away (Some s) differs all k at =
        let is : Some s ≡ Some session = sym (all.1 k (ap (option_map (λ (m : Membership). m.group)) at)) ∙ ap (option_map (λ (m : Membership). m.session)) at in
        let same : s ≡ session = cc in
        let on = eq-eqb s session same in
        absurd (cc)

    none_here : (o : Option ℕ) → option_eq ◌==◌ o (Some session) ≡ false → IsSessionOf members i o → (t : Option ℕ) → session_group_key members numbers session space n ≡ t
        → session_group_key members numbers session space n ≡ None
    none_here o differs told None e = e
    none_here o differs told (Some j) e =
        let at = session_group-some j e in
        let same = distinct j i space n at.0 has in
        absurd (away o differs told (at.1).0 ((at.1).1 ∙ ap (λ (g : ℕ). Some (record { group = g; session = session })) same))

    -- who has the number is the group, if those in it are of the session
    pub session_group-same : (o : Option ℕ) → IsSessionOf members i o → option_eq ◌==◌ o (Some session) ≡ true → session_group_key members numbers session space n ≡ Some i
    session_group-same o told same =
        let P : Option ℕ → Type 0 = λ t. IsSessionOf members i t in
        let all = subst P (some_number o session same) told in
        here all.0 all.1 (session_group_key members numbers session space n) refl

    -- and else there is none
    pub session_group-other : (o : Option ℕ) → IsSessionOf members i o → option_eq ◌==◌ o (Some session) ≡ false → session_group_key members numbers session space n ≡ None
    session_group-other o told differs = none_here o differs told (session_group_key members numbers session space n) refl
