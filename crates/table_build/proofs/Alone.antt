-- A store in the making, whose task goes to a session and stays in its own group.
use Rattle.std.proofs.Common.{◌≡◌, ℕ, ◌<◌, inl, inr, List, Option, Some, None, length, set, ap, sym, ◌∙◌, option_map}
use Rattle.std.proofs.lemmas.Bool.{cases_eq}
use Rattle.std.proofs.lemmas.List.{get_or-set_same, get_or-set_other}
use Rattle.std.specs.Option.{option_map_or}
use Rattle.groups_sessions.specs.Membership.{Membership, membership_at, group_of}

-- a task in its own group, where all others are in theirs
pub still_alone : (members : List (Option Membership)) (key session : ℕ) → key < length members → ((k g : ℕ) → group_of members k ≡ Some g → g ≡ k)
    → (k g : ℕ) → group_of (set members key (Some (record { group = key; session = session }))) k ≡ Some g → g ≡ k
still_alone members key session low alone k g at = elim (cases_eq k key) [
  | inl same ↦
      let z : Some key ≡ Some g =
      sym (ap (option_map (λ (m : Membership). m.group)) (ap (membership_at (set members key (Some (record { group = key; session = session })))) same ∙ get_or-set_same members key (Some (record { group = key; session = session })) None low)) ∙ at in
      sym (ap (λ o. option_map_or (λ x. x) o g) z) ∙ sym same
  | inr another ↦ alone k g (sym (ap (option_map (λ (m : Membership). m.group)) (get_or-set_other members key k (Some (record { group = key; session = session })) None another)) ∙ at)
]
