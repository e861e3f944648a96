-- What a caller means by a number, by key.
use Rattle.std.proofs.Common.{◌≡◌, ◌≢◌, ◌⊎◌, inl, inr, ℕ, ◌<◌, ◌≤◌, ◌==◌, Bool, true, false, Option, Some, None, MatchOption, IsSome, is_some, if◌then◌else◌, option_map, refl, sym, ap, ◌∙◌, arith}
use Rattle.std.specs.Option.{option_map_or, option_eq}
use Rattle.std.proofs.lemmas.Bool.{cases_eq, eq-eqb, ne_eqb}
use Rattle.pid_types.proofs.General.{held, number_tested, some_number}
use Rattle.pid_types.specs.declared.call.Kind.{Kind}
use Rattle.pid_types.specs.declared.call.Kind.TheVariants.{Task as AsTask, Group, Session}
use Rattle.pid_types.specs.declared.plain.Row.{Row}
use Rattle.pid_types.specs.Names.{is_numbered, same_name}
use Rattle.pid_types.specs.Queries.{name_by}
use Rattle.pid_types.specs.State.{root_name}
use Rattle.pid_numbers.specs.Numbering.{Identifier, id_at, identifier_at, number_of}
use Rattle.task_tree.specs.declared.Task.{Task}
use Rattle.task_tree.specs.Tree.{task_at}
use Rattle.groups_sessions.specs.Membership.{Membership, membership_at, group_of, session_of}
use Rattle.task_table.specs.Store.{Store}
use Rattle.task_table.specs.View.{name_at, row_of, state_of}
use Rattle.task_table.specs.Lawful.{IsLawful}
use Rattle.task_table.proofs.Keys.{number-is_key}
use Rattle.task_table.proofs.LookUps.{named, group-named, session-named, same-name}
use Rattle.translate.specs.Pages.{is_meant}
use Rattle.translate.specs.Gathered.{IsMeantAlone}

module _ (s : Store) (l : IsLawful s) where
  -- what has the number
  pub numbered_alone : (sp : ℕ) (caller : Row) → id_at s.numbering sp ≡ Some caller.name.space → (kind : Kind) (n : ℕ) → 0 < n → (o : Option ℕ)
      → MatchOption o ((i : ℕ) → number_of s.numbering i sp ≢ Some n) (λ i. number_of s.numbering i sp ≡ Some n) → IsMeantAlone s caller kind n o
  numbered_alone sp caller at kind n above o found p there =
      ap (λ b. if b then same_name (name_at s.numbering p) (name_by kind caller) else is_numbered (state_of s).spaces (name_at s.numbering p) caller.name.space n) (ne_eqb n 0 (λ e. omega (arith, above, e)))
      ∙ ap (λ x. option_eq ◌==◌ x (Some n)) (number-is_key s.numbering l.numbering sp caller.name.space p u.0 at u.1)
      ∙ go o found
    where
      u : (u : Identifier) × (identifier_at s.numbering p ≡ Some u)
      u = held (identifier_at s.numbering p) there

      no : (x : Option ℕ) → x ≢ Some n → option_eq ◌==◌ x (Some n) ≡ false
      no x differs = test (option_eq ◌==◌ x (Some n)) refl
        where
          test : (b : Bool) → option_eq ◌==◌ x (Some n) ≡ b → option_eq ◌==◌ x (Some n) ≡ false
          test true is = absurd (differs (some_number x n is))
          test false is = is

      go : (x : Option ℕ) → MatchOption x ((i : ℕ) → number_of s.numbering i sp ≢ Some n) (λ i. number_of s.numbering i sp ≡ Some n)
          → option_eq ◌==◌ (number_of s.numbering p sp) (Some n) ≡ option_eq ◌==◌ x (Some p)
      go None none = no (number_of s.numbering p sp) (none p)
      go (Some q) has = elim (cases_eq q p) [
        | inl same ↦ number_tested (number_of s.numbering p sp) n (ap (λ i. number_of s.numbering i sp) (sym same) ∙ has) ∙ sym (eq-eqb q p same)
        | inr differs ↦ no (number_of s.numbering p sp) (λ mine. differs (l.numbering.distinct q p sp n has mine)) ∙ sym (ne_eqb q p differs)
      ]

  module _ (k : ℕ) (t : Task) (e : task_at s.tree k ≡ Some t) (n : ℕ) (none : n ≤ 0) where
    by_name : (kind : Kind) (o p : ℕ) → IsSome (identifier_at s.numbering o) → IsSome (identifier_at s.numbering p) → name_by kind (row_of s k t) ≡ name_at s.numbering o
        → is_meant (state_of s) (row_of s k t) kind n (name_at s.numbering p) ≡ (o == p)
    by_name kind o p at_o at_p is =
        ap (λ b. if b then same_name (name_at s.numbering p) (name_by kind (row_of s k t)) else is_numbered (state_of s).spaces (name_at s.numbering p) (row_of s k t).name.space n)
        (eq-eqb n 0 (omega (arith, none)))
        ∙ ap (same_name (name_at s.numbering p)) is ∙ same-name s l p o at_p at_o ∙ turned (cases_eq p o)
      where
        turned : (p ≡ o) ⊎ (p ≢ o) → (p == o) ≡ (o == p)
        turned (inl same) = eq-eqb p o same ∙ sym (eq-eqb o p (sym same))
        turned (inr differs) = ne_eqb p o differs ∙ sym (ne_eqb o p (λ h. differs (sym h)))

    -- the caller itself
    pub own_alone : IsMeantAlone s (row_of s k t) AsTask n (Some k)
    own_alone p there = by_name AsTask k p (ap is_some (named s l k t e).1) there refl

    -- its own group
    pub group_alone : (g : ℕ) → group_of s.members k ≡ Some g → IsMeantAlone s (row_of s k t) Group n (Some g)
    group_alone g mine p there = by_name Group g p (go (membership_at s.members k) refl mine) there (ap (λ o. option_map_or (name_at s.numbering) o root_name) mine)
      where
        go : (o : Option Membership) → membership_at s.members k ≡ o → option_map (λ (m : Membership). m.group) o ≡ Some g → IsSome (identifier_at s.numbering g)
        go None is h = absurd (cc)
        go (Some m) is h = let same : m.group ≡ g = cc in ap (λ i. is_some (identifier_at s.numbering i)) (sym same) ∙ ap is_some (group-named s l k m is).1

    -- its own session
    pub session_alone : (g : ℕ) → session_of s.members k ≡ Some g → IsMeantAlone s (row_of s k t) Session n (Some g)
    session_alone g mine p there = by_name Session g p (go (membership_at s.members k) refl mine) there (ap (λ o. option_map_or (name_at s.numbering) o root_name) mine)
      where
        go : (o : Option Membership) → membership_at s.members k ≡ o → option_map (λ (m : Membership). m.session) o ≡ Some g → IsSome (identifier_at s.numbering g)
        go None is h = absurd (cc)
        go (Some m) is h = let same : m.session ≡ g = cc in ap (λ i. is_some (identifier_at s.numbering i)) (sym same) ∙ ap is_some (session-named s l k m is).1
