-- Uses of identifiers: one more and one less.
use Rattle.std.proofs.Common.{◌≡◌, ◌≢◌, ◌⊎◌, inl, inr, ℕ, ◌+◌, ◌<◌, ◌≤◌, ◌==◌, ◌&&◌, Bool, true, false, rules, Option, Some, None, option_map, IsSome, IfSome, if◌then◌else◌, refl, sym, ap, ◌∙◌, arith}
use Rattle.std.specs.Option.{option_map_or}
use Rattle.std.proofs.lemmas.Bool.{cases_eq, eq-eqb, eqb-true}
use Rattle.pid_types.specs.declared.call.Kind.{Kind}
use Rattle.pid_types.specs.declared.call.Kind.TheVariants.{Task, Group, Session}
use Rattle.pid_numbers.specs.Numbering.{Numbering, Identifier, identifier_at, uses, more, less, left_of, is_used}
use Rattle.task_table.specs.Store.{uses_at, one_if, is_kind, bare, bare_at}

uses-less : (kind k : Kind) (u : Identifier) → 0 < uses kind u → uses k (less kind u) + one_if (is_kind k kind) ≡ uses k u
uses-less Task Task u some = omega (arith, some)
uses-less Task Group u some = omega arith
uses-less Task Session u some = omega arith
uses-less Group Task u some = omega arith
uses-less Group Group u some = omega (arith, some)
uses-less Group Session u some = omega arith
uses-less Session Task u some = omega arith
uses-less Session Group u some = omega arith
uses-less Session Session u some = omega (arith, some)

uses-more : (kind k : Kind) (u : Identifier) → uses k (more kind u) ≡ uses k u + one_if (is_kind k kind)
uses-more Task Task u = refl
uses-more Task Group u = omega arith
uses-more Task Session u = omega arith
uses-more Group Task u = omega arith
uses-more Group Group u = refl
uses-more Group Session u = omega arith
uses-more Session Task u = omega arith
uses-more Session Group u = omega arith
uses-more Session Session u = refl

-- an identifier without uses is gone, and then it has none either
uses-left : (k : Kind) (u : Identifier) → option_map_or (uses k) (left_of u) 0 ≡ uses k u
uses-left k u = go (u.tasks == 0) refl (u.groups == 0) refl (u.sessions == 0) refl
  where
    none : (k : Kind) → u.tasks ≡ 0 → u.groups ≡ 0 → u.sessions ≡ 0 → 0 ≡ uses k u
    none Task a b c = sym a
    none Group a b c = sym b
    none Session a b c = sym c

    go : (a : Bool) → (u.tasks == 0) ≡ a → (b : Bool) → (u.groups == 0) ≡ b → (c : Bool) → (u.sessions == 0) ≡ c → option_map_or (uses k) (if is_used u then Some u else None) 0 ≡ uses k u
    go true ea true eb true ec = rw (ea, eb, ec) (none k (eqb-true u.tasks 0 ea) (eqb-true u.groups 0 eb) (eqb-true u.sessions 0 ec))
    go false ea b eb c ec = rw ea refl
    go true ea false eb c ec = rw (ea, eb) refl
    go true ea true eb false ec = rw (ea, eb, ec) refl

bare-less : (kind : Kind) (u : Identifier) → bare (less kind u) ≡ bare u
bare-less Task u = refl
bare-less Group u = refl
bare-less Session u = refl

bare-more : (kind : Kind) (u : Identifier) → bare (more kind u) ≡ bare u
bare-more Task u = refl
bare-more Group u = refl
bare-more Session u = refl

module _ (old new : Numbering) (ident : ℕ) (kind : Kind) (others : (j : ℕ) → j ≢ ident → identifier_at new j ≡ identifier_at old j) where
  -- one use of the kind less
  pub uses-taken : 0 < uses_at old kind ident → ((u : Identifier) → identifier_at old ident ≡ Some u → identifier_at new ident ≡ left_of (less kind u))
      → (k : Kind) (i : ℕ) → uses_at new k i + one_if ((i == ident) && is_kind k kind) ≡ uses_at old k i
  uses-taken some here k i = go (cases_eq i ident)
    where
      at_ident : (o : Option Identifier) → identifier_at old ident ≡ o → uses_at new k ident + one_if (is_kind k kind) ≡ uses_at old k ident
      at_ident None e = absurd (let z : uses_at old kind ident ≡ 0 = ap (λ o. option_map_or (uses kind) o 0) e in omega (arith, z, some))
      at_ident (Some u) e =
          let has : 0 < uses kind u = (let z : uses_at old kind ident ≡ uses kind u = ap (λ o. option_map_or (uses kind) o 0) e in omega (arith, z, some)) in
          let a : uses_at new k ident ≡ uses k (less kind u) = ap (λ o. option_map_or (uses k) o 0) (here u e) ∙ uses-left k (less kind u) in
          let b : uses_at old k ident ≡ uses k u = ap (λ o. option_map_or (uses k) o 0) e in
          let d = uses-less kind k u has in
          omega (arith, a, b, d)

      go : (i ≡ ident) ⊎ (i ≢ ident) → uses_at new k i + one_if ((i == ident) && is_kind k kind) ≡ uses_at old k i
      go (inl same) =
          let on : (i == ident) ≡ true = eq-eqb i ident same in
          let h = at_ident (identifier_at old ident) refl in
          let a = ap (λ j. uses_at new k j) same in
          let b = ap (λ j. uses_at old k j) same in
          let d = ap (λ b. one_if (b && is_kind k kind)) on in
          omega (arith, h, a, b, d)
      go (inr differs) =
          let off : (i == ident) ≡ false = grind (arith, differs) in
          let a = ap (λ o. option_map_or (uses k) o 0) (others i differs) in
          let d = ap (λ b. one_if (b && is_kind k kind)) off in
          omega (arith, a, d)

  -- one use of the kind more
  pub uses-added : IsSome (identifier_at old ident) → ((u : Identifier) → identifier_at old ident ≡ Some u → identifier_at new ident ≡ Some (more kind u))
      → (k : Kind) (i : ℕ) → uses_at new k i ≡ uses_at old k i + one_if ((i == ident) && is_kind k kind)
  uses-added there here k i = go (cases_eq i ident)
    where
      at_ident : (o : Option Identifier) → identifier_at old ident ≡ o → IsSome o → uses_at new k ident ≡ uses_at old k ident + one_if (is_kind k kind)
      at_ident None e some = absurd (cc)
      at_ident (Some u) e some =
          let a : uses_at new k ident ≡ uses k (more kind u) = ap (λ o. option_map_or (uses k) o 0) (here u e) in
          let b : uses_at old k ident ≡ uses k u = ap (λ o. option_map_or (uses k) o 0) e in
          let d = uses-more kind k u in
          omega (arith, a, b, d)

      go : (i ≡ ident) ⊎ (i ≢ ident) → uses_at new k i ≡ uses_at old k i + one_if ((i == ident) && is_kind k kind)
      go (inl same) =
          let on : (i == ident) ≡ true = eq-eqb i ident same in
          let h = at_ident (identifier_at old ident) refl there in
          let a = ap (λ j. uses_at new k j) same in
          let b = ap (λ j. uses_at old k j) same in
          let d = ap (λ b. one_if (b && is_kind k kind)) on in
          omega (arith, h, a, b, d)
      go (inr differs) =
          let off : (i == ident) ≡ false = grind (arith, differs) in
          let a = ap (λ o. option_map_or (uses k) o 0) (others i differs) in
          let d = ap (λ b. one_if (b && is_kind k kind)) off in
          omega (arith, a, d)

  -- a use more leaves each identifier what it was
  pub bare-added : IsSome (identifier_at old ident) → ((u : Identifier) → identifier_at old ident ≡ Some u → identifier_at new ident ≡ Some (more kind u))
      → (i : ℕ) → bare_at new i ≡ bare_at old i
  bare-added there here i = go (cases_eq i ident)
    where
      at_ident : (o : Option Identifier) → identifier_at old ident ≡ o → IsSome o → bare_at new ident ≡ bare_at old ident
      at_ident None e some = absurd (cc)
      at_ident (Some u) e some = ap (option_map bare) (here u e) ∙ ap Some (bare-more kind u) ∙ sym (ap (option_map bare) e)

      go : (i ≡ ident) ⊎ (i ≢ ident) → bare_at new i ≡ bare_at old i
      go (inl same) = ap (bare_at new) same ∙ at_ident (identifier_at old ident) refl there ∙ sym (ap (bare_at old) same)
      go (inr differs) = ap (option_map bare) (others i differs)

-- what bounds the uses leaves room for one more
pub few-uses : (b : Numbering) (kind : Kind) (i : ℕ) → uses_at b kind i ≤ 1073741824 → IfSome (identifier_at b i) (λ u. uses kind u + 1 < 4294967296)
few-uses b kind i few = go (identifier_at b i) few
  where
    go : (o : Option Identifier) → option_map_or (uses kind) o 0 ≤ 1073741824 → IfSome o (λ u. uses kind u + 1 < 4294967296)
    go None e = search rules
    go (Some u) e = omega (arith, e)

pub no_more : (b : Bool) (n m : ℕ) → n ≡ m + one_if (b && false) → m ≤ 1073741824 → n ≤ 1073741824
no_more true n m e few = omega (arith, e, few)
no_more false n m e few = omega (arith, e, few)

-- who is what it was is there
pub still_there : (b c : Numbering) → ((i : ℕ) → bare_at c i ≡ bare_at b i) → (i : ℕ) → IsSome (identifier_at b i) → IsSome (identifier_at c i)
still_there b c same i some = go (identifier_at b i) (identifier_at c i) (same i) some
  where
    go : (o p : Option Identifier) → option_map bare p ≡ option_map bare o → IsSome o → IsSome p
    go (Some u) (Some v) e some = refl
    go (Some u) None e some = absurd (cc)
    go None p e some = absurd (cc)
