-- A walk over all ended children ends with the choice among those of them in the group; one over the group's members with the choice
-- among all its children.
use Rattle.std.proofs.Common.{◌≡◌, ◌≢◌, ℕ, ◌+◌, ◌<◌, ◌≤◌, ◌==◌, Bool, true, false, List, [], ◌∷◌, Option, Some, None, option_map, cond, refl, sym, ap, ◌∙◌, arith}
use Rattle.std.specs.Option.{option_eq}
use Rattle.std.specs.Prelude.{nat_lt, if◌then◌else◌}
use Rattle.std.proofs.lemmas.Bool.{eq-eqb, eqb-true}
use Rattle.std.proofs.lemmas.List.Sums.{sum_by-cons}
use Rattle.member_lists.specs.Owners.{times}
use Rattle.std.specs.List.{AllByRecursion}
use Rattle.pid_types.proofs.General.{both, some_number}
use Rattle.task_table.specs.Store.{Store}
use Rattle.member_queues.specs.Ranks.{holder}
use Rattle.task_tree.specs.Tree.{task_at, parent_of, rank_of, is_zombie, waits_for}
use Rattle.groups_sessions.specs.Membership.{group_of}
use Rattle.wait_calls.specs.declared.selection.Selected.TheVariants.{Group}
use Rattle.wait_calls.specs.declared.selection.Choice.{Choice}
use Rattle.wait_calls.specs.declared.selection.Choice.TheVariants.{NoChild, NoneEnded, Ended}
use Rattle.wait_calls.specs.Choice.{IsMatch, IsChoice, IsEndedChoice}
use Rattle.wait_calls.specs.Walk.{is_group_match, rank_alone, choice_with, looked_at, walked}

-- what is 1 is not 0
pub differ : (n : ℕ) → n ≡ 1 → n ≡ 0 → ⊥
differ n one none = omega (arith, one, none)

module _ (s : Store) (caller group : ℕ) where
  -- the test is true of who matches, and of nobody else
  of_match : (k : ℕ) → IsMatch s caller (Group group) k → is_group_match s caller group k ≡ true
  of_match k (child, member) =
      let one : option_eq ◌==◌ (parent_of s.tree k) (Some caller) ≡ true = ap (λ o. option_eq ◌==◌ o (Some caller)) child ∙ eq-eqb caller caller refl in
      let two : option_eq ◌==◌ (group_of s.members k) (Some group) ≡ true = ap (λ o. option_eq ◌==◌ o (Some group)) member ∙ eq-eqb group group refl in
      rw (one, two) refl

  is_match : (k : ℕ) → is_group_match s caller group k ≡ true → IsMatch s caller (Group group) k
  is_match k e =
      let tests = both (option_eq ◌==◌ (parent_of s.tree k) (Some caller)) (option_eq ◌==◌ (group_of s.members k) (Some group)) e in
      (some_number (parent_of s.tree k) caller tests.0, some_number (group_of s.members k) group tests.1)

  -- what the choice names matches
  abbrev Names : Choice → Type 0
  Names NoChild = Unit {0}
  Names NoneEnded = (k : ℕ) × (is_group_match s caller group k ≡ true)
  Names (Ended child rank) = (is_group_match s caller group child ≡ true) × (rank_alone s child ≡ Some rank)

  -- the choice took the task into account
  abbrev Covers : ℕ → Choice → Type 0
  Covers k NoChild = ⊥
  Covers k NoneEnded = rank_alone s k ≡ None
  Covers k (Ended child rank) = (q : ℕ) → rank_alone s k ≡ Some q → rank ≤ q

  names_counted : (choice : Choice) (k : ℕ) (o : Option ℕ) → rank_alone s k ≡ o → is_group_match s caller group k ≡ true → Names choice → Names (choice_with choice k o)
  names_counted NoChild k None e m h = (k, m)
  names_counted NoChild k (Some r) e m h = (m, e)
  names_counted NoneEnded k None e m h = h
  names_counted NoneEnded k (Some r) e m h = (m, e)
  names_counted (Ended j q) k None e m h = h
  names_counted (Ended j q) k (Some r) e m h = go (nat_lt r q)
    where
      go : (b : Bool) → Names (if b then Ended k r else Ended j q)
      go true = (m, e)
      go false = h

  names_looked : (choice : Choice) (k : ℕ) → Names choice → Names (looked_at s caller group choice k)
  names_looked choice k h = go (is_group_match s caller group k) refl
    where
      go : (b : Bool) → is_group_match s caller group k ≡ b → Names (if b then choice_with choice k (rank_alone s k) else choice)
      go true e = names_counted choice k (rank_alone s k) refl e h
      go false e = h

  names_walked : (keys : List ℕ) (choice : Choice) → Names choice → Names (walked s caller group choice keys)
  names_walked [] choice h = h
  names_walked (k ∷ keys) choice h = names_walked keys (looked_at s caller group choice k) (names_looked choice k h)

  covers_new : (choice : Choice) (k : ℕ) (o : Option ℕ) → rank_alone s k ≡ o → Covers k (choice_with choice k o)
  covers_new NoChild k None e = e
  covers_new NoChild k (Some r) e = λ q f. let same : Some r ≡ Some q = sym e ∙ f in let at : r ≡ q = cc in omega (arith, at)
  covers_new NoneEnded k None e = e
  covers_new NoneEnded k (Some r) e = λ q f. let same : Some r ≡ Some q = sym e ∙ f in let at : r ≡ q = cc in omega (arith, at)
  covers_new (Ended j p) k None e = λ q f. absurd (let same : None ≡ Some q = sym e ∙ f in cc)
  covers_new (Ended j p) k (Some r) e = go (nat_lt r p) refl
    where
      go : (b : Bool) → nat_lt r p ≡ b → Covers k (if b then Ended k r else Ended j p)
      go true t = λ q f. let same : Some r ≡ Some q = sym e ∙ f in let at : r ≡ q = cc in omega (arith, at)
      go false t = λ q f. let same : Some r ≡ Some q = sym e ∙ f in let at : r ≡ q = cc in let below : p ≤ r = grind (arith, t) in omega (arith, at, below)

  covers_counted : (choice : Choice) (i k : ℕ) (o : Option ℕ) → Covers i choice → Covers i (choice_with choice k o)
  covers_counted NoChild i k o h = absurd h
  covers_counted NoneEnded i k None h = h
  covers_counted NoneEnded i k (Some r) h = λ q f. absurd (let same : None ≡ Some q = sym h ∙ f in cc)
  covers_counted (Ended j p) i k None h = h
  covers_counted (Ended j p) i k (Some r) h = go (nat_lt r p) refl
    where
      go : (b : Bool) → nat_lt r p ≡ b → Covers i (if b then Ended k r else Ended j p)
      go true t = λ q f. let at = h q f in let below : r < p = grind (arith, t) in omega (arith, at, below)
      go false t = h

  covers_looked : (choice : Choice) (i k : ℕ) → Covers i choice → Covers i (looked_at s caller group choice k)
  covers_looked choice i k h = go (is_group_match s caller group k)
    where
      go : (b : Bool) → Covers i (if b then choice_with choice k (rank_alone s k) else choice)
      go true = covers_counted choice i k (rank_alone s k) h
      go false = h

  covers_kept : (keys : List ℕ) (choice : Choice) (i : ℕ) → Covers i choice → Covers i (walked s caller group choice keys)
  covers_kept [] choice i h = h
  covers_kept (k ∷ keys) choice i h = covers_kept keys (looked_at s caller group choice k) i (covers_looked choice i k h)

  covers_here : (choice : Choice) (k : ℕ) → is_group_match s caller group k ≡ true → Covers k (looked_at s caller group choice k)
  covers_here choice k e = rw e (covers_new choice k (rank_alone s k) refl)

  covers_walked : (keys : List ℕ) (choice : Choice) (i : ℕ) → is_group_match s caller group i ≡ true → 0 < times i keys → Covers i (walked s caller group choice keys)
  covers_walked [] choice i m some = absurd (omega (arith, some))
  covers_walked (k ∷ keys) choice i m some = go (covers_walked keys (looked_at s caller group choice k) i m) (k == i) refl (rw (sum_by-cons (λ j. cond (j == i) 1 0) k keys) at some)
    where
      go : (0 < times i keys → Covers i (walked s caller group (looked_at s caller group choice k) keys)) → (b : Bool) → (k == i) ≡ b
          → 0 < cond b 1 0 + times i keys → Covers i (walked s caller group (looked_at s caller group choice k) keys)
      go later true e some = covers_kept keys (looked_at s caller group choice k) i (rw (eqb-true k i e) (covers_here choice i m))
      go later false e some = later (omega (arith, some))

  -- a list of tasks with ranks leads to no choice that says that none has ended
  never_counted : (choice : Choice) (k r : ℕ) → choice ≢ NoneEnded → choice_with choice k (Some r) ≢ NoneEnded
  never_counted NoChild k r off = λ e. (cc)
  never_counted NoneEnded k r off = absurd (off refl)
  never_counted (Ended j q) k r off = go (nat_lt r q)
    where
      go : (b : Bool) → (if b then Ended k r else Ended j q) ≢ NoneEnded
      go true = λ e. (cc)
      go false = λ e. (cc)

  never_looked : (choice : Choice) (k : ℕ) → holder s.tree.ended k ≡ Some caller → choice ≢ NoneEnded → looked_at s caller group choice k ≢ NoneEnded
  never_looked choice k waits off = go (is_group_match s caller group k) (rank_of s.tree k) refl waits
    where
      go : (b : Bool) (o : Option (ℕ × ℕ)) → rank_of s.tree k ≡ o → option_map (λ (m : ℕ × ℕ). m.0) o ≡ Some caller
          → (if b then choice_with choice k (rank_alone s k) else choice) ≢ NoneEnded
      go false o at w = off
      go true None at w = absurd (cc)
      go true (Some m) at w = λ e. never_counted choice k m.1 off (sym (ap (choice_with choice k) (ap (option_map (λ (m : ℕ × ℕ). m.1)) at)) ∙ e)

  never : (keys : List ℕ) (choice : Choice) → AllByRecursion (λ k. holder s.tree.ended k ≡ Some caller) keys → choice ≢ NoneEnded → walked s caller group choice keys ≢ NoneEnded
  never [] choice all off = off
  never (k ∷ keys) choice all off = never keys (looked_at s caller group choice k) all.1 (never_looked choice k all.0 off)

  module _ (waiting : (k : ℕ) → option_map (λ (m : ℕ × ℕ). m.0) (rank_of s.tree k) ≡ waits_for (task_at s.tree k) (parent_of s.tree k)) where
    -- a child that has no rank lives
    no_zombie : (k : ℕ) → parent_of s.tree k ≡ Some caller → rank_alone s k ≡ None → is_zombie (task_at s.tree k) ≡ false
    no_zombie k child none = go (is_zombie (task_at s.tree k)) refl (rank_of s.tree k) refl
      where
        go : (b : Bool) → is_zombie (task_at s.tree k) ≡ b → (o : Option (ℕ × ℕ)) → rank_of s.tree k ≡ o → is_zombie (task_at s.tree k) ≡ false
        go false e o at = e
        go true e (Some m) at = absurd (let h = ap (option_map (λ (m : ℕ × ℕ). m.1)) at in cc)
        go true e None at = absurd (let h = waiting k in let l = rw (e, child, at) at h in cc)

    -- a child that has one has ended, and waits for the caller
    zombie : (k r : ℕ) → parent_of s.tree k ≡ Some caller → rank_alone s k ≡ Some r → (is_zombie (task_at s.tree k) ≡ true) × (rank_of s.tree k ≡ Some (caller, r))
    zombie k r child some = go (is_zombie (task_at s.tree k)) refl (rank_of s.tree k) refl
      where
        go : (b : Bool) → is_zombie (task_at s.tree k) ≡ b → (o : Option (ℕ × ℕ)) → rank_of s.tree k ≡ o → (is_zombie (task_at s.tree k) ≡ true) × (rank_of s.tree k ≡ Some (caller, r))
        go b e None at = absurd (let h = sym (ap (option_map (λ (m : ℕ × ℕ). m.1)) at) ∙ some in cc)
        go false e (Some m) at = absurd (let h = waiting k in let l = rw (e, at) at h in cc)
        go true e (Some m) at =
            let h = waiting k in
            let l : Some m.0 ≡ Some caller = rw (e, child, at) at h in
            let owner : m.0 ≡ caller = cc in
            let own : Some m.1 ≡ Some r = sym (ap (option_map (λ (m : ℕ × ℕ). m.1)) at) ∙ some in
            let rank : m.1 ≡ r = cc in
            (e, rw (at, owner, rank) refl)

    -- a list of all ended children leads to the choice among those that have ended
    pub chosen-ended : (keys : List ℕ) → ((k : ℕ) → holder s.tree.ended k ≡ Some caller → times k keys ≡ 1) → AllByRecursion (λ k. holder s.tree.ended k ≡ Some caller) keys
        → IsEndedChoice s caller group (walked s caller group NoChild keys)
    chosen-ended keys once owned = go (walked s caller group NoChild keys) (names_walked keys NoChild tt) covered (never keys NoChild owned (λ e. (cc)))
      where
        covered : (i r : ℕ) → IsMatch s caller (Group group) i → rank_alone s i ≡ Some r → Covers i (walked s caller group NoChild keys)
        covered i r m own =
            let z = zombie i r m.0 own in
            let h = once i (ap (option_map (λ (m : ℕ × ℕ). m.0)) z.1) in
            covers_walked keys NoChild i (of_match i m) (omega (arith, h))

        go : (choice : Choice) → Names choice → ((i r : ℕ) → IsMatch s caller (Group group) i → rank_alone s i ≡ Some r → Covers i choice) → choice ≢ NoneEnded → IsEndedChoice s caller group choice
        go NoChild names covers off = λ k m. lives k m (rank_alone s k) refl
          where
            lives : (k : ℕ) → IsMatch s caller (Group group) k → (o : Option ℕ) → rank_alone s k ≡ o → is_zombie (task_at s.tree k) ≡ false
            lives k m None e = no_zombie k m.0 e
            lives k m (Some r) e = absurd (covers k r m e)
        go NoneEnded names covers off = absurd (off refl)
        go (Ended child rank) (e, own) covers off =
            let m = is_match child e in
            let z = zombie child rank m.0 own in
            (m, z.0, z.1, λ k r match at. covers k r match (ap (option_map (λ (p : ℕ × ℕ). p.1)) at) r (ap (option_map (λ (p : ℕ × ℕ). p.1)) at))

    -- a list in which each child of the group is leads to the choice among all of them
    pub chosen-all : (keys : List ℕ) → ((k : ℕ) → IsMatch s caller (Group group) k → 0 < times k keys) → IsChoice s caller (Group group) (walked s caller group NoChild keys)
    chosen-all keys some = go (walked s caller group NoChild keys) (names_walked keys NoChild tt) (λ i m. covers_walked keys NoChild i (of_match i m) (some i m))
      where
        go : (choice : Choice) → Names choice → ((i : ℕ) → IsMatch s caller (Group group) i → Covers i choice) → IsChoice s caller (Group group) choice
        go NoChild names covers = λ k m. covers k m
        go NoneEnded (k, e) covers = ((k, is_match k e), λ j m. no_zombie j m.0 (covers j m))
        go (Ended child rank) (e, own) covers =
            let m = is_match child e in
            let z = zombie child rank m.0 own in
            (m, z.0, z.1, λ k r match at. covers k match r (ap (option_map (λ (p : ℕ × ℕ). p.1)) at))
