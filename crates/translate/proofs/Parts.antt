-- The parts of a snapshot: names, rows in the order of their numbers, and control groups by their ids.
use Rattle.std.proofs.Common.{◌≡◌, inl, inr, ℕ, zero, suc, ◌+◌, ◌-◌, ◌<◌, ◌≤◌, ◌==◌, not, Bool, true, false, List, [], ◌∷◌, map, Option, Some, None, IsSome, IfSome, is_some, refl, sym, ap, ◌∙◌, arith, option_and_then, unwrap_or}
use Rattle.std.specs.Prelude.{reverse}
use Rattle.std.specs.Option.{option_map_or}
use Rattle.std.proofs.lemmas.Bool.{cases_eq}
use Rattle.std.proofs.lemmas.Bool.Decides.{nat_tests}
use Rattle.pid_types.proofs.General.{held}
use Rattle.pid_types.specs.declared.plain.Name.{Name}
use Rattle.pid_types.specs.declared.plain.Row.{Row}
use Rattle.pid_types.specs.declared.plain.Control.{Control}
use Rattle.pid_types.specs.declared.call.Kind.TheVariants.{Task as AsTask}
use Rattle.pid_types.specs.Membership.{IsIn}
use Rattle.pid_types.specs.Controls.{control_at, count}
use Rattle.pid_types.specs.Shown.{with_count}
use Rattle.pid_types.specs.Sound.{IsRising}
use Rattle.pid_types.specs.State.{State, root_name}
use Rattle.model_laws.proofs.Rising.{find-key}
use Rattle.pid_numbers.specs.Numbering.{Numbering, Identifier, id_at, identifier_at, uses, is_used_as, IsNumberUsedAs}
use Rattle.task_tree.specs.declared.Task.{Task}
use Rattle.task_tree.specs.Tree.{task_at}
use Rattle.task_table.specs.Store.{Store, uses_at, one_if}
use Rattle.task_table.specs.Collect.{collect}
use Rattle.task_table.specs.View.{name_of, name_at, row_numbered}
use Rattle.task_table.specs.Lawful.{IsLawful}
use Rattle.task_table.proofs.LookUps.{row-from}
use Rattle.translate.specs.ById.{control_row_of}

-- the name that the parts tell
pub name-is : (b : Numbering) (k : ℕ) (name : Name) → IsSome (identifier_at b k) → IfSome (identifier_at b k) (λ u. id_at b u.space ≡ Some name.space)
    → IfSome (identifier_at b k) (λ u. name.numbers.items ≡ reverse u.numbers) → name ≡ name_at b k
name-is b k name there space numbers = go (identifier_at b k) there space numbers
  where
    go : (o : Option Identifier) → IsSome o → IfSome o (λ u. id_at b u.space ≡ Some name.space) → IfSome o (λ u. name.numbers.items ≡ reverse u.numbers) → name ≡ option_map_or (name_of b) o root_name
    go None some s ns = absurd (cc)
    go (Some u) some s ns = λ i. record { space = sym (ap (λ o. unwrap_or o 0) s) i; numbers = record { items = ns i } }

module _ {X : Type 0} (f : ℕ → Option X) where
  -- what is not there is passed over
  collect-from_next : (len i n m : ℕ) → i ≤ n → i + len ≡ n + m → ((j : ℕ) → i ≤ j → j < n → f j ≡ None) → collect f i len ≡ collect f n m
  collect-from_next zero i n m le same none = ap (collect f i) (let e : zero ≡ m = omega (arith, le, same) in e) ∙ ap (λ j. collect f j m) (let e : i ≡ n = omega (arith, le, same) in e)
  collect-from_next (suc len) i n m le same none = elim (cases_eq i n) [
    | inl here ↦ ap (collect f i) (let e : suc len ≡ m = omega (arith, here, same) in e) ∙ ap (λ j. collect f j m) here
    | inr differs ↦
        ap (λ o. option_map_or (λ x. x ∷ collect f (i + 1) len) o (collect f (i + 1) len)) (none i (omega arith) (omega (arith, le, differs)))
        ∙ collect-from_next len (i + 1) n m (omega (arith, le, differs)) (omega (arith, same)) (λ j above below. none j (omega (arith, above)) below)
  ]

  -- the next that is there comes first
  pub collect-next : (bound i n : ℕ) (x : X) → i ≤ n → n < bound → ((j : ℕ) → i ≤ j → j < n → f j ≡ None) → f n ≡ Some x → collect f i (bound - i) ≡ x ∷ collect f (n + 1) (bound - (n + 1))
  collect-next bound i n x le lt none here =
      collect-from_next (bound - i) i n (suc (bound - (n + 1))) le (omega (arith, le, lt)) none
      ∙ ap (λ o. option_map_or (λ y. y ∷ collect f (n + 1) (bound - (n + 1))) o (collect f (n + 1) (bound - (n + 1)))) here

  pub collect-none : (i len : ℕ) → ((j : ℕ) → i ≤ j → f j ≡ None) → collect f i len ≡ []
  collect-none i zero none = refl
  collect-none i (suc len) none =
      ap (λ o. option_map_or (λ x. x ∷ collect f (i + 1) len) o (collect f (i + 1) len)) (none i (omega arith))
      ∙ collect-none (i + 1) len (λ j above. none j (omega (arith, above)))

module _ (s : Store) (l : IsLawful s) where
  positive : (n : ℕ) → 0 < n → not (n == 0) ≡ true
  positive n h = grind (arith, nat_tests, h)

  above : (n : ℕ) → not (n == 0) ≡ true → 0 < n
  above zero h = absurd (cc)
  above (suc n) h = omega arith

  -- a task uses its identifier as one
  pub task-used : (k : ℕ) (t : Task) → task_at s.tree k ≡ Some t → is_used_as AsTask (identifier_at s.numbering k) ≡ true
  task-used k t e = go (identifier_at s.numbering k) refl
    where
      one : uses_at s.numbering AsTask k ≡ 1
      one = l.agree.tasks k ∙ ap (λ o. one_if (is_some o)) e

      go : (o : Option Identifier) → identifier_at s.numbering k ≡ o → is_used_as AsTask (identifier_at s.numbering k) ≡ true
      go None is = absurd (let z : uses_at s.numbering AsTask k ≡ 0 = ap (λ o. option_map_or (uses AsTask) o 0) is in omega (arith, z, one))
      go (Some u) is = ap (is_used_as AsTask) is ∙ positive u.tasks (let z : uses_at s.numbering AsTask k ≡ u.tasks = ap (λ o. option_map_or (uses AsTask) o 0) is in omega (arith, z, one))

  -- and an identifier that is used as one has a task
  pub used-task : (k : ℕ) → is_used_as AsTask (identifier_at s.numbering k) ≡ true → (t : Task) × (task_at s.tree k ≡ Some t)
  used-task k h = go (identifier_at s.numbering k) refl h
    where
      there : (b : Bool) → 0 < one_if b → b ≡ true
      there true some = refl
      there false some = absurd (omega (arith, some))

      go : (o : Option Identifier) → identifier_at s.numbering k ≡ o → is_used_as AsTask o ≡ true → (t : Task) × (task_at s.tree k ≡ Some t)
      go None is h = absurd (cc)
      go (Some u) is h =
          let z : uses_at s.numbering AsTask k ≡ u.tasks = ap (λ o. option_map_or (uses AsTask) o 0) is in
          let a = l.agree.tasks k in
          let some = above u.tasks h in
          held (task_at s.tree k) (there (is_some (task_at s.tree k)) (omega (arith, z, a, some)))

  -- no row has a number that no task has
  pub row-none : (n : ℕ) → (IsNumberUsedAs s.numbering AsTask 0 n → ⊥) → row_numbered s 0 n ≡ None
  row-none n free = go (row_numbered s 0 n) refl
    where
      go : (o : Option Row) → row_numbered s 0 n ≡ o → o ≡ None
      go None e = refl
      go (Some r) e = let f = row-from s l 0 n r e in absurd (free (record { key = f.0; has = f.3; used = task-used f.0 f.1 f.2 }))

-- control groups that are found by their ids
module _ (state : State) where
  one : (c : Control) → control_at state.controls c.id ≡ Some c → control_row_of state c.id ≡ with_count state c
  one c e = λ i. record { id = c.id; parent = ap (option_and_then (λ (d : Control). d.parent)) e i; limit = ap (option_and_then (λ (d : Control). d.limit)) e i; count = count state c.id }

  each : (cs : List Control) → ((c : Control) → IsIn c cs → control_at state.controls c.id ≡ Some c) → map (control_row_of state) (map (λ (c : Control). c.id) cs) ≡ map (with_count state) cs
  each [] found = refl
  each (c ∷ cs) found = λ i. one c (found c (inl refl)) i ∷ each cs (λ d on. found d (inr on)) i

  over : (ps : List (ℕ × ℕ)) → map (λ p. control_row_of state p.0) ps ≡ map (control_row_of state) (map (λ p. p.0) ps)
  over [] = refl
  over (p ∷ ps) = ap (λ rows. control_row_of state p.0 ∷ rows) (over ps)

  pub rows-by_id : (ps : List (ℕ × ℕ)) → IsRising (map (λ (c : Control). c.id) state.controls) → map (λ p. p.0) ps ≡ map (λ (c : Control). c.id) state.controls
      → map (λ p. control_row_of state p.0) ps ≡ map (with_count state) state.controls
  rows-by_id ps rising same = over ps ∙ ap (map (control_row_of state)) same ∙ each state.controls (λ c on. find-key (λ (d : Control). d.id) state.controls rising c on)
