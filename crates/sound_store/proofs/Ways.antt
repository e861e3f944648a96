-- Chains of parents: by key, and by root numbers in the model.
use Rattle.std.proofs.Common.{◌≡◌, inl, inr, ℕ, zero, suc, ◌+◌, ◌-◌, ◌≤◌, length, Option, Some, None, refl, sym, ap, subst, ◌∙◌, arith, option_map}
use Rattle.std.specs.Option.{option_map_or}
use Rattle.pid_types.specs.declared.plain.Row.{Row}
use Rattle.pid_types.specs.Chains.{climb}
use Rattle.pid_types.specs.Exit.{parent_number}
use Rattle.pid_types.specs.Membership.{IsIn}
use Rattle.pid_types.specs.Names.{root_number}
use Rattle.model_laws.proofs.Chains.{climb_cases, IsIn-climb_first, IsIn-climb_parent, IsIn-climb_more}
use Rattle.model_laws.proofs.Ancestry.{Far, parent_number-at, chain-in_rows, IsIn-roots}
use Rattle.pid_numbers.specs.Numbering.{number_of}
use Rattle.task_tree.specs.declared.Task.{Task}
use Rattle.task_tree.specs.Tree.{task_at, parent_of}
use Rattle.task_table.specs.Store.{Store}
use Rattle.task_table.specs.View.{name_at, row_of, row_numbered, state_of}
use Rattle.task_table.specs.Lawful.{IsLawful}
use Rattle.task_table.proofs.LookUps.{named, root-number, row-at, row_at-key, keyed}
use Rattle.task_table.proofs.Places.{found-few}
use Rattle.sound_store.specs.Ways.{IsFirstTask, LeadsUp, Reaches}

-- what a chain has it has for more steps
pub climb-longer : (f : ℕ → Option ℕ) (k m id x : ℕ) → IsIn x (climb f k id) → IsIn x (climb f (m + k) id)
climb-longer f k zero id x i = subst (λ n. IsIn x (climb f n id)) (let e : k ≡ 0 + k = omega arith in e) i
climb-longer f k (suc m) id x i = subst (λ n. IsIn x (climb f n id)) (let e : suc (m + k) ≡ suc m + k = omega arith in e) (IsIn-climb_more f (m + k) id x (climb-longer f k m id x i))

module _ (s : Store) (l : IsLawful s) where
  -- the root number of a task
  pub number-at : (k : ℕ) (t : Task) → task_at s.tree k ≡ Some t → number_of s.numbering k 0 ≡ Some (root_number (name_at s.numbering k))
  number-at k t e = let u = named s l k t e in root-number s l k u.0 u.1

  -- the key of number 1 is the first task's
  pub first-key : (j k : ℕ) → IsFirstTask s j → IsFirstTask s k → j ≡ k
  first-key j k a b = l.numbering.distinct j k 0 1 a b

  -- the parent of a task, by its number
  pub parent-number : (k : ℕ) (t : Task) → task_at s.tree k ≡ Some t
      → parent_number (state_of s).rows (root_number (name_at s.numbering k)) ≡ option_map (λ p. root_number (name_at s.numbering p)) (parent_of s.tree k)
  parent-number k t e =
      parent_number-at (state_of s).rows (root_number (name_at s.numbering k)) (row_of s k t)
      (row_at-key s l (root_number (name_at s.numbering k)) k t e (number-at k t e))
      ∙ twice (parent_of s.tree k)
    where
      twice : (o : Option ℕ) → option_map root_number (option_map (name_at s.numbering) o) ≡ option_map (λ p. root_number (name_at s.numbering p)) o
      twice None = refl
      twice (Some p) = refl

  module _ (tasks : (k p : ℕ) → parent_of s.tree k ≡ Some p → (t : Task) × (task_at s.tree p ≡ Some t)) where
    -- a way to the first task leads to number 1
    pub way-far : (most k : ℕ) (t : Task) → task_at s.tree k ≡ Some t → LeadsUp s most k
        → (d : ℕ) × Far (parent_number (state_of s).rows) d (root_number (name_at s.numbering k))
    unfolding climb
    way-far zero k t e w = absurd w.2
    way-far (suc most) k t e w = elim (climb_cases (parent_of s.tree) most k w.0 w.2) [
      | inl same ↦ (0, ap (λ o. option_map_or (λ n. n) o 1) (let z : Some (root_number (name_at s.numbering k)) ≡ Some 1 = sym (number-at k t e) ∙ ap (λ j. number_of s.numbering j 0) (sym same) ∙ w.1 in z))
      | inr r ↦
          let v = tasks k r.0 r.1 in
          let rest = way-far most r.0 v.0 v.1 (w.0, w.1, r.2) in
          (suc rest.0, (root_number (name_at s.numbering r.0), parent-number k t e ∙ ap (option_map (λ p. root_number (name_at s.numbering p))) r.1, rest.1))
    ]

    -- and the other way
    pub way-back : (most k : ℕ) (t : Task) → task_at s.tree k ≡ Some t → (first : ℕ) → IsFirstTask s first
        → IsIn 1 (climb (parent_number (state_of s).rows) most (root_number (name_at s.numbering k))) → IsIn first (climb (parent_of s.tree) most k)
    unfolding climb
    way-back zero k t e first one i = absurd i
    way-back (suc most) k t e first one i = elim (climb_cases (parent_number (state_of s).rows) most (root_number (name_at s.numbering k)) 1 i) [
      | inl same ↦
          let here = first-key first k one (number-at k t e ∙ ap Some (sym same)) in
          subst (λ x. IsIn x (climb (parent_of s.tree) (suc most) k)) (sym here) (IsIn-climb_first (parent_of s.tree) most k)
      | inr r ↦ up (λ p v at i. way-back most p v at first one i) r.0 (sym (parent-number k t e) ∙ r.1) r.2 (parent_of s.tree k) refl
    ]
      where
        up : ((p : ℕ) (v : Task) → task_at s.tree p ≡ Some v → IsIn 1 (climb (parent_number (state_of s).rows) most (root_number (name_at s.numbering p))) → IsIn first (climb (parent_of s.tree) most p))
            → (n : ℕ) → option_map (λ p. root_number (name_at s.numbering p)) (parent_of s.tree k) ≡ Some n
            → IsIn 1 (climb (parent_number (state_of s).rows) most n) → (o : Option ℕ) → parent_of s.tree k ≡ o → IsIn first (climb (parent_of s.tree) (suc most) k)
        up again n is j None at = absurd (let z : None ≡ Some n = sym (ap (option_map (λ p. root_number (name_at s.numbering p))) at) ∙ is in cc)
        up again n is j (Some p) at =
            let z : Some (root_number (name_at s.numbering p)) ≡ Some n = sym (ap (option_map (λ p. root_number (name_at s.numbering p))) at) ∙ is in
            let same : n ≡ root_number (name_at s.numbering p) = sym (ap (λ o. option_map_or (λ m. m) o n) z) in
            let v = tasks k p at in
            IsIn-climb_parent (parent_of s.tree) most k p first at
            (again p v.0 v.1 (subst (λ m. IsIn 1 (climb (parent_number (state_of s).rows) most m)) same j))

    -- where a task leads to the first one, which has no parent, its chain of numbers is long enough
    pub way-chain : (k : ℕ) (t : Task) → task_at s.tree k ≡ Some t → Reaches s k → (first : ℕ) (v : Task) → IsFirstTask s first → task_at s.tree first ≡ Some v → parent_of s.tree first ≡ None
        → IsIn 1 (climb (parent_number (state_of s).rows) (length (state_of s).rows) (root_number (name_at s.numbering k)))
    way-chain k t e reach first v one at top =
        let far = way-far reach.0 k t e reach.1 in
        let row = row_at-key s l 1 first v at one in
        let is_one : root_number (name_at s.numbering first) ≡ 1 = keyed s l 1 (row_of s first v) (row-numbered first v at one) in
        chain-in_rows (state_of s).rows
        (ap (parent_number (state_of s).rows) (sym is_one) ∙ parent-number first v at ∙ ap (option_map (λ p. root_number (name_at s.numbering p))) top)
        (IsIn-roots (state_of s).rows 1 (row_of s first v) row) far.0 (root_number (name_at s.numbering k)) far.1
      where
        row-numbered : (k : ℕ) (t : Task) → task_at s.tree k ≡ Some t → IsFirstTask s k → row_numbered s 0 1 ≡ Some (row_of s k t)
        row-numbered k t e one = row-at s l k 0 1 t e one

    -- a chain that is long enough is a short way
    pub chain-way : (k : ℕ) (t : Task) → task_at s.tree k ≡ Some t → (first : ℕ) → IsFirstTask s first
        → IsIn 1 (climb (parent_number (state_of s).rows) (length (state_of s).rows) (root_number (name_at s.numbering k))) → LeadsUp s s.numbering.pid_max k
    chain-way k t e first one i =
        let few : length (state_of s).rows ≤ s.numbering.pid_max = found-few (row_numbered s 0) (λ (r : Row). root_number r.name) (λ n r e. keyed s l n r e) 0 s.numbering.pid_max in
        let way = way-back (length (state_of s).rows) k t e first one i in
        (first, one, longer (length (state_of s).rows) s.numbering.pid_max few first way)
      where
        longer : (m n : ℕ) → m ≤ n → (x : ℕ) → IsIn x (climb (parent_of s.tree) m k) → IsIn x (climb (parent_of s.tree) n k)
        longer m n le x i = subst (λ q. IsIn x (climb (parent_of s.tree) q k)) (let e : n - m + m ≡ n = omega (arith, le) in e) (climb-longer (parent_of s.tree) m (n - m) k x i)
