-- One node changes: the others keep their fields, and each sum changes by its part.
use Rattle.pids_charge.proofs.Words.{None, Option, ap, arith, inl, inr, length, sym, ℕ, ◌+◌, ◌∙◌, ◌≡◌, ◌≢◌, ◌≤◌, if◌then◌else◌, cases_eq, get_or_past}
use Rattle.pids_charge.proofs.Words.{option_map_or, Slab, Updates, get, all_in, is_under, tasks_in, total_in, tree_of, Node}
use Rattle.pids_charge.proofs.Sums.{sum-apart}

-- the tasks of a key, where it is under another one
abbrev pub share : Slab Node → ℕ → ℕ → ℕ
share nodes c j = if is_under (tree_of nodes) j c then tasks_in nodes j else 0

none_past : (nodes : Slab Node) (j : ℕ) → length nodes.slots ≤ j → tasks_in nodes j ≡ 0
none_past nodes j over = ap (λ o. option_map_or (λ (n : Node). n.live + n.zombies) o 0) (get_or_past nodes.slots j None over)

no_share : (nodes : Slab Node) (c j : ℕ) → length nodes.slots ≤ j → share nodes c j ≡ 0
no_share nodes c j over = let none = none_past nodes j over in grind arith

module _ {nodes new : Slab Node} {a : ℕ} {slot : Option Node} (updates : Updates nodes new a slot) where
  pub field-other : {X : Type 0} (f : Option Node → X) (j : ℕ) → j ≢ a → f (get new j) ≡ f (get nodes j)
  field-other f j differs = ap f (updates.others j differs)

  -- what does not change at this key does at none
  pub field-kept : {X : Type 0} (f : Option Node → X) → f slot ≡ f (get nodes a) → (j : ℕ) → f (get new j) ≡ f (get nodes j)
  field-kept f same j = elim (cases_eq j a) [
    | inl e ↦ ap (λ i. f (get new i)) e ∙ ap f updates.changed ∙ same ∙ sym (ap (λ i. f (get nodes i)) e)
    | inr differs ↦ field-other f j differs
  ]

  tasks_other : (j : ℕ) → j ≢ a → tasks_in new j ≡ tasks_in nodes j
  tasks_other = field-other (λ o. option_map_or (λ (n : Node). n.live + n.zombies) o 0)

  pub all-changed : all_in new + tasks_in nodes a ≡ all_in nodes + tasks_in new a
  all-changed = sum-apart (length new.slots) (length nodes.slots) a (tasks_in new) (tasks_in nodes) (none_past new) (none_past nodes) tasks_other

  pub total-changed : (c : ℕ) → ((j : ℕ) → j ≢ a → is_under (tree_of new) j c ≡ is_under (tree_of nodes) j c)
      → total_in new c + share nodes c a ≡ total_in nodes c + share new c a
  total-changed c under = sum-apart (length new.slots) (length nodes.slots) a (share new c) (share nodes c) (no_share new c) (no_share nodes c)
      (λ j differs. let u = under j differs in let t = tasks_other j differs in grind arith)
