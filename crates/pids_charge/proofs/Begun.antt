-- The root control group alone.
use Rattle.pids_charge.proofs.Words.{None, Option, Some, [], ap, sym, false, inl, inr, ◌∙◌, ◌⊎◌, arith, length, refl, true, ℕ, ◌+◌, ◌∷◌, ◌≡◌, ◌≢◌, cases_eq, option_map_or, Slab, Updates, get, tree_of}
use Rattle.pids_charge.proofs.Words.{IsChargeTree, all_in, tasks_in, Counter, Node}
use Rattle.pids_charge.proofs.Sums.{sum-zero}

abbrev pub root_node : Node
root_node = record { id = 0; parent = None; limit = None; level = 0; standing = true; live = 0; zombies = 0 }

abbrev pub root_counter : Counter
root_counter = record { total = 0; limit = None; parent = None }

-- what an insertion into no nodes at all leaves
pub record Begins (nodes : Slab Node) : Type 0 where
  pub root : get nodes 0 ≡ Some root_node
  pub rest : (j : ℕ) → j ≢ 0 → get nodes j ≡ None

pub begins-from : (before nodes : Slab Node) (key : ℕ) (n : Node) → before.slots ≡ [] → key ≡ 0 → n ≡ root_node → Updates before nodes key (Some n)
    → Begins nodes
begins-from before nodes key n empty first is u = grind arith

module _ {nodes : Slab Node} (begins : Begins nodes) where
  same : {X : Type 0} (f : Option Node → X) (x : X) → f (Some root_node) ≡ x → f None ≡ x → (j : ℕ) → f (get nodes j) ≡ x
  same f x a b j = grind (arith, cases_eq)

  pub no_tasks : (j : ℕ) → tasks_in nodes j ≡ 0
  no_tasks = same (λ o. option_map_or (λ (n : Node). n.live + n.zombies) o 0) 0 refl refl

  pub no_task : all_in nodes ≡ 0
  no_task = sum-zero (length nodes.slots) (tasks_in nodes) no_tasks

  pub IsKept-begun : IsChargeTree nodes (root_counter ∷ []) (None ∷ []) ((0, 0) ∷ [])
  IsKept-begun = grind (arith, cases_eq, sum-zero, no_tasks)

  -- nothing else stands
  pub only-root : (k : ℕ) → (tree_of nodes).stand k ≡ true → k ≡ 0
  only-root k up = go (cases_eq k 0)
    where
      go : (k ≡ 0) ⊎ (k ≢ 0) → k ≡ 0
      go (inl same) = same
      go (inr differs) = absurd (let z : true ≡ false = sym up ∙ ap (λ o. option_map_or (λ (n : Node). n.standing) o false) (begins.rest k differs) in cc)
