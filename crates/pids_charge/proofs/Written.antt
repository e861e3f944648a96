-- What other numbers of tasks at one node change.
use Rattle.std.proofs.Common.{◌≡◌, inl, inr, ℕ, zero, suc, ◌+◌, ◌<◌, ◌≤◌, ◌^◌, Bool, true, false, if◌then◌else◌, Option, Some, None, option_map, option_and_then, is_some, List, length, map, refl, sym, ap, subst, ◌∙◌, arith}
use Rattle.pids_charge.proofs.Words.{◌⊎◌, fun_ext, cases_eq, eqb-true, option_map_or, ContainsKey-within, ContainsKey, Slab, Updates, get, ChangesHome, Charges}
use Rattle.pids_charge.proofs.Words.{Home, home_at, after_move, stands, ChangesTasks, AreTotals, charges_of, control_in, limit_in, home_of_node, standing_key, HasLevels}
use Rattle.pids_charge.proofs.Words.{IsNodeTree, TreeOfNodes, all_in, is_under, left, live_in, reaches, tasks_in, total_in, tree_of, Node}
use Rattle.pids_charge.proofs.Changed.{field-other, field-kept, all-changed, total-changed}
use Rattle.pids_charge.proofs.Sums.{sum_le, sum_ge}
use Rattle.pids_charge.proofs.Views.{home_at-is, field-is, kept_standing}

abbrev pub bare : Node → Node
bare n = record n { live = 0; zombies = 0; limit = None }

tree_from : (ℕ → Bool) → (ℕ → Option ℕ) → (ℕ → ℕ) → (ℕ → Bool) → (ℕ → ℕ) → TreeOfNodes
tree_from there up level stand id = record { there = there; up = up; level = level; stand = stand; id = id }

pub same_trees : (s t : TreeOfNodes) → ((j : ℕ) → s.there j ≡ t.there j) → ((j : ℕ) → s.up j ≡ t.up j) → ((j : ℕ) → s.level j ≡ t.level j) → ((j : ℕ) → s.stand j ≡ t.stand j)
    → ((j : ℕ) → s.id j ≡ t.id j) → s ≡ t
unfolding tree_from
same_trees s t a b c d e = grind (arith, tree_from)

-- who is under a node that is there
pub reaches_there : (t : TreeOfNodes) → HasLevels t → (n j k : ℕ) → t.there j ≡ true → reaches t.up n j k ≡ true → t.there k ≡ true
reaches_there t w zero j k on is = ap t.there (sym (eqb-true j k is)) ∙ on
reaches_there t w (suc n) j k on is = let above = w j in grind (arith, eqb-true, reaches_there t w n)

-- who is above one that stands does so too
pub reaches_stand : (t : TreeOfNodes) → IsNodeTree t → (n j k : ℕ) → t.stand j ≡ true → reaches t.up n j k ≡ true → t.stand k ≡ true
reaches_stand t w zero j k on is = ap t.stand (sym (eqb-true j k is)) ∙ on
reaches_stand t w (suc n) j k on is = grind (arith, eqb-true, reaches_stand t w n)

pub if_le : (b : Bool) (x : ℕ) → (if b then x else 0) ≤ x
if_le b x = grind arith

-- a count is at most all tasks
pub total_le : (nodes : Slab Node) (k : ℕ) → total_in nodes k ≤ all_in nodes
total_le nodes k = sum_le (length nodes.slots) (λ j. if is_under (tree_of nodes) j k then tasks_in nodes j else 0) (tasks_in nodes) (λ j. if_le (is_under (tree_of nodes) j k) (tasks_in nodes j))

module _ (nodes : Slab Node) (k : ℕ) (n : Node) (found : get nodes k ≡ Some n) where
  pub own_tasks : tasks_in nodes k ≡ n.live + n.zombies
  own_tasks = ap (λ o. option_map_or (λ (x : Node). x.live + x.zombies) o 0) found

  -- the tasks of a node are among all
  pub own_all : n.live + n.zombies ≤ all_in nodes
  own_all = let e = sum_ge (length nodes.slots) k (tasks_in nodes) (ContainsKey-within nodes k (ap is_some found)) in omega (arith, e, own_tasks)

  -- and among those of each node that it is under
  pub own_total : (c : ℕ) → is_under (tree_of nodes) k c ≡ true → n.live + n.zombies ≤ total_in nodes c
  own_total c under =
      let f : ℕ → ℕ = λ j. if is_under (tree_of nodes) j c then tasks_in nodes j else 0 in
      let e = sum_ge (length nodes.slots) k f (ContainsKey-within nodes k (ap is_some found)) in
      let a : f k ≡ tasks_in nodes k = ap (λ (b : Bool). if b then tasks_in nodes k else 0) under in
      omega (arith, e, a, own_tasks)

-- a node with a live task stands
pub live_stands : {nodes : Slab Node} {totals : ℕ → ℕ} {at : Option ℕ} (k : ℕ) → AreTotals nodes totals at → 0 < live_in nodes k → (tree_of nodes).stand k
    ≡ true
live_stands k w some = grind arith

-- the node of key k is written, and keeps all but its tasks and its limit
pub record Writes (nodes new : Slab Node) (k : ℕ) (n m : Node) : Type 0 where
  pub found : get nodes k ≡ Some n
  pub shape : bare m ≡ bare n
  pub updates : Updates nodes new k (Some m)

module _ {nodes new : Slab Node} {k : ℕ} {n m : Node} (writes : Writes nodes new k n m) where
  open writes use {found, shape, updates}

  pub kept_field : {X : Type 0} (f : Option Node → X) → f (Some m) ≡ f (Some n) → (j : ℕ) → f (get new j) ≡ f (get nodes j)
  kept_field f same = field-kept updates f (same ∙ sym (ap f found))

  pub tree-same : tree_of new ≡ tree_of nodes
  tree-same = same_trees (tree_of new) (tree_of nodes)
      (kept_field is_some refl)
      (kept_field (option_and_then (λ x. x.parent)) (ap (λ (x : Node). x.parent) shape))
      (kept_field (λ o. option_map_or (λ x. x.level) o 0) (ap (λ (x : Node). x.level) shape))
      (kept_field (λ o. option_map_or (λ x. x.standing) o false) (ap (λ (x : Node). x.standing) shape))
      (kept_field (λ o. option_map_or (λ x. x.id) o 0) (ap (λ (x : Node). x.id) shape))

  pub all-written : all_in new + (n.live + n.zombies) ≡ all_in nodes + (m.live + m.zombies)
  all-written = omega (arith, all-changed updates, own_tasks nodes k n found, own_tasks new k m updates.changed)

  -- what such a node adds to the total of another one
  abbrev pub part : Node → ℕ → ℕ
  part x c = if is_under (tree_of new) k c then x.live + x.zombies else 0

  total-written : (c : ℕ) → total_in new c + part n c ≡ total_in nodes c + part m c
  total-written c =
      let under : (j : ℕ) → is_under (tree_of new) j c ≡ is_under (tree_of nodes) j c = λ j. ap (λ (x : TreeOfNodes). is_under x j c) tree-same in
      let e = total-changed updates c (λ j differs. under j) in
      let s = under k in
      let was = own_tasks nodes k n found in
      let is = own_tasks new k m updates.changed in
      grind arith

  module _ {totals : ℕ → ℕ} (w : IsNodeTree (tree_of nodes)) (counted : AreTotals nodes totals None) where
    counts_above : (j : ℕ) → is_under (tree_of new) k j ≡ true → (totals j ≡ total_in nodes j) × (n.live + n.zombies ≤ total_in nodes j)
    counts_above j under =
        let u = sym (ap (λ (x : TreeOfNodes). is_under x k j) tree-same) ∙ under in
        (counted.counts j (reaches_there (tree_of nodes) w.levels ((tree_of nodes).level k) k j (ap is_some found) u), own_total nodes k n found j u)

    -- the totals on the way up have room
    pub has_room : all_in nodes + 1 < 2 ^ 64 → (j : ℕ) → is_under (tree_of new) k j ≡ true → totals j + 1 < 2 ^ 64
    has_room few j under = omega (arith, (counts_above j under).0, few, total_le nodes j)

    -- and something to take
    pub has_some : 0 < n.live + n.zombies → (j : ℕ) → is_under (tree_of new) k j ≡ true → 0 < totals j
    has_some some j under = let t = counts_above j under in omega (arith, t.0, t.1, some)

    -- totals that follow the change are the counts again, where the node stands, or a walk is still to visit it
    pub IsCounted-written : (after : ℕ → ℕ) (later : Option ℕ) → ((j : ℕ) → after j + part n j ≡ totals j + part m j)
        → ((tree_of nodes).stand k ≡ true) ⊎ ((m.live ≡ n.live) × (later ≡ Some k)) → all_in new < 2 ^ 64 → AreTotals new after later
    IsCounted-written after later after_move why few = record {
      counts = λ j on. omega (arith, after_move j, total-written j, counted.counts j (sym (kept_field is_some refl j) ∙ on));
      filled = λ j on gone past. filled j (sym (kept_field is_some refl j) ∙ on) (stood j gone) past (is_under (tree_of new) k j) refl why;
      ended = λ j gone. elim (cases_eq j k) [
        | inl e ↦ ended j e (stood j gone) why
        | inr differs ↦ field-other updates (λ o. option_map_or (λ (x : Node). x.live) o 0) j differs ∙ counted.ended j (stood j gone)
      ];
      few = few;
    }
      where
        stood : (j : ℕ) → (tree_of new).stand j ≡ false → (tree_of nodes).stand j ≡ false
        stood j gone = sym (ap (λ (x : TreeOfNodes). x.stand j) tree-same) ∙ gone

        filled : (j : ℕ) → ContainsKey nodes j → (tree_of nodes).stand j ≡ false → left (tree_of new) later j ≡ 0 → (b : Bool) → is_under (tree_of new) k j ≡ b
            → ((tree_of nodes).stand k ≡ true) ⊎ ((m.live ≡ n.live) × (later ≡ Some k)) → 0 < total_in new j
        filled j on gone past b under why =
            let t = total-written j in
            let some = counted.filled j on gone refl in
            let u = sym (ap (λ (x : TreeOfNodes). is_under x k j) tree-same) ∙ under in
            let above = reaches_stand (tree_of nodes) w ((tree_of nodes).level k) k j in
            grind arith

        ended : (j : ℕ) → j ≡ k → (tree_of nodes).stand j ≡ false → ((tree_of nodes).stand k ≡ true) ⊎ ((m.live ≡ n.live) × (later ≡ Some k)) → live_in new j
            ≡ 0
        ended j e gone why = grind (arith, counted.ended)

  pub changes : m.limit ≡ n.limit → (change : Node → Node) → m ≡ change n → ChangesTasks nodes new k change
  changes limit change same = record {
    tree = tree-same;
    limits = kept_field (option_and_then (λ x. x.limit)) limit;
    here = updates.changed ∙ ap Some same ∙ sym (ap (option_map change) found);
    others = updates.others;
  }

-- what a contract sees of a change of tasks
pub ChangesHome-tasks : (nodes new : Slab Node) (home : ℕ) (change : Node → Node) → ChangesTasks nodes new home change → (ids : List (ℕ × ℕ)) (after : Option Home)
    → option_and_then (home_of_node (tree_of nodes) home) (option_map change (get nodes home)) ≡ after → ChangesHome (charges_of nodes ids) (charges_of new ids) home after
ChangesHome-tasks nodes new home change w ids after same = record {
  controls = ap (λ (x : TreeOfNodes). map (control_in x (limit_in new)) ids) w.tree ∙ ap (λ (f : ℕ → Option ℕ). map (control_in (tree_of nodes) f) ids) (fun_ext w.limits);
  here = home_at-is new ids home ∙ ap (λ (x : TreeOfNodes). option_and_then (home_of_node x home) (get new home)) w.tree ∙ ap (option_and_then (home_of_node (tree_of nodes) home)) w.here ∙ same;
  others = λ j differs. home_at-is new ids j ∙ ap (λ (x : TreeOfNodes). option_and_then (home_of_node x j) (get new j)) w.tree ∙ ap (option_and_then (home_of_node (tree_of nodes) j)) (w.others j differs) ∙ sym (home_at-is nodes ids j);
}

-- the same, told of the value that a contract sees
pub home-changed : (nodes new : Slab Node) (home : ℕ) (change : Node → Node) → ChangesTasks nodes new home change → (ids : List (ℕ × ℕ)) (v : Charges) → charges_of nodes ids ≡ v
    → (g : Option Home → Option Home) → g None ≡ None → ((n : Node) → get nodes home ≡ Some n → home_of_node (tree_of nodes) home (change n) ≡ g (home_of_node (tree_of nodes) home n))
    → ChangesHome v (charges_of new ids) home (g (home_at v home))
home-changed nodes new home change w ids v is g none same =
    subst (λ x. ChangesHome x (charges_of new ids) home (g (home_at x home))) is
    (ChangesHome-tasks nodes new home change w ids (g (home_at (charges_of nodes ids) home)) (go (get nodes home) refl ∙ ap g (sym (home_at-is nodes ids home))))
  where
    go : (o : Option Node) → get nodes home ≡ o → option_and_then (home_of_node (tree_of nodes) home) (option_map change o) ≡ g (option_and_then (home_of_node (tree_of nodes) home) o)
    go o e = grind arith

-- so where the node stands
pub standing-changed : (nodes new : Slab Node) (home : ℕ) (l z : ℕ → ℕ)
    → ChangesTasks nodes new home (λ (n : Node). record n { live = l n.live; zombies = z n.zombies })
    → (ids : List (ℕ × ℕ)) (v : Charges) → charges_of nodes ids ≡ v → (tree_of nodes).stand home ≡ true
    → ChangesHome v (charges_of new ids) home (option_map (λ (h : Home). record h { live = l h.live; zombies = z h.zombies }) (home_at v home))
standing-changed nodes new home l z w ids v is stands =
    let now : Home → Home = λ h. record h { live = l h.live; zombies = z h.zombies } in
    let home_of : Node → Home =
    λ n. record { id = (tree_of nodes).id (standing_key (tree_of nodes) home); stands = n.standing; live = n.live; zombies = n.zombies } in
    home-changed nodes new home (λ (n : Node). record n { live = l n.live; zombies = z n.zombies }) w ids v is (option_map now) refl
    (λ n found.
    let up = sym (field-is (λ (x : Node). x.standing) false nodes home n found) ∙ stands in
    kept_standing (now (home_of n)) up ∙ sym (ap (option_map now) (kept_standing (home_of n) up)))
