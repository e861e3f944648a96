-- Another limit at one node.
use Rattle.std.proofs.Common.{◌≡◌, inl, ℕ, ◌<◌, nat_lt, Bool, true, false, if◌then◌else◌, Option, Some, None, option_and_then, is_some, List, [], ◌∷◌, length, set, map, refl, sym, ap, subst, ◌∙◌, arith}
use Rattle.pids_charge.proofs.Words.{◌+◌, cases_eq, eq-eqb, option_map_or, limited, BadLimit, RootControl, Slab, Updates, get, Charges, home_at, limit_refusal}
use Rattle.pids_charge.proofs.Words.{stands, IsKeyOfId, IsChargeTree, IsListed, charges_of, control_in, counter_at, limit_in, home_of_node, total_at, IsNodeTree, TreeOfNodes, all_in}
use Rattle.pids_charge.proofs.Words.{tree_of, Counter, Node}
use Rattle.pid_types.specs.Bounds.{greatest_limit}
use Rattle.pids_charge.proofs.Linked as linked
use Rattle.pids_charge.proofs.Climbs.{eqb-apart, up-is}
use Rattle.pids_charge.specs.declared.Controls.TheInside.{Inside}
use Rattle.pids_charge.proofs.Views.{home_at-is, same_key, parent_some}
use Rattle.pids_charge.proofs.Dropped.{map-where}
use Rattle.pids_charge.proofs.Written.{Writes}
use Rattle.pids_charge.proofs.Written as written

module _ (nodes new : Slab Node) (c : ℕ) (n : Node) (limit : Option ℕ) (found : get nodes c ≡ Some n)
    (updates : Updates nodes new c (Some (record n { limit = limit }))) where
  writes : Writes nodes new c n (record n { limit = limit })
  writes = record { found = found; shape = refl; updates = updates }

  tree : tree_of new ≡ tree_of nodes
  tree = written.tree-same writes

  pub all-limited : all_in new ≡ all_in nodes
  all-limited = omega (arith, written.all-written writes)

  module _ (counters : List Counter) (children : List (Option ℕ)) (ids : List (ℕ × ℕ)) (w : IsChargeTree nodes counters children ids)
      (up : (tree_of nodes).stand c ≡ true) where
    pub IsKept-limited : (counter : Counter) → counter ≡ counter_at counters c → IsChargeTree new (set counters c (record counter { limit = limit })) children ids
    IsKept-limited counter was = record {
      tree = subst IsNodeTree (sym tree) w.tree;
      counted = written.IsCounted-written writes w.tree w.counted (total_at (set counters c (record counter { limit = limit }))) None
          (λ j. ap (λ x. x + written.part writes n j) (total j)) (inl up) (omega (arith, all-limited, w.counted.few));
      linked = linked.linked-both counters c (record counter { limit = limit }) room nodes new counters w.linked (λ k. refl) (omega arith) (record n { limit = limit })
          updates refl (ap (λ (x : Counter). x.parent) was ∙ (w.linked c (ap is_some found)).parent ∙ up-is nodes c n found);
      listed = subst (λ x. IsListed x children ids) (sym tree) w.listed;
      room = λ j on. w.room j (sym (ap (λ (x : TreeOfNodes). x.there j) tree) ∙ on);
      small = w.small;
    }
      where
        room : c < length counters
        room = (w.linked c (ap is_some found)).room

        total : (j : ℕ) → total_at (set counters c (record counter { limit = limit })) j ≡ total_at counters j
        total j = grind (arith, cases_eq, linked.counter-here, room, linked.counter-others)

    pub controls-limited : map (control_in (tree_of new) (limit_in new)) ids
        ≡ map (limited ((tree_of nodes).id c) limit) (map (control_in (tree_of nodes) (limit_in nodes)) ids)
    controls-limited =
        ap (λ t. map (control_in t (limit_in new)) ids) tree
        ∙ map-where (IsKeyOfId (tree_of nodes)) (control_in (tree_of nodes) (limit_in new)) (λ p. limited ((tree_of nodes).id c) limit (control_in (tree_of nodes) (limit_in nodes) p)) same ids w.listed.entries
        ∙ map-map ids
      where
        map-map : (ps : List (ℕ × ℕ)) → map (λ p. limited ((tree_of nodes).id c) limit (control_in (tree_of nodes) (limit_in nodes) p)) ps ≡ map (limited ((tree_of nodes).id c) limit) (map (control_in (tree_of nodes) (limit_in nodes)) ps)
        map-map [] = refl
        map-map (p ∷ ps) = ap (λ cs. limited ((tree_of nodes).id c) limit (control_in (tree_of nodes) (limit_in nodes) p) ∷ cs) (map-map ps)

        same : (p : ℕ × ℕ) → IsKeyOfId (tree_of nodes) p → control_in (tree_of nodes) (limit_in new) p ≡ limited ((tree_of nodes).id c) limit (control_in (tree_of nodes) (limit_in nodes) p)
        same p e = grind (arith, cases_eq, eq-eqb, same_key, eqb-apart)

    pub homes-limited : (k : ℕ) → home_at (charges_of new ids) k ≡ home_at (charges_of nodes ids) k
    homes-limited k =
        home_at-is new ids k ∙ ap (λ (t : TreeOfNodes). option_and_then (home_of_node t k) (get new k)) tree
        ∙ written.kept_field writes (option_and_then (home_of_node (tree_of nodes) k)) refl k ∙ sym (home_at-is nodes ids k)

-- why a limit cannot be set, by the node
pub refused : (s : Inside) {v : Charges} → charges_of s.nodes s.ids ≡ v → IsListed (tree_of s.nodes) s.children s.ids → (c : ℕ) → stands v c ≡ true
    → (limit : Option ℕ)
    → (b d : Bool) → {n : Node} → get s.nodes c ≡ Some n → is_some n.parent ≡ b → option_map_or (nat_lt greatest_limit) limit false ≡ d
    → limit_refusal v c limit ≡ (if b then (if d then Some BadLimit else None) else Some RootControl)
refused s {v} is l c on limit b d {n} found up high = let above = parent_some s is l c on n found in grind arith
