-- The nearest control group that was not removed.
use Rattle.std.proofs.Common.{◌≡◌, ℕ, if◌then◌else◌, Some, None, IsSome, sym, ap, ◌∙◌}
use Rattle.pids_charge.proofs.Words.{arith, ContainsKey, Charges, home_at, home_id, charges_of, standing_key, IsNodeTree, TreeOfNodes, tree_of}
use Rattle.pids_charge.specs.declared.Controls.TheInside.{Inside}
use Rattle.pids_charge.proofs.Climbs.{up_levels}
use Rattle.pids_charge.proofs.Views.{home_in, home_at-is, kept_cases}

-- a key that was removed is below another one, and both are in the same group
pub standing-up : (t : TreeOfNodes) → IsNodeTree t → (k p : ℕ) → (if t.stand k then None else t.up k) ≡ Some p → (t.up k ≡ Some p) × (standing_key t k ≡ standing_key t p)
standing-up t w k p e = grind (arith, up_levels t w.levels)

-- what a contract sees of a key
pub home-id : (s : Inside) {v : Charges} → charges_of s.nodes s.ids ≡ v → (k : ℕ) → IsSome (home_at v k)
    → ContainsKey s.nodes k × (home_id v k ≡ (tree_of s.nodes).id (standing_key (tree_of s.nodes) k))
home-id s {v} is k some = grind (arith, kept_cases, same)
  where
    same : home_at v k ≡ home_in s.nodes k
    same = sym (ap (λ (w : Charges). home_at w k) is) ∙ home_at-is s.nodes s.ids k
