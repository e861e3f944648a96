-- The nearest limit that one task more would pass, by ids and by keys.
use Rattle.std.proofs.Common.{◌≡◌, ℕ, zero, suc, ◌+◌, ◌≤◌, nat_lt, nat_le, Bool, true, Option, Some, option_map, List, map, sym, ap, ◌∙◌, arith}
use Rattle.pids_charge.proofs.Words.{cases_lt, le-leb, le-ltb, lt-leb, lt-ltb, find, climb, parent_control, control_path, PidsLimit, ContainsKey, Slab, Charges}
use Rattle.pids_charge.proofs.Words.{charge_refusal, home_id, is_full, stands, IsChargeTree, IsListed, charges_of, control_in, first_full, is_at_limit, limit_in}
use Rattle.pids_charge.proofs.Words.{total_at, IsNodeTree, total_in, tree_of, Node}
use Rattle.pids_charge.proofs.Climbs.{up_levels}
use Rattle.pids_charge.specs.declared.Controls.TheInside.{Inside}
use Rattle.pids_charge.proofs.Views.{id_in, stand_in, parent-is, limit-is, there}
use Rattle.pids_charge.proofs.Bridges.{count-is}

lt-suc : (a b : ℕ) → nat_lt a (b + 1) ≡ nat_le a b
lt-suc a b = grind (arith, cases_lt, le-ltb, lt-leb, lt-ltb, le-leb)

module _ (nodes : Slab Node) (totals : ℕ → ℕ) (children : List (Option ℕ)) (ids : List (ℕ × ℕ)) (w : IsNodeTree (tree_of nodes)) (l : IsListed (tree_of nodes) children ids)
    (counts : (k : ℕ) → ContainsKey nodes k → totals k ≡ total_in nodes k) where
  full-is : (s : ℕ) → (tree_of nodes).stand s ≡ true → is_full (charges_of nodes ids) ((tree_of nodes).id s) ≡ is_at_limit nodes totals s
  full-is s up =
      let c = count-is nodes children ids w l s up ∙ sym (counts s (there nodes s up)) in
      let limit = limit-is (tree_of nodes) (limit_in nodes) children ids l s up in
      grind (arith, lt-suc)

  abbrev above_id : ℕ → Option ℕ
  above_id = parent_control (map (control_in (tree_of nodes) (limit_in nodes)) ids)

  abbrev full : ℕ → Bool
  full = is_full (charges_of nodes ids)

  find-climb : (n s : ℕ) → (tree_of nodes).stand s ≡ true → find full (climb above_id (suc n) ((tree_of nodes).id s)) ≡ option_map (tree_of nodes).id (first_full nodes totals n s)
  unfolding climb
  find-climb zero s up = grind (arith, full-is)
  find-climb (suc n) s up = grind (arith, full-is, parent-is (tree_of nodes) (limit_in nodes) children ids l, find-climb n)

  first-more : (n s : ℕ) → (tree_of nodes).level s ≤ n → first_full nodes totals n s ≡ first_full nodes totals ((tree_of nodes).level s) s
  first-more zero s low = let e : (tree_of nodes).level s ≡ 0 = omega (arith, low) in ap (λ m. first_full nodes totals m s) (sym e)
  first-more (suc n) s low = grind (arith, up_levels, first-more n)

  pub charge-is : (s : ℕ) → (tree_of nodes).stand s ≡ true → charge_refusal (charges_of nodes ids) ((tree_of nodes).id s) ≡ option_map PidsLimit (option_map (tree_of nodes).id (first_full nodes totals ((tree_of nodes).level s) s))
  unfolding control_path
  charge-is s up = ap (option_map PidsLimit) (find-climb 64 s up ∙ ap (option_map (tree_of nodes).id) (first-more 64 s (w.deep s)))

-- so of the value that a contract sees
pub charge_seen : (s : Inside) {v : Charges} → charges_of s.nodes s.ids ≡ v → IsChargeTree s.nodes s.counters.items s.children s.ids → (k : ℕ) → stands v k ≡ true
    → charge_refusal v (home_id v k)
    ≡ option_map PidsLimit (option_map (tree_of s.nodes).id (first_full s.nodes (total_at s.counters.items) ((tree_of s.nodes).level k) k))
charge_seen s {v} is w k on =
    ap (charge_refusal v) (id_in s is k on) ∙ sym (ap (λ (x : Charges). charge_refusal x ((tree_of s.nodes).id k)) is)
    ∙ charge-is s.nodes (total_at s.counters.items) s.children s.ids w.tree w.listed w.counted.counts k (stand_in s is k on)

pub first_there : (nodes : Slab Node) (totals : ℕ → ℕ) (n s k : ℕ) → first_full nodes totals n s ≡ Some k → ContainsKey nodes k
first_there nodes totals n s k is = go n s is
  where
    here : (s : ℕ) → is_at_limit nodes totals s ≡ true → ContainsKey nodes s
    here s e = grind arith

    go : (n s : ℕ) → first_full nodes totals n s ≡ Some k → ContainsKey nodes k
    go zero s is = grind (arith, here)
    go (suc n) s is = grind (arith, here, go n)
