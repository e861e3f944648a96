-- The model's words over ids, told by keys.
use Rattle.std.proofs.Common.{◌≡◌, ℕ, zero, suc, ◌+◌, ◌≤◌, ◌==◌, Bool, true, false, ◌||◌, if◌then◌else◌, Option, Some, None, option_and_then, is_some, List, map, refl, sym, ap, ◌∙◌, arith}
use Rattle.pids_charge.proofs.Words.{cases_eq, eq-eqb, option_map_or, contains, climb, is_below, parent_control, control_path, Slab, get, charged_count, tasks_below}
use Rattle.pids_charge.proofs.Words.{IsListed, charges_of, control_in, limit_in, nearest, home_of_node, IsNodeTree, TreeOfNodes, is_under, reaches, tasks_in, total_in, tree_of}
use Rattle.pids_charge.proofs.Words.{Node}
use Rattle.pids_charge.proofs.Climbs.{eqb-apart, reaches-top, reaches-step, up_levels}
use Rattle.pids_charge.proofs.Views.{kept_cases, same_key, parent-is, home_at-is, sum-seen}

pub or_false : (b : Bool) → (b || false) ≡ b
or_false b = grind arith

module _ (t : TreeOfNodes) (w : IsNodeTree t) where
  -- more steps than there are levels reach no further
  pub reaches-more : (n j k : ℕ) → t.level j ≤ n → reaches t.up n j k ≡ is_under t j k
  reaches-more zero j k low = let e : t.level j ≡ 0 = omega (arith, low) in ap (λ m. reaches t.up m j k) (sym e)
  reaches-more (suc n) j k low = grind (arith, reaches-top, up_levels, reaches-step, reaches-more n)

  -- what does not stand is where the nearest above it is that stands
  pub under-nearest : (n j c : ℕ) → t.level j ≡ n → t.there j ≡ true → t.stand c ≡ true → is_under t (nearest t.stand t.up n j) c ≡ is_under t j c
  under-nearest zero j c is on sc = refl
  under-nearest (suc n) j c is on sc = grind (arith, reaches-step, up_levels, eqb-apart, under-nearest n)

  top_stands : (j : ℕ) (o : Option ℕ) → t.up j ≡ o → t.level j ≡ 0 → t.there j ≡ true → t.stand j ≡ true
  top_stands j None none low on = grind (arith, w.rooted)
  top_stands j (Some p) above low on = absurd (omega (arith, up_levels t w.levels j p above))

  pub nearest_stands : (n j : ℕ) → t.level j ≡ n → t.there j ≡ true → t.stand (nearest t.stand t.up n j) ≡ true
  nearest_stands zero j is on = top_stands j (t.up j) refl is on
  nearest_stands (suc n) j is on = grind (arith, up_levels, nearest_stands n)

  module _ (limits : ℕ → Option ℕ) (children : List (Option ℕ)) (ids : List (ℕ × ℕ)) (l : IsListed t children ids) where
    pub ids-same : (s c : ℕ) → t.stand s ≡ true → t.stand c ≡ true → (t.id s == t.id c) ≡ (s == c)
    ids-same s c ss sc = grind (arith, cases_eq, eq-eqb, eqb-apart, same_key)

    abbrev above_id : ℕ → Option ℕ
    above_id = parent_control (map (control_in t limits) ids)

    -- the way up by ids is the way up by keys
    pub contains-climb : (n s c : ℕ) → t.stand s ≡ true → t.stand c ≡ true → contains (climb above_id (suc n) (t.id s)) (t.id c) ≡ reaches t.up n s c
    unfolding climb
    contains-climb zero s c ss sc = grind (arith, ids-same, or_false)
    contains-climb (suc n) s c ss sc = grind (arith, ids-same, parent-is t limits children ids l, contains-climb n)

    pub below-is : (s c : ℕ) → t.stand s ≡ true → t.stand c ≡ true → is_below (map (control_in t limits) ids) (t.id s) (t.id c) ≡ is_under t s c
    unfolding control_path
    below-is s c ss sc = contains-climb 64 s c ss sc ∙ reaches-more 64 s c (w.deep s)

    -- the tasks of a key that are below a control group
    pub below-seen : (k c : ℕ) (o : Option Node) → (is_some o ≡ true → t.there k ≡ true) → t.stand c ≡ true
        → tasks_below (map (control_in t limits) ids) (t.id c) (option_and_then (home_of_node t k) o) ≡ (if is_under t k c then option_map_or (λ n. n.live + n.zombies) o 0 else 0)
    below-seen k c o on sc = grind (arith, below-is, nearest_stands, under-nearest, kept_cases)

-- the running count is the model's
pub count-is : (nodes : Slab Node) (children : List (Option ℕ)) (ids : List (ℕ × ℕ)) → IsNodeTree (tree_of nodes) → IsListed (tree_of nodes) children ids
    → (c : ℕ) → (tree_of nodes).stand c ≡ true → charged_count (charges_of nodes ids) ((tree_of nodes).id c) ≡ total_in nodes c
count-is nodes children ids w l c sc =
    let t = tree_of nodes in
    let controls = (charges_of nodes ids).controls in
    sum-seen nodes ids (tasks_below controls (t.id c)) (λ k. if is_under t k c then tasks_in nodes k else 0)
    (λ k. ap (tasks_below controls (t.id c)) (home_at-is nodes ids k) ∙ below-seen t w (limit_in nodes) children ids l k c (get nodes k) (λ e. e) sc)
