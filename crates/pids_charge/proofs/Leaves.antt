-- Nodes with one that nothing is below, and without it.
use Rattle.std.proofs.Common.{◌≡◌, ◌≢◌, ◌⊎◌, ℕ, zero, suc, ◌+◌, ◌<◌, ◌≤◌, Bool, true, false, Option, Some, None, is_some, length, refl, sym, ap, subst, ◌∙◌, arith}
use Rattle.pids_charge.proofs.Words.{cases_eq, eqb-true, le-ltb, or_from, or_right, option_map_or, ContainsKey, Slab, Updates, get, DropsEmpty}
use Rattle.pids_charge.proofs.Words.{AreTotals, nearest, HasLevels, IsNodeTree, TreeOfNodes, all_in, is_under, left, reaches, tasks_in, total_in, tree_of, weight, Node}
use Rattle.pids_charge.proofs.Climbs.{one_if, up_levels, reaches-step, reaches-self, reaches_low, eqb-apart, left-step, up-is}
use Rattle.pids_charge.proofs.Sums.{sum_le}
use Rattle.pids_charge.proofs.Changed.{share, field-other, all-changed, total-changed}
use Rattle.pids_charge.proofs.Views.{home_in, kept_cases}
use Rattle.pids_charge.proofs.Written.{reaches_stand, own_total}

-- the way up goes on
under_trans : (t : TreeOfNodes) → HasLevels t → (n i j k : ℕ) → t.level i ≡ n → is_under t i j ≡ true → is_under t j k ≡ true → is_under t i k ≡ true
under_trans t w n i j k is below on = go n i is (subst (λ m. reaches t.up m i j ≡ true) is below)
  where
    go : (n i : ℕ) → t.level i ≡ n → reaches t.up n i j ≡ true → is_under t i k ≡ true
    go zero i is below = ap (λ x. is_under t x k) (eqb-true i j below) ∙ on
    go (suc n) i is below = grind (arith, eqb-true, up_levels, reaches-step, or_right, go n)

-- a total is at most that of who is above
pub total_under : (nodes : Slab Node) → HasLevels (tree_of nodes) → (j k : ℕ) → is_under (tree_of nodes) j k ≡ true → total_in nodes j ≤ total_in nodes k
total_under nodes w j k below = sum_le (length nodes.slots) (share nodes j) (share nodes k) part
  where
    part : (i : ℕ) → share nodes j i ≤ share nodes k i
    part i = let more = under_trans (tree_of nodes) w ((tree_of nodes).level i) i j k refl in grind arith

module _ {big small : Slab Node} {a : ℕ} (gone : Updates big small a None) (leaf : (j : ℕ) → (tree_of big).up j ≢ Some a) where
  reaches-leaf : (n j k : ℕ) → j ≢ a → reaches (tree_of small).up n j k ≡ reaches (tree_of big).up n j k
  reaches-leaf zero j k differs = refl
  reaches-leaf (suc n) j k differs = grind (arith, reaches-leaf n)

  pub under-leaf : (j k : ℕ) → j ≢ a → is_under (tree_of small) j k ≡ is_under (tree_of big) j k
  under-leaf j k differs =
      ap (λ n. reaches (tree_of small).up n j k) (field-other gone (λ o. option_map_or (λ n. n.level) o 0) j differs)
      ∙ reaches-leaf ((tree_of big).level j) j k differs

  nearest-leaf : (n j : ℕ) → j ≢ a → (nearest (tree_of small).stand (tree_of small).up n j ≡ nearest (tree_of big).stand (tree_of big).up n j) × (nearest (tree_of big).stand (tree_of big).up n j ≢ a)
  nearest-leaf zero j differs = (refl, differs)
  nearest-leaf (suc n) j differs = grind (arith, nearest-leaf n)

  pub seen-leaf : (j : ℕ) → j ≢ a → home_in small j ≡ home_in big j
  seen-leaf j differs = grind (arith, nearest-leaf)

  pub IsTree-less : IsNodeTree (tree_of big) → IsNodeTree (tree_of small)
  IsTree-less w = grind (arith, cases_eq)

  module _ (empty : tasks_in big a ≡ 0) where
    none_left : tasks_in small a ≡ 0
    none_left = ap (λ o. option_map_or (λ (n : Node). n.live + n.zombies) o 0) gone.changed

    pub all-leaf : all_in small ≡ all_in big
    all-leaf = omega (arith, all-changed gone, empty, none_left)

    pub total-leaf : (k : ℕ) → total_in small k ≡ total_in big k
    total-leaf k = let e = total-changed gone k (λ j differs. under-leaf j k differs) in grind (arith, none_left)

pub up_there : (nodes : Slab Node) (j p : ℕ) → (tree_of nodes).up j ≡ Some p → ContainsKey nodes j
up_there nodes j p above = grind arith

-- a walk up that drops what is empty comes to a node
pub record Visits (nodes : Slab Node) (totals : ℕ → ℕ) (at : Option ℕ) (a : ℕ) (n : Node) : Type 0 where
  pub tree : IsNodeTree (tree_of nodes)
  pub counted : AreTotals nodes totals at
  pub is : at ≡ Some a
  pub found : get nodes a ≡ Some n

module _ {nodes : Slab Node} {totals : ℕ → ℕ} {at : Option ℕ} {a : ℕ} {n : Node} (visits : Visits nodes totals at a n) where
  open visits use {tree as w, counted, is, found}

  standing_is : (tree_of nodes).stand a ≡ n.standing
  standing_is = ap (λ o. option_map_or (λ (x : Node). x.standing) o false) found

  left_is : (k : ℕ) → left (tree_of nodes) at k ≡ weight (tree_of nodes) a k
  left_is k = ap (λ o. left (tree_of nodes) o k) is

  -- the walk may stop where a node stands or has tasks
  pub settled : (n.standing ≡ true) ⊎ (0 < totals a) → AreTotals nodes totals None
  settled why = record { counts = counted.counts; filled = λ k on lies none. go k on lies (is_under (tree_of nodes) a k) refl; ended = counted.ended; few = counted.few }
    where
      go : (k : ℕ) → ContainsKey nodes k → (tree_of nodes).stand k ≡ false → (b : Bool) → is_under (tree_of nodes) a k ≡ b → 0 < total_in nodes k
      go k on lies b e =
          let stands = reaches_stand (tree_of nodes) w ((tree_of nodes).level a) a k in
          let own = counted.counts a (ap is_some found) in
          let more = total_under nodes w.levels a k in
          grind (arith, standing_is, left_is, one_if, counted.filled k on lies)

  module _ (lies : n.standing ≡ false) (none : totals a ≡ 0) where
    no_total : total_in nodes a ≡ 0
    no_total = sym (counted.counts a (ap is_some found)) ∙ none

    -- nothing is below what has no tasks and does not stand
    pub bare_leaf : (j : ℕ) → (tree_of nodes).up j ≢ Some a
    bare_leaf j above = go ((tree_of nodes).stand j) refl
      where
        off : (b : Bool) → is_under (tree_of nodes) a j ≡ b → left (tree_of nodes) at j ≡ 0
        off b e = grind (
          arith,
          left_is,
          one_if,
          reaches_low (tree_of nodes).up (tree_of nodes).level (up_levels (tree_of nodes) w.levels) ((tree_of nodes).level a) a j refl,
          up_levels (tree_of nodes) w.levels j a above,
        )

        go : (b : Bool) → (tree_of nodes).stand j ≡ b → ⊥
        go b e = grind (arith, above, standing_is, up_there, off, reaches-step, up_levels, or_right, reaches-self, total_under, no_total)

    own_none : tasks_in nodes a ≡ 0
    own_none = grind (arith, own_total, found, reaches-self, up_levels, no_total)

    not_seen : home_in nodes a ≡ None
    not_seen = grind (arith, found, kept_cases, or_from, le-ltb, own_none)

    module _ (new : Slab Node) (updates : Updates nodes new a None) where
      pub IsTree-dropped : IsNodeTree (tree_of new)
      IsTree-dropped = IsTree-less updates bare_leaf w

      not_a : (k : ℕ) → ContainsKey new k → k ≢ a
      not_a k on e = let h = ap (λ i. is_some (get new i)) e ∙ ap is_some updates.changed in cc

      kept_there : (k : ℕ) → ContainsKey new k → ContainsKey nodes k
      kept_there k on = ap is_some (sym (updates.others k (not_a k on))) ∙ on

      pub IsCounted-dropped : AreTotals new totals n.parent
      IsCounted-dropped = record {
        counts = λ k on. counted.counts k (kept_there k on) ∙ sym (total-leaf updates bare_leaf own_none k);
        filled = λ k on down past. rw (total-leaf updates bare_leaf own_none k)
            (counted.filled k (kept_there k on) (sym (ap (λ o. option_map_or (λ (x : Node). x.standing) o false) (updates.others k (not_a k on))) ∙ down) (passed k (not_a k on) past));
        ended = grind (arith, cases_eq);
        few = rw (all-leaf updates bare_leaf own_none) counted.few;
      }
        where
          passed : (k : ℕ) → k ≢ a → left (tree_of new) n.parent k ≡ 0 → left (tree_of nodes) at k ≡ 0
          passed k differs past = grind (arith, past, left-step, is, up-is, found, one_if, eqb-apart, bare_leaf, under-leaf)

      pub all-dropped : all_in new ≡ all_in nodes
      all-dropped = all-leaf updates bare_leaf own_none

      pub drops : (init : Slab Node) → DropsEmpty init nodes → DropsEmpty init new
      drops init d = grind (arith, cases_eq, standing_is, home_in, not_seen, seen-leaf updates bare_leaf, kept_there)

      pub next_there : (p : ℕ) → n.parent ≡ Some p → ContainsKey new p
      next_there p e = grind (arith, found, bare_leaf)

      pub next_lower : option_map_or (λ p. suc ((tree_of new).level p)) n.parent 0 < option_map_or (λ p. suc ((tree_of nodes).level p)) at 0
      next_lower = grind (arith, is, found, bare_leaf, up_levels)
