-- The way up from a key: what a step leaves of it.
use Rattle.std.proofs.Common.{◌≡◌, ℕ, zero, suc, ◌+◌, ◌-◌, ◌<◌, ◌≤◌, ◌==◌, Bool, true, false, ◌||◌, if◌then◌else◌, Option, Some, None, option_and_then, refl, sym, ap, ◌∙◌, arith, List, set, length}
use Rattle.pids_charge.proofs.Words.{cases_eq, eq-eqb, eqb-true, get_or-set_other, get_or-set_same, option_map_or, Slab, get, counter_at, total_at, HasLevels}
use Rattle.pids_charge.proofs.Words.{TreeOfNodes, is_under, left, reaches, tree_of, weight, Counter, Node}
pub use Rattle.std.proofs.lemmas.Bool.{ne_eqb as eqb-apart}

abbrev pub one_if : Bool → ℕ
one_if b = if b then 1 else 0

pub eqb-self : (k : ℕ) → (k == k) ≡ true
eqb-self k = eq-eqb k k refl

module _ (up : ℕ → Option ℕ) (lv : ℕ → ℕ) (levels : (j p : ℕ) → up j ≡ Some p → lv j ≡ suc (lv p)) where
  pub reaches-self : (n k : ℕ) → reaches up n k k ≡ true
  reaches-self n k = grind (arith, eqb-self)

  pub reaches-step : (j p k : ℕ) → up j ≡ Some p → reaches up (lv j) j k ≡ ((j == k) || reaches up (lv p) p k)
  reaches-step j p k above = rw (levels j p above) (rw above refl)

  pub reaches-top : (n j k : ℕ) → up j ≡ None → reaches up n j k ≡ (j == k)
  reaches-top n j k none = grind arith

  -- who is above has a lower level
  pub reaches_low : (n j k : ℕ) → lv j ≡ n → reaches up n j k ≡ true → lv k ≤ n
  reaches_low zero j k is on = let e : j ≡ k = eqb-true j k on in omega (arith, is, ap lv e)
  reaches_low (suc n) j k is on = grind (arith, eqb-true, reaches_low n)

  -- what a key adds to itself, and then to those above
  pub one-step : (j k : ℕ) → one_if (reaches up (lv j) j k) ≡ one_if (j == k) + option_map_or (λ p. one_if (reaches up (lv p) p k)) (up j) 0
  one-step j k = grind (arith, eqb-true, reaches_low, reaches-top, reaches-step)

pub up_levels : (t : TreeOfNodes) → HasLevels t → (j p : ℕ) → t.up j ≡ Some p → t.level j ≡ suc (t.level p)
up_levels t w j p above = (w j p above).1

pub weight-self : (t : TreeOfNodes) (k : ℕ) → HasLevels t → is_under t k k ≡ true
weight-self t k w = reaches-self t.up t.level (up_levels t w) (t.level k) k

pub up-is : (nodes : Slab Node) (a : ℕ) (n : Node) → get nodes a ≡ Some n → (tree_of nodes).up a ≡ n.parent
up-is nodes a n is = ap (option_and_then (λ (x : Node). x.parent)) is

pub level-is : (nodes : Slab Node) (a : ℕ) (n : Node) → get nodes a ≡ Some n → (tree_of nodes).level a ≡ n.level
level-is nodes a n is = ap (λ o. option_map_or (λ (x : Node). x.level) o 0) is

-- a walk visits a key and goes on from its parent
pub left-step : (t : TreeOfNodes) → HasLevels t → (at : Option ℕ) (a : ℕ) (next : Option ℕ) → at ≡ Some a → next ≡ t.up a → (k : ℕ) → left t at k ≡ one_if (a == k) + left t next k
left-step t w at a next is above k =
    ap (λ o. left t o k) is ∙ one-step t.up t.level (up_levels t w) a k ∙ ap (λ o. one_if (a == k) + left t o k) (sym above)

-- the walk comes nearer to the root
pub left_smaller : (t : TreeOfNodes) → HasLevels t → (at : Option ℕ) (a : ℕ) (next : Option ℕ) → at ≡ Some a → next ≡ t.up a
    → option_map_or (λ p. suc (t.level p)) next 0 < option_map_or (λ p. suc (t.level p)) at 0
left_smaller t w at a next is above = grind (arith, up_levels)

-- another total at one key
pub set-plus : (xs : List Counter) (a k : ℕ) (x : Counter) → a < length xs → x ≡ counter_at xs a → total_at (set xs a (record x { total = x.total + 1 })) k ≡ total_at xs k + one_if (a == k)
set-plus xs a k x lt is = grind (arith, cases_eq, get_or-set_same, eqb-self, get_or-set_other, eqb-apart)

pub set-minus : (xs : List Counter) (a k : ℕ) (x : Counter) → a < length xs → x ≡ counter_at xs a → 0 < x.total → total_at (set xs a (record x { total = x.total - 1 })) k + one_if (a == k) ≡ total_at xs k
set-minus xs a k x lt is some = grind (arith, cases_eq, get_or-set_same, eqb-self, get_or-set_other, eqb-apart)

pub one-own : (t : TreeOfNodes) → HasLevels t → (at : Option ℕ) (a : ℕ) → at ≡ Some a → left t at a ≡ 1
one-own t w at a is = rw (is, weight-self t a w) refl

pub weight_true : (t : TreeOfNodes) (j k : ℕ) → 1 ≤ weight t j k → is_under t j k ≡ true
weight_true t j k some = grind arith

pub weight_one : (t : TreeOfNodes) (j k : ℕ) → is_under t j k ≡ true → weight t j k ≡ 1
weight_one t j k is = ap one_if is

-- the same of a way that goes on, and of one that ends
pub weight-step : (t : TreeOfNodes) → HasLevels t → (a p k : ℕ) → t.up a ≡ Some p → weight t a k ≡ one_if (a == k) + weight t p k
weight-step t w a p k is = left-step t w (Some a) a (Some p) refl (sym is) k

pub weight-top : (t : TreeOfNodes) → HasLevels t → (a k : ℕ) → t.up a ≡ None → weight t a k ≡ one_if (a == k)
weight-top t w a k is = grind (arith, left-step t w (Some a) a None refl (sym is) k)

-- the way up leads to lower levels
pub under_low : (t : TreeOfNodes) → HasLevels t → (a b : ℕ) → is_under t a b ≡ true → t.level b ≤ t.level a
under_low t w a b under = reaches_low t.up t.level (up_levels t w) (t.level a) a b refl under

-- no way comes to a node that is deeper
pub none_deeper : (t : TreeOfNodes) → HasLevels t → (a b : ℕ) → t.level a < t.level b → weight t a b ≡ 0
none_deeper t w a b less = go (is_under t a b) refl
  where
    go : (v : Bool) → is_under t a b ≡ v → weight t a b ≡ 0
    go true e = absurd (let low = under_low t w a b e in omega (arith, low, less))
    go false e = ap one_if e

-- nor to another one of the same level
pub none_beside : (t : TreeOfNodes) → HasLevels t → (a b : ℕ) → t.level a ≡ t.level b → (a ≡ b → ⊥) → weight t a b ≡ 0
none_beside t w a b same apart = go (t.up a) refl
  where
    other : one_if (a == b) ≡ 0
    other = ap one_if (eqb-apart a b apart)

    go : (up : Option ℕ) → t.up a ≡ up → weight t a b ≡ 0
    go None is = omega (arith, weight-top t w a b is, other)
    go (Some p) is = omega (arith, weight-step t w a p b is, other, none_deeper t w p b (omega (arith, (w a p is).1, same)))
