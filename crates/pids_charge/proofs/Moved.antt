-- A live task leaves a node and joins another: the totals are the counts again where those of the one lose it, and of the other win it.
use Rattle.pids_charge.proofs.Words.{None, arith, inl, ap, subst, sym, refl, true, false, ℕ, ◌+◌, ◌-◌, ◌<◌, ◌≡◌, ◌∙◌, if◌then◌else◌}
use Rattle.std.proofs.Common.{Bool, ◌^◌}
use Rattle.pids_charge.proofs.Words.{Slab, AreTotals, IsNodeTree, TreeOfNodes, all_in, is_under, tree_of, weight, Node}
use Rattle.pids_charge.proofs.Written.{Writes, IsCounted-written, all-written, has_room, has_some, part, tree-same}

-- a node with one live task less
abbrev pub one_less : Node → Node
one_less n = record n { live = n.live - 1 }

-- and one with one more
abbrev pub one_more : Node → Node
one_more n = record n { live = n.live + 1 }

module _ {nodes mid new : Slab Node} {from to : ℕ} {n p : Node} (leaves : Writes nodes mid from n (one_less n)) (joins : Writes mid new to p (one_more p)) (some : 0 < n.live)
    {totals : ℕ → ℕ} (tree : IsNodeTree (tree_of nodes)) (counted : AreTotals nodes totals None) (stands : (tree_of nodes).stand from ≡ true) where
  -- a weight in the new tree is that in the old one
  same_under : (j k : ℕ) → is_under (tree_of new) j k ≡ is_under (tree_of mid) j k
  same_under j k = ap (λ (t : TreeOfNodes). is_under t j k) (tree-same joins)

  abbrev taken : ℕ → ℕ
  taken k = totals k - weight (tree_of mid) from k

  -- each count that the task is in has it
  pub has_task : (k : ℕ) → is_under (tree_of mid) from k ≡ true → 0 < totals k
  has_task k under = has_some leaves tree counted (omega (arith, some)) k under

  mid_tree : IsNodeTree (tree_of mid)
  mid_tree = subst (λ (t : TreeOfNodes). IsNodeTree t) (sym (tree-same leaves)) tree

  fewer : all_in mid + 1 ≡ all_in nodes
  fewer = omega (arith, all-written leaves, some)

  mid_counted : AreTotals mid taken None
  mid_counted = IsCounted-written leaves tree counted taken None moves (inl stands) (omega (arith, fewer, counted.few))
    where
      moves : (j : ℕ) → taken j + part leaves n j ≡ totals j + part leaves (one_less n) j
      moves j = go (is_under (tree_of mid) from j) refl
        where
          go : (b : Bool) → is_under (tree_of mid) from j ≡ b
              → totals j - (if b then 1 else 0) + (if b then n.live + n.zombies else 0) ≡ totals j + (if b then n.live - 1 + n.zombies else 0)
          go true e = let has = has_task j e in omega (arith, has, some)
          go false e = omega arith

  pub same_all : all_in new ≡ all_in nodes
  same_all = omega (arith, fewer, all-written joins)

  pub shift_some : (k : ℕ) → is_under (tree_of new) from k ≡ true → 0 < totals k
  shift_some k under = has_task k (sym (same_under from k) ∙ under)

  pub shift_few : (k : ℕ) → is_under (tree_of new) to k ≡ true → totals k + 1 < 2 ^ 64 + weight (tree_of new) from k
  shift_few k under =
      let room = has_room joins mid_tree mid_counted (omega (arith, fewer, counted.few)) k under in
      let same : weight (tree_of new) from k ≡ weight (tree_of mid) from k = ap {B = ℕ} (λ (b : Bool). if b then 1 else 0) (same_under from k) in
      omega (arith, room, same)

  pub moved_totals : (after : ℕ → ℕ) → ((k : ℕ) → after k + weight (tree_of new) from k ≡ totals k + weight (tree_of new) to k)
      → (tree_of nodes).stand to ≡ true → AreTotals new after None
  moved_totals after shifts joined =
      IsCounted-written joins mid_tree mid_counted after None moves (inl (ap (λ (t : TreeOfNodes). t.stand to) (tree-same leaves) ∙ joined)) (omega (arith, same_all, counted.few))
    where
      moves : (j : ℕ) → after j + part joins p j ≡ taken j + part joins (one_more p) j
      moves j = go (is_under (tree_of mid) from j) refl (is_under (tree_of new) to j) (ap {B = ℕ} (λ (b : Bool). if b then 1 else 0) (same_under from j)) (shifts j)
        where
          go : (a : Bool) → is_under (tree_of mid) from j ≡ a → (b : Bool) → weight (tree_of new) from j ≡ (if a then 1 else 0)
              → after j + weight (tree_of new) from j ≡ totals j + (if b then 1 else 0)
              → after j + (if b then p.live + p.zombies else 0) ≡ totals j - (if a then 1 else 0) + (if b then p.live + 1 + p.zombies else 0)
          go true e true w s = let has = has_task j e in omega (arith, has, w, s)
          go true e false w s = let has = has_task j e in omega (arith, has, w, s)
          go false e true w s = omega (arith, w, s)
          go false e false w s = omega (arith, w, s)
