-- The limits and parents that the counters have of the nodes: kept where nodes and counters change.
use Rattle.pids_charge.proofs.Words.{List, None, Some, ap, arith, is_some, length, refl, set, ℕ, ◌<◌, ◌≡◌, ◌≢◌, ◌≤◌, cases_eq, get_or-set_other}
use Rattle.pids_charge.proofs.Words.{get_or-set_same, length-set, ContainsKey, Slab, Updates, get, AreLinked, IsCounterOf, counter_at, Counter, Node}

-- a node and a counter change at one key
pub linked-changed : (nodes new : Slab Node) (counters after : List Counter) (a : ℕ) → AreLinked nodes counters → ((k : ℕ) → k ≢ a → get new k ≡ get nodes k)
    → ((k : ℕ) → k ≢ a → counter_at after k ≡ counter_at counters k) → length counters ≤ length after → (ContainsKey new a → IsCounterOf new after a) → AreLinked new after
linked-changed nodes new counters after a w others same longer here k on = grind (arith, cases_eq)

-- a node is written, and keeps its limit and its parent
pub linked-written : {nodes new : Slab Node} {a : ℕ} {n m : Node} (counters : List Counter) → AreLinked nodes counters → get nodes a ≡ Some n
    → Updates nodes new a (Some m) → m.limit ≡ n.limit → m.parent ≡ n.parent → AreLinked new counters
linked-written counters w found u limit parent = grind (arith, linked-changed)

-- a node goes
pub linked-dropped : (nodes new : Slab Node) (counters : List Counter) → AreLinked nodes counters → (a : ℕ) → Updates nodes new a None → AreLinked new counters
linked-dropped nodes new counters w a u = linked-changed nodes new counters counters a w u.others (λ k d. refl) (omega arith) (λ on. absurd (let h = ap is_some u.changed in cc))

module _ (counters : List Counter) (a : ℕ) (c : Counter) (room : a < length counters) where
  pub counter-here : counter_at (set counters a c) a ≡ c
  counter-here = get_or-set_same counters a c (record { total = 0; limit = None; parent = None }) room

  pub counter-others : (k : ℕ) → k ≢ a → counter_at (set counters a c) k ≡ counter_at counters k
  counter-others k d = get_or-set_other counters a k c (record { total = 0; limit = None; parent = None }) d

  still : a < length (set counters a c)
  still = let l = length-set counters a c in omega (arith, l, room)

  -- a counter is written, and keeps its limit and its parent
  pub linked-counted : (nodes : Slab Node) → AreLinked nodes counters → c.limit ≡ (counter_at counters a).limit → c.parent ≡ (counter_at counters a).parent → AreLinked nodes (set counters a c)
  linked-counted nodes w limit parent = grind (arith, linked-changed, counter-others, length-set, still, counter-here)

  -- a node is written with its counter
  pub linked-both : (nodes new : Slab Node) (before : List Counter) → AreLinked nodes before → ((k : ℕ) → counter_at counters k ≡ counter_at before k) → length before ≤ length counters
      → (n : Node) → Updates nodes new a (Some n) → c.limit ≡ n.limit → c.parent ≡ n.parent → AreLinked new (set counters a c)
  linked-both nodes new before w same longer n u limit parent = grind (arith, linked-changed, counter-others, length-set, still, counter-here)
