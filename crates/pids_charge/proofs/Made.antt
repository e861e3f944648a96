-- One more control group.
use Rattle.std.proofs.Common.{◌≡◌, ◌≢◌, ℕ, zero, suc, ◌+◌, ◌<◌, ◌≤◌, Bool, true, false, if◌then◌else◌, Option, Some, None, option_map, option_and_then, is_some, List, [], ◌∷◌, ◌++◌, length, set, map, sym, ap, subst, ◌∙◌, arith}
use Rattle.pids_charge.proofs.Words.{cases_eq, get_or-set_other, get_or-set_same, AllByRecursion, option_map_or, key_of-new, key_of-push, AreBelow, owner_of}
use Rattle.pids_charge.proofs.Words.{climb, parent_control, control_path, Control, ContainsKey, Slab, Updates, get, AreTotals, IsKeyOfId, IsChargeTree, IsListed}
use Rattle.pids_charge.proofs.Words.{listed_parent, control_in, counter_at, limit_in, home_of_node, total_at, IsNodeTree, TreeOfNodes, all_in, tasks_in, total_in, tree_of, Counter}
use Rattle.pids_charge.proofs.Words.{Node}
use Rattle.pids_charge.proofs.Linked as linked
use Rattle.pids_charge.proofs.Climbs.{up_levels}
use Rattle.pids_charge.proofs.Sums.{sum-zero}
use Rattle.pids_charge.proofs.Words.{Charges, charges_of, home_id, stands}
use Rattle.pids_charge.specs.declared.Controls.TheInside.{Inside}
use Rattle.pids_charge.proofs.Views.{home_in, parent-is, there, nearest-self, kept_standing, stand_in, id_in}
use Rattle.pids_charge.proofs.Written.{reaches_there}
use Rattle.pids_charge.proofs.Changed.{share}
use Rattle.pids_charge.proofs.Leaves as leaves

abbrev control : ℕ → Option ℕ → Option ℕ → Control
control i parent limit = record { id = i; parent = parent; limit = limit }

-- the ids of the control groups are below what they are below
pub below-ids : (t : TreeOfNodes) (limits : ℕ → Option ℕ) (bound : ℕ) (ids : List (ℕ × ℕ)) → AllByRecursion (λ (g : Control). g.id < bound) (map (control_in t limits) ids) → AreBelow ids bound
below-ids t limits bound [] all = tt
below-ids t limits bound (p ∷ ids) all = (all.0, below-ids t limits bound ids all.1)

-- memory alone
pub IsKept-room : (nodes mid : Slab Node) (x : ℕ) → mid ≡ record nodes { capacity = x } → (counters after : List Counter) (children more : List (Option ℕ)) (ids : List (ℕ × ℕ)) → IsChargeTree nodes counters children ids
    → ((k : ℕ) → counter_at after k ≡ counter_at counters k) → ((k : ℕ) → owner_of more k ≡ owner_of children k) → length counters ≤ length after → length children ≤ length more → length more ≤ 1073741824
    → IsChargeTree mid after more ids
IsKept-room nodes mid x e counters after children more ids w same owners longer bigger small = subst (λ s. IsChargeTree s after more ids) (sym e) (record {
  tree = w.tree;
  counted = record { counts = λ k on. ap (λ (c : Counter). c.total) (same k) ∙ w.counted.counts k on; filled = w.counted.filled; ended = w.counted.ended; few = w.counted.few };
  linked = grind (arith, linked.linked-changed);
  listed = record { owners = λ k. owners k ∙ w.listed.owners k; entries = w.listed.entries; listed = w.listed.listed };
  room = λ k on. let r = w.room k on in omega (arith, r, bigger);
  small = small;
})

pub updates-from : (nodes mid new : Slab Node) (x k : ℕ) (slot : Option Node) → mid ≡ record nodes { capacity = x } → Updates mid new k slot → Updates nodes new k slot
updates-from nodes mid new x k slot e u = record { changed = u.changed; others = λ j d. u.others j d ∙ ap (λ (s : Slab Node). get s j) e }

module _ (nodes : Slab Node) (children : List (Option ℕ)) (ids : List (ℕ × ℕ)) (w : IsNodeTree (tree_of nodes)) (l : IsListed (tree_of nodes) children ids) where
  abbrev above_id : ℕ → Option ℕ
  above_id = parent_control (map (control_in (tree_of nodes) (limit_in nodes)) ids)

  length-climb : (n s : ℕ) → (tree_of nodes).stand s ≡ true → (tree_of nodes).level s ≤ n → length (climb above_id (suc n) ((tree_of nodes).id s)) ≡ suc ((tree_of nodes).level s)
  unfolding climb
  length-climb zero s up low = grind arith
  length-climb (suc n) s up low = grind (arith, up_levels, parent-is (tree_of nodes) (limit_in nodes) children ids l, length-climb n)

  pub length-path : (s : ℕ) → (tree_of nodes).stand s ≡ true → length (control_path (map (control_in (tree_of nodes) (limit_in nodes)) ids) ((tree_of nodes).id s)) ≡ suc ((tree_of nodes).level s)
  unfolding control_path
  length-path s up = length-climb 64 s up (w.deep s)

-- the path of a control group that stands is as long as its level says
pub long-path : (s : Inside) {v : Charges} → charges_of s.nodes s.ids ≡ v → IsNodeTree (tree_of s.nodes) → IsListed (tree_of s.nodes) s.children s.ids → (c : ℕ) → stands v c ≡ true
    → length (control_path v.controls (home_id v c)) ≡ suc ((tree_of s.nodes).level c)
long-path s {v} is w l c on =
    ap (λ i. length (control_path v.controls i)) (id_in s is c on) ∙ sym (ap (λ (x : Charges). length (control_path x.controls ((tree_of s.nodes).id c))) is)
    ∙ length-path s.nodes s.children s.ids w l c (stand_in s is c on)

-- the node of a new control group
abbrev pub node : ℕ → ℕ → ℕ → Node
node id q level = record { id = id; parent = Some q; limit = None; level = level; standing = true; live = 0; zombies = 0 }

-- a control group with the id is made at key a, below that of key q
pub record Makes (nodes new : Slab Node) (a q id level : ℕ) : Type 0 where
  pub old : get nodes a ≡ None
  pub updates : Updates nodes new a (Some (node id q level))
  pub tree : IsNodeTree (tree_of nodes)
  pub stands : (tree_of nodes).stand q ≡ true
  pub next : level ≡ (tree_of nodes).level q + 1
  pub low : level ≤ 64

module _ {nodes new : Slab Node} {a q id level : ℕ} (makes : Makes nodes new a q id level) where
  open makes use {old, updates, tree as w, stands as q_up, next, low}

  q_apart : q ≢ a
  q_apart e = let h = ap (tree_of nodes).stand e ∙ ap (λ o. option_map_or (λ (x : Node). x.standing) o false) old in cc

  not_up : (j : ℕ) → (tree_of nodes).up j ≢ Some a
  not_up j e = let h = (w.levels j a e).0 in let g = ap is_some old in cc

  up_a : (tree_of new).up a ≡ Some q
  up_a = ap (option_and_then (λ (x : Node). x.parent)) updates.changed

  pub leaf : (j : ℕ) → (tree_of new).up j ≢ Some a
  leaf j e = grind (arith, cases_eq, q_apart, up_a, not_up)

  back : Updates new nodes a None
  back = record { changed = old; others = λ j d. sym (updates.others j d) }

  empty : tasks_in new a ≡ 0
  empty = ap (λ o. option_map_or (λ (x : Node). x.live + x.zombies) o 0) updates.changed

  total-made : (k : ℕ) → total_in new k ≡ total_in nodes k
  total-made k = sym (leaves.total-leaf back leaf empty k)

  pub all-made : all_in new ≡ all_in nodes
  all-made = sym (leaves.all-leaf back leaf empty)

  -- who is not there has no tasks below
  none_below : total_in nodes a ≡ 0
  none_below = sum-zero (length nodes.slots) (share nodes a) (λ j. none j)
    where
      none : (j : ℕ) → share nodes a j ≡ 0
      none j = let above = reaches_there (tree_of nodes) w.levels ((tree_of nodes).level j) j a in grind arith

  stand_a : (tree_of new).stand a ≡ true
  stand_a = ap (λ o. option_map_or (λ (x : Node). x.standing) o false) updates.changed

  pub IsTree-made : IsNodeTree (tree_of new)
  IsTree-made = grind (arith, cases_eq, up_a, there, q_apart, q_up, next, leaf, low, stand_a)

  pub IsCounted-made : (counters : List Counter) → AreTotals nodes (total_at counters) None → (after : List Counter) → ((k : ℕ) → counter_at after k ≡ counter_at counters k) → (c : Counter) → c.total ≡ 0 → a < length after
      → AreTotals new (total_at (set after a c)) None
  IsCounted-made counters counted after kept_at c zero_is room =
      grind (arith, cases_eq, linked.counter-here, total-made, none_below, linked.counter-others, stand_a, all-made)

  module _ (children : List (Option ℕ)) (ids : List (ℕ × ℕ)) (l : IsListed (tree_of nodes) children ids) where
    entry_apart : (p : ℕ × ℕ) → IsKeyOfId (tree_of nodes) p → p.1 ≢ a
    entry_apart p e s = let h = sym (e.0) ∙ ap (tree_of nodes).stand s ∙ ap (λ o. option_map_or (λ (x : Node). x.standing) o false) old in cc

    entries_made : (ps : List (ℕ × ℕ)) → AllByRecursion (IsKeyOfId (tree_of nodes)) ps → AllByRecursion (IsKeyOfId (tree_of new)) (ps ++ (id, a) ∷ [])
    entries_made [] all = grind (arith, stand_a)
    entries_made (p ∷ ps) all = let d = entry_apart p all.0 in grind (arith, entries_made ps)

    pub IsListed-made : AreBelow ids id → (more : List (Option ℕ)) → ((k : ℕ) → owner_of more k ≡ owner_of children k) → a < length more → IsListed (tree_of new) (set more a (Some q)) (ids ++ (id, a) ∷ [])
    IsListed-made below more kept_at room = record {
      owners = grind (arith, cases_eq, get_or-set_same, stand_a, up_a, get_or-set_other);
      entries = entries_made ids l.entries;
      listed = grind (arith, cases_eq, key_of-new ids id a below, key_of-push);
    }

    pub controls-made : map (control_in (tree_of new) (limit_in new)) (ids ++ (id, a) ∷ []) ≡ map (control_in (tree_of nodes) (limit_in nodes)) ids ++ (let g : Control = record { id = id; parent = Some ((tree_of nodes).id q); limit = None } in g) ∷ []
    controls-made = go ids l.entries
      where
        last : control_in (tree_of new) (limit_in new) (id, a) ≡ control id (Some ((tree_of nodes).id q)) None
        last = grind (arith, up_a, q_apart)

        up : (k : ℕ) → (o : Option ℕ) → (tree_of nodes).up k ≡ o → option_map (tree_of new).id o ≡ option_map (tree_of nodes).id o
        up k o e = grind (arith, not_up)

        entry : (p : ℕ × ℕ) → IsKeyOfId (tree_of nodes) p → control_in (tree_of new) (limit_in new) p ≡ control_in (tree_of nodes) (limit_in nodes) p
        entry p e = grind (arith, entry_apart, up)

        go : (ps : List (ℕ × ℕ)) → AllByRecursion (IsKeyOfId (tree_of nodes)) ps
            → map (control_in (tree_of new) (limit_in new)) (ps ++ (id, a) ∷ [])
            ≡ map (control_in (tree_of nodes) (limit_in nodes)) ps ++ control id (Some ((tree_of nodes).id q)) None ∷ []
        go [] all = ap (λ g. g ∷ []) last
        go (p ∷ ps) all = let here = entry p all.0 in let rest = go ps all.1 in cc

  pub home-made : home_in new a ≡ Some (record { id = id; stands = true; live = 0; zombies = 0 })
  home-made = grind (arith, kept_standing, nearest-self, stand_a)

  pub home-others : (k : ℕ) → k ≢ a → home_in new k ≡ home_in nodes k
  home-others k d = sym (leaves.seen-leaf back leaf k d)

  pub room-made : (children : List (Option ℕ)) → ((k : ℕ) → ContainsKey nodes k → k < length children) → (more : List (Option ℕ)) → length children ≤ length more → a < length more → (k : ℕ) → ContainsKey new k → k < length more
  room-made children rooms more bigger lists k on = grind (arith, cases_eq)

pub home-none : (nodes : Slab Node) (k : ℕ) → get nodes k ≡ None → home_in nodes k ≡ None
home-none nodes k old = ap (option_and_then (home_of_node (tree_of nodes) k)) old

pub no_child : (nodes : Slab Node) (k : ℕ) → get nodes k ≡ None → listed_parent (tree_of nodes) k ≡ None
no_child nodes k old = ap (λ (b : Bool). if b then (tree_of nodes).up k else None) (ap (λ o. option_map_or (λ (x : Node). x.standing) o false) old)
