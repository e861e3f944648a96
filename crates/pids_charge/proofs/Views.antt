-- What a contract sees of the nodes, by look-ups.
use Rattle.std.proofs.Common.{◌≡◌, ◌⊎◌, inl, inr, ℕ, zero, suc, ◌+◌, ◌<◌, true, false, Option, Some, None, option_map, option_and_then, is_some, IsSome, IfSome, MatchOption, List, [], ◌∷◌, get_or, length, map, refl, sym, ap, ◌∙◌, arith}
use Rattle.pids_charge.proofs.Words.{cases_lt, eqb-true, lt-ltb, sum_by, option_map_or, entry_of, key_of, control_at, parent_control, Control, ContainsKey}
use Rattle.pids_charge.proofs.Words.{Slab, get, Charges, Home, all_tasks, home_at, home_id, kept, live_at, stands, tasks_of, zombies_at, IsKeyOfId, IsListed}
use Rattle.pids_charge.proofs.Words.{charges_of, control_in, each, limit_in, nearest, home_of_node, IsNodeTree, TreeOfNodes, all_in, live_in, tasks_in, tree_of, zombies_in}
use Rattle.pids_charge.proofs.Words.{sum_below, Node}
use Rattle.pids_charge.specs.declared.Controls.TheInside.{Inside}
use Rattle.pids_charge.proofs.Sums.{sum-ext, sum_by-places}

pub get-each : {X Y : Type 0} (f : ℕ → Option X → Option Y) → ((j : ℕ) → f j None ≡ None) → (xs : List (Option X)) (i : ℕ) → get_or (each f xs) i None ≡ f i (get_or xs i None)
get-each f none [] i = sym (none i)
get-each f none (x ∷ xs) zero = refl
get-each f none (x ∷ xs) (suc i) = get-each (λ k. f (suc k)) (λ j. none (suc j)) xs i

pub length-each : {X Y : Type 0} (f : ℕ → X → Y) → (xs : List X) → length (each f xs) ≡ length xs
length-each f [] = refl
length-each f (x ∷ xs) = ap suc (length-each (λ k. f (suc k)) xs)

abbrev pub home_in : Slab Node → ℕ → Option Home
home_in nodes k = option_and_then (home_of_node (tree_of nodes) k) (get nodes k)

pub home_at-is : (nodes : Slab Node) (ids : List (ℕ × ℕ)) (k : ℕ) → home_at (charges_of nodes ids) k ≡ home_in nodes k
home_at-is nodes ids k = get-each (λ j slot. option_and_then (home_of_node (tree_of nodes) j) slot) (λ j. refl) nodes.slots k

-- a key is seen, or it stands not and has no tasks
pub kept_cases : (h : Home) → (kept h ≡ Some h) ⊎ ((kept h ≡ None) × (h.stands ≡ false) × (h.live + h.zombies ≡ 0))
kept_cases h = grind (arith, cases_lt, lt-ltb)

pub nearest-self : (t : TreeOfNodes) (n k : ℕ) → t.stand k ≡ true → nearest t.stand t.up n k ≡ k
nearest-self t n k is = grind arith

module _ (nodes : Slab Node) (ids : List (ℕ × ℕ)) where
  module _ (k : ℕ) where
    pub stands-is : stands (charges_of nodes ids) k ≡ (tree_of nodes).stand k
    stands-is = let home = home_at-is nodes ids k in grind (arith, kept_cases)

    pub live-is : live_at (charges_of nodes ids) k ≡ live_in nodes k
    live-is = let home = home_at-is nodes ids k in grind (arith, kept_cases)

    pub zombies-is : zombies_at (charges_of nodes ids) k ≡ zombies_in nodes k
    zombies-is = let home = home_at-is nodes ids k in grind (arith, kept_cases)

    pub tasks-is : tasks_of (home_at (charges_of nodes ids) k) ≡ tasks_in nodes k
    tasks-is = let home = home_at-is nodes ids k in grind (arith, kept_cases)

    pub id-is : (tree_of nodes).stand k ≡ true → home_id (charges_of nodes ids) k ≡ (tree_of nodes).id k
    id-is is =
        let home = home_at-is nodes ids k in
        let key = nearest-self (tree_of nodes) ((tree_of nodes).level k) k is in
        grind (arith, kept_cases)

  -- a sum over what is seen is one over the keys
  pub sum-seen : (f : Option Home → ℕ) (g : ℕ → ℕ) → ((k : ℕ) → f (home_at (charges_of nodes ids) k) ≡ g k) → sum_by f (charges_of nodes ids).homes
      ≡ sum_below (length nodes.slots) g
  sum-seen f g same =
      sum_by-places f None (charges_of nodes ids).homes
      ∙ ap (λ n. sum_below n (λ k. f (home_at (charges_of nodes ids) k))) (length-each (λ k slot. option_and_then (home_of_node (tree_of nodes) k) slot) nodes.slots)
      ∙ sum-ext (length nodes.slots) (λ k. f (home_at (charges_of nodes ids) k)) g same

  pub all-is : all_tasks (charges_of nodes ids) ≡ all_in nodes
  all-is = sum-seen tasks_of (tasks_in nodes) tasks-is

-- who stands is there
pub there : (nodes : Slab Node) (k : ℕ) → (tree_of nodes).stand k ≡ true → ContainsKey nodes k
there nodes k is = grind arith

module _ (t : TreeOfNodes) (limits : ℕ → Option ℕ) where
  pub control-is : (ids : List (ℕ × ℕ)) (id : ℕ) → control_at (map (control_in t limits) ids) id ≡ option_map (λ k. control_in t limits (id, k)) (key_of ids id)
  control-is [] id = refl
  control-is (p ∷ ids) id = grind (arith, eqb-true, control-is ids id)

  module _ (children : List (Option ℕ)) (ids : List (ℕ × ℕ)) (w : IsListed t children ids) where
    pub same_key : (j c : ℕ) → t.stand j ≡ true → t.stand c ≡ true → t.id j ≡ t.id c → j ≡ c
    same_key j c sj sc same = grind arith

    pub found : (c : ℕ) → t.stand c ≡ true → control_at (map (control_in t limits) ids) (t.id c) ≡ Some (control_in t limits (t.id c, c))
    found c sc = control-is ids (t.id c) ∙ ap (option_map (λ k. control_in t limits (t.id c, k))) (w.listed c sc)

    pub parent-is : (c : ℕ) → t.stand c ≡ true → parent_control (map (control_in t limits) ids) (t.id c) ≡ option_map t.id (t.up c)
    parent-is c sc = ap (option_and_then (λ (g : Control). g.parent)) (found c sc)

    pub limit-is : (c : ℕ) → t.stand c ≡ true → option_and_then (λ (g : Control). g.limit) (control_at (map (control_in t limits) ids) (t.id c)) ≡ limits c
    limit-is c sc = ap (option_and_then (λ (g : Control). g.limit)) (found c sc)

pub field-is : {X : Type 0} (f : Node → X) (d : X) (nodes : Slab Node) (k : ℕ) (n : Node) → get nodes k ≡ Some n → option_map_or f (get nodes k) d ≡ f n
field-is f d nodes k n is = ap (λ o. option_map_or f o d) is

pub kept_standing : (h : Home) → h.stands ≡ true → kept h ≡ Some h
kept_standing h up = elim (kept_cases h) [ inl e ↦ e | inr e ↦ absurd (let f = e.1 in cc) ]

pub kept_some : (h : Home) → 0 < h.live + h.zombies → kept h ≡ Some h
kept_some h some = elim (kept_cases h) [ inl e ↦ e | inr e ↦ absurd (omega (arith, e.2, some)) ]

pub zombie_there : (nodes : Slab Node) (k : ℕ) → 0 < zombies_in nodes k → ContainsKey nodes k
zombie_there nodes k some = grind arith

pub ids-of : (t : TreeOfNodes) (limits : ℕ → Option ℕ) (ids : List (ℕ × ℕ)) → map (λ p. p.0) ids ≡ map (λ (g : Control). g.id) (map (control_in t limits) ids)
ids-of t limits [] = refl
ids-of t limits (p ∷ ids) = ap (λ ns. p.0 ∷ ns) (ids-of t limits ids)

-- what a contract sees of a table is so of its nodes
module _ (s : Inside) {v : Charges} (is : charges_of s.nodes s.ids ≡ v) where
  pub all-of : all_tasks v ≡ all_in s.nodes
  all-of = ap all_tasks (sym is) ∙ all-is s.nodes s.ids

  pub live-of : (k : ℕ) → live_at v k ≡ live_in s.nodes k
  live-of k = ap (λ (x : Charges). live_at x k) (sym is) ∙ live-is s.nodes s.ids k

  pub zombies-of : (k : ℕ) → zombies_at v k ≡ zombies_in s.nodes k
  zombies-of k = ap (λ (x : Charges). zombies_at x k) (sym is) ∙ zombies-is s.nodes s.ids k

  pub stands-of : (k : ℕ) → stands v k ≡ (tree_of s.nodes).stand k
  stands-of k = ap (λ (x : Charges). stands x k) (sym is) ∙ stands-is s.nodes s.ids k

  pub stand_in : (k : ℕ) → stands v k ≡ true → (tree_of s.nodes).stand k ≡ true
  stand_in k up = sym (stands-of k) ∙ up

  pub there_in : (k : ℕ) → stands v k ≡ true → ContainsKey s.nodes k
  there_in k up = there s.nodes k (stand_in k up)

  pub id_in : (k : ℕ) → stands v k ≡ true → home_id v k ≡ (tree_of s.nodes).id k
  id_in k up = sym (ap (λ (x : Charges). home_id x k) is) ∙ id-is s.nodes s.ids k (stand_in k up)

  module _ (l : IsListed (tree_of s.nodes) s.children s.ids) where
    parent_in : (c : ℕ) → stands v c ≡ true → option_map (tree_of s.nodes).id ((tree_of s.nodes).up c) ≡ parent_control v.controls (home_id v c)
    parent_in c up =
        sym (parent-is (tree_of s.nodes) (limit_in s.nodes) s.children s.ids l c (stand_in c up))
        ∙ ap (λ (x : Charges). parent_control x.controls ((tree_of s.nodes).id c)) is ∙ ap (parent_control v.controls) (sym (id_in c up))

    -- whether a group has a parent is what its node tells
    pub parent_some : (c : ℕ) → stands v c ≡ true → (n : Node) → get s.nodes c ≡ Some n → is_some (parent_control v.controls (home_id v c)) ≡ is_some n.parent
    parent_some c up n found = let p = parent_in c up in grind arith

    -- the parent of who stands, and its id
    pub parent_seen : IsNodeTree (tree_of s.nodes) → (c : ℕ) → stands v c ≡ true → (o : Option ℕ) → (tree_of s.nodes).up c ≡ o
        → (option_map (home_id v) o ≡ parent_control v.controls (home_id v c)) × IfSome o (λ p. stands v p ≡ true)
    parent_seen w c up None above = (ap (option_map (tree_of s.nodes).id) (sym above) ∙ parent_in c up, tt)
    parent_seen w c up (Some p) above =
        let on : stands v p ≡ true = stands-of p ∙ w.upright c p (stand_in c up) above in
        (ap Some (id_in p on) ∙ ap (option_map (tree_of s.nodes).id) (sym above) ∙ parent_in c up, on)

    -- what a look-up of an id finds
    pub find_is : (id : ℕ) (r : Option ℕ) → key_of s.ids id ≡ r
        → MatchOption r (control_at v.controls id ≡ None) (λ c. IsSome (control_at v.controls id))
        × IfSome r (λ c. stands v c ≡ true) × IfSome r (λ c. home_id v c ≡ id) × IfSome r (λ c. (k : ℕ) → stands v k ≡ true → home_id v k ≡ id → k ≡ c)
    find_is id r e = go r e at
      where
        at : control_at v.controls id ≡ option_map (λ k. control_in (tree_of s.nodes) (limit_in s.nodes) (id, k)) r
        at = sym (ap (λ (x : Charges). control_at x.controls id) is) ∙ control-is (tree_of s.nodes) (limit_in s.nodes) s.ids id
            ∙ ap (option_map (λ k. control_in (tree_of s.nodes) (limit_in s.nodes) (id, k))) e

        go : (r : Option ℕ) → key_of s.ids id ≡ r → control_at v.controls id ≡ option_map (λ k. control_in (tree_of s.nodes) (limit_in s.nodes) (id, k)) r
            → MatchOption r (control_at v.controls id ≡ None) (λ c. IsSome (control_at v.controls id))
            × IfSome r (λ c. stands v c ≡ true) × IfSome r (λ c. home_id v c ≡ id) × IfSome r (λ c. (k : ℕ) → stands v k ≡ true → home_id v k ≡ id → k ≡ c)
        go None e at = (at, tt, tt, tt)
        go (Some c) e at =
            let entry = entry_of (λ i k. IsKeyOfId (tree_of s.nodes) (i, k)) s.ids id c l.entries e in
            let up : stands v c ≡ true = stands-of c ∙ entry.0 in (
              ap is_some at,
              up,
              id_in c up ∙ entry.1,
              λ k sk same. let both : Some k ≡ Some c = sym (l.listed k (stand_in k sk)) ∙ ap (key_of s.ids) (sym (id_in k sk) ∙ same) ∙ e in cc,
            )
