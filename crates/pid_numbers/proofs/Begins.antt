-- A namespace that begins with its first identifier.
use Rattle.std.proofs.Common.{◌≡◌, ◌≢◌, inl, inr, ℕ, zero, suc, ◌<◌, ◌≤◌, Bool, true, false, List, [], ◌∷◌, length, get_or, Option, Some, None, is_some, if◌then◌else◌, sym, ap, subst, ◌∙◌, arith, ◌+◌, ◌-◌, take, drop, IsSome, option_and_then, refl}
use Rattle.pid_numbers.proofs.Words.{nat_lt, slice_get, cases_eq, nat_tests, contains, least_free, cyclic_draw, least_free-found, Entry, entry_at, indexes}
use Rattle.pid_numbers.proofs.Words.{is_prepared, contains_indexes, Ids, planned, Identifier, new_identifier, IsPathTree, TreeOfSpaces, AreListed, new_node, node_in, way}
use Rattle.pid_numbers.proofs.Words.{id_in, fell, IsNumbering, AreFallen, leads, entry_on, bound_on, plan_on, touched, stepped, given_to, ArePlanned, AreReady}
use Rattle.pid_numbers.proofs.Words.{IsConsistent, IsNumberTable, option_map_or, beside, Table, ident_at}
use Rattle.pid_numbers.proofs.Ties.{numbering-moved}
use Rattle.std.proofs.Math.Seq.{take-length}
use Rattle.pid_numbers.proofs.Views.{IsPlan}
use Rattle.pid_numbers.proofs.Seats.{IsPut}
use Rattle.ns_tree.proofs.Growth as growth
use Rattle.pid_numbers.proofs.Ties as ties
use Rattle.pid_numbers.proofs.Sweeps as sweeps

-- where no number is taken, 1 is drawn first
pub draws_one : (pid_max : ℕ) (ns : List ℕ) → 301 ≤ pid_max → ((n : ℕ) → contains ns n ≡ false) → cyclic_draw pid_max 0 ns ≡ Some 1
unfolding cyclic_draw
draws_one pid_max ns good none =
    let one : 1 ≡ least_free ns 1 = least_free-found ns 1 1 (omega arith) (λ m low high. absurd (omega (arith, low, high))) (none 1) in
    let below : nat_lt 1 pid_max ≡ true = grind (arith, nat_tests, good) in
    ap (λ u. if nat_lt u pid_max then Some u else (if nat_lt (least_free ns 1) pid_max then Some (least_free ns 1) else None)) (sym one)
    ∙ ap (λ t. if t then Some 1 else (if nat_lt (least_free ns 1) pid_max then Some (least_free ns 1) else None)) below

pub fresh : (ids : Ids ℕ) → ids.cursor ≡ 0 → 301 ≤ ids.pid_max → ((n : ℕ) → entry_at ids.places n ≡ None) → planned ids ≡ Some 1
fresh ids cursor good empty =
    ap (λ k. cyclic_draw ids.pid_max k (indexes ids.places)) cursor
    ∙ draws_one ids.pid_max (indexes ids.places) good (λ n. contains_indexes ids.places n ∙ ap is_some (empty n))

-- a namespace more, at a key that had none
module _ (pid_max : ℕ) (ways ways' : ℕ → List ℕ) (at : ℕ → ℕ → Option (Entry ℕ)) (bound bound' : ℕ → Option ℕ) (names : ℕ → Option Identifier) (b : IsNumbering pid_max ways at bound names)
    (key parent : ℕ) (was : ways key ≡ []) (now : ways' key ≡ key ∷ ways parent) (others : (s : ℕ) → s ≢ key → ways' s ≡ ways s) where
  elsewhere : (i : ℕ) (u : Identifier) → names i ≡ Some u → u.space ≢ key
  elsewhere i u is e =
      let n : length u.numbers ≡ 0 = b.tied.full i u is ∙ ap length (ap ways e ∙ was) in
      let some = b.tied.some i u is in
      omega (arith, n, some)

  pub numbering-added : IsPathTree ways' → ((s m : ℕ) → bound' s ≡ Some m → m ≡ pid_max) → IsNumbering pid_max ways' at bound' names
  numbering-added tree bounds = numbering-moved pid_max ways ways' at bound bound' names b tree bounds (λ i u is. others u.space (elsewhere i u is))

  pub fallen-added : (fell fell' : ℕ → Bool) (at' : ℕ → ℕ → Option (Entry ℕ)) → AreFallen ways at fell → fell parent ≡ false → fell' key ≡ false → ((s : ℕ) → s ≢ key → fell' s ≡ fell s)
      → ((s n i : ℕ) → leads at s n ≡ Some i → (j : ℕ) × (leads at' s n ≡ Some j)) → AreFallen ways' at' fell'
  fallen-added fell fell' at' f stands new same more = record {
    stands = same 0 (growth.not_root ways ways' b.tree key parent was now others) ∙ f.stands;
    inner = λ t j lt e. elim (cases_eq t key) [
      | inl is ↦ absurd (at_new j (subst (λ (p : List ℕ). j < length p) (ap ways' is ∙ now) lt) (ap (λ p. fell' (get_or p j 0)) (sym (ap ways' is ∙ now)) ∙ e))
      | inr d ↦
          let way_t = others t d in
          let off = growth.away-path ways ways' b.tree key parent was now others (ways t) (b.tree.paths t) j in
          let inner = f.inner t j in
          let same_t = same t d in
          let same_j = same (get_or (ways t) j 0) in
          grind arith
    ];
    held = λ s e. elim (cases_eq s key) [
      | inl is ↦ absurd (let bad : true ≡ false = sym e ∙ ap fell' is ∙ new in cc)
      | inr d ↦
          let r = f.held s (sym (same s d) ∙ e) in
          let m = more s r.0 r.1 r.2 in
          (r.0, m.0, m.1)
    ];
  }
    where
      at_new : (j : ℕ) → j < length (key ∷ ways parent) → fell' (get_or (key ∷ ways parent) j 0) ≡ true → ⊥
      at_new zero lt e = let bad : true ≡ false = sym e ∙ new in cc
      at_new (suc j) lt e =
          let off = growth.away-path ways ways' b.tree key parent was now others (ways parent) (b.tree.paths parent) j in
          let same_j = same (get_or (ways parent) j 0) in
          let inner = f.inner parent j in
          grind arith

-- all numbers but the first
pub around-is : (ns rest : List ℕ) → ns ≡ 1 ∷ rest → take (length ns - 1) (drop 1 ns) ≡ rest
around-is ns rest e = let l = take-length rest in grind arith

pub all-is : (ns rest : List ℕ) → ns ≡ 1 ∷ rest → ns ≡ 1 ∷ take (length ns - 1) (drop 1 ns)
all-is ns rest e = e ∙ ap (λ l. 1 ∷ l) (sym (around-is ns rest e))

module _ (pid_max : ℕ) (ways ways' : ℕ → List ℕ) (at : ℕ → ℕ → Option (Entry ℕ)) (bound : ℕ → Option ℕ) (names : ℕ → Option Identifier) (fell fell' : ℕ → Bool) (whole : IsConsistent pid_max ways at bound names fell)
    (key parent : ℕ) (was : ways key ≡ []) (now : ways' key ≡ key ∷ ways parent) (others : (s : ℕ) → s ≢ key → ways' s ≡ ways s) (around : List ℕ) (len : length around ≡ length (ways parent)) where
  -- it is not on the path around it
  pub away : (j : ℕ) → j < length (ways parent) → get_or (ways parent) j 0 ≢ key
  away j lt = growth.away-path ways ways' whole.numbering.tree key parent was now others (ways parent) (whole.numbering.tree.paths parent) j lt

  -- all that is known holds with it
  pub whole-begun : (i : ℕ) (at1 at' : ℕ → ℕ → Option (Entry ℕ)) (bound' : ℕ → Option ℕ) (names' : ℕ → Option Identifier) → IsPathTree ways' → fell parent ≡ false → fell' key ≡ false → ((s : ℕ) → s ≢ key → fell' s ≡ fell s)
      → at1 key 1 ≡ given_to true i → ((n : ℕ) → n ≢ 1 → at1 key n ≡ None) → ((s : ℕ) → s ≢ key → (n : ℕ) → at1 s n ≡ at s n)
      → ((s n : ℕ) → at' s n ≡ touched (ways parent) around (λ _. given_to true i) at1 s n) → ((s m : ℕ) → bound' s ≡ Some m → m ≡ pid_max)
      → ((j : ℕ) → j < length (ways parent) → (at (get_or (ways parent) j 0) (get_or around j 0) ≡ None) × (0 < get_or around j 0) × (get_or around j 0 < pid_max))
      → names i ≡ None → names' i ≡ Some (new_identifier key (1 ∷ around)) → ((j : ℕ) → j ≢ i → names' j ≡ names j) → IsConsistent pid_max ways' at' bound' names' fell'
  whole-begun i at1 at' bound' names' tree stands new same_fell first empty same_at given bounds drawn fresh named rest = record {
    numbering = ties.numbering-given pid_max ways' at at' bound' bound' names names' (numbering-added pid_max ways ways' at bound bound' names whole.numbering key parent was now others tree bounds) (λ s. refl)
        i (new_identifier key (1 ∷ around)) rest true fresh named (let l = ap length now in omega (arith, l, len)) (omega arith) refl free is;
    fallen = fallen-added pid_max ways ways' at bound bound' names whole.numbering key parent was now others
        fell fell' at' whole.fallen stands new same_fell (ties.leads-given true (ways' key) (1 ∷ around) i at at' is);
  }
    where
      unseen : (n : ℕ) → at key n ≡ None
      unseen n = sweeps.vacant-empty pid_max ways at bound names whole.numbering key n was

      is : (s n : ℕ) → at' s n ≡ touched (ways' key) (1 ∷ around) (λ _. given_to true i) at s n
      is s n =
          given s n
          ∙ ties.touched-cons key 1 (ways parent) around (ties.beside-none key (ways parent) around away) (λ _. given_to true i) at at1 first (λ m d. empty m d ∙ sym (unseen m)) same_at s n
          ∙ ap (λ p. touched p (1 ∷ around) (λ _. given_to true i) at s n) (sym now)

      free : (s n : ℕ) → beside s (ways' key) (1 ∷ around) ≡ Some n → (at s n ≡ None) × (0 < n) × (n < pid_max)
      free s n hit = by_place (ties.beside-some s n (key ∷ ways parent) (1 ∷ around) (ap (λ p. beside s p (1 ∷ around)) (sym now) ∙ hit))
        where
          by_place : (j : ℕ) × (j < length (key ∷ ways parent)) × (get_or (key ∷ ways parent) j 0 ≡ s) × (get_or (1 ∷ around) j 0 ≡ n) → (at s n ≡ None) × (0 < n) × (n < pid_max)
          by_place (zero, l, here, one) = let good = whole.numbering.good.0 in let none = unseen n in grind arith
          by_place (suc j, l, here, drawn_is) = let at_j = drawn j in grind arith

-- the same in the tree, where the numbers of the new namespace were put at its key, and those around it were planned before
pub record IsBegun (pid_max : ℕ) (tree tree' : TreeOfSpaces) (ids ids1 ids2 : List (Ids ℕ)) (idents : Table) (parent key id : ℕ) (around : List ℕ) (first : Ids ℕ) : Type 0 where
  pub kept : IsNumberTable pid_max tree ids idents
  pub plan : IsPlan pid_max tree.nodes ids parent around
  pub there : 0 < length (way tree.nodes parent)
  pub vacant : node_in tree.nodes key ≡ None
  pub made : node_in tree'.nodes key ≡ Some (new_node id (key ∷ way tree.nodes parent))
  pub rest : (s : ℕ) → s ≢ key → node_in tree'.nodes s ≡ node_in tree.nodes s
  pub here : slice_get ids2 key ≡ Some first
  pub same : (s : ℕ) → s ≢ key → slice_get ids2 s ≡ slice_get ids1 s
  pub plans : (s : ℕ) → plan_on ids1 s ≡ plan_on ids s

module _ {pid_max : ℕ} {tree tree' : TreeOfSpaces} {ids ids1 ids2 : List (Ids ℕ)} {idents : Table} {parent key id : ℕ} {around : List ℕ} {first : Ids ℕ} (g : IsBegun pid_max tree tree' ids ids1 ids2 idents parent key id around first) where
  was : way tree.nodes key ≡ []
  was = ap (λ o. option_map_or (λ t. t.path) o []) g.vacant

  now : way tree'.nodes key ≡ key ∷ way tree.nodes parent
  now = ap (λ o. option_map_or (λ t. t.path) o []) g.made

  others : (s : ℕ) → s ≢ key → way tree'.nodes s ≡ way tree.nodes s
  others s m = ap (λ o. option_map_or (λ t. t.path) o []) (g.rest s m)

  pub path-same : way tree'.nodes parent ≡ way tree.nodes parent
  path-same = others parent (λ e. let l = ap length (ap (way tree.nodes) e ∙ was) in omega (arith, g.there, l))

  off : (j : ℕ) → j < length (way tree.nodes parent) → get_or (way tree.nodes parent) j 0 ≢ key
  off = away pid_max (way tree.nodes) (way tree'.nodes) (entry_on ids) (bound_on ids) (ident_at idents) (fell tree.nodes) (fell tree'.nodes) g.kept.whole key parent was now others around g.plan.len

  -- its own cursor stays where it is
  pub cursor-same : (cursor : ℕ) → stepped (way tree.nodes parent) around key cursor ≡ cursor
  cursor-same cursor = ap (λ o. option_map_or (λ n. n + 1) o cursor) (ties.beside-none key (way tree.nodes parent) around off)

  pub planned-still : ArePlanned ids2 (way tree.nodes parent) around
  planned-still j lt = ap (option_and_then planned) (g.same (get_or (way tree.nodes parent) j 0) (off j lt)) ∙ g.plans (get_or (way tree.nodes parent) j 0) ∙ g.plan.drawn j lt

  pub ready-still : AreReady ids1 (way tree.nodes parent) around → AreReady ids2 (way tree.nodes parent) around
  ready-still r j lt = ap (λ o. option_map_or (λ t. is_prepared t.places (get_or around j 0)) o false) (g.same (get_or (way tree.nodes parent) j 0) (off j lt)) ∙ r j lt

  -- all that is known holds
  pub kept-begun : fell tree.nodes parent ≡ false → (i : ℕ) → ((s n : ℕ) → entry_on ids1 s n ≡ entry_on ids s n) → ((s : ℕ) → bound_on ids1 s ≡ bound_on ids s)
      → first.pid_max ≡ pid_max → entry_at first.places 1 ≡ given_to true i → ((n : ℕ) → n ≢ 1 → entry_at first.places n ≡ None)
      → (ids3 : List (Ids ℕ)) (idents' : Table) → ((s n : ℕ) → entry_on ids3 s n ≡ touched (way tree.nodes parent) around (λ _. given_to true i) (entry_on ids2) s n) → ((s : ℕ) → bound_on ids3 s ≡ bound_on ids2 s) → length ids3 ≡ length tree'.nodes
      → IsPathTree (way tree'.nodes) → ((s : ℕ) → IsSome (node_in tree'.nodes s) → 0 < length (way tree'.nodes s)) → AreListed (id_in tree'.nodes) tree'.order
      → IsPut idents idents' i (new_identifier key (1 ∷ around)) → IsNumberTable pid_max tree' ids3 idents'
  kept-begun stands i entries bounds good one none ids3 idents' given bounds3 count grown_tree some listed put = record {
    whole = whole-begun pid_max (way tree.nodes) (way tree'.nodes) (entry_on ids) (bound_on ids) (ident_at idents) (fell tree.nodes) (fell tree'.nodes) g.kept.whole key parent was now others around g.plan.len
        i (entry_on ids2) (entry_on ids3) (bound_on ids3) (ident_at idents') grown_tree stands (ap (λ o. option_map_or (λ t. t.fallen) o false) g.made) (λ s m. ap (λ o. option_map_or (λ t. t.fallen) o false) (g.rest s m))
        (ap (option_and_then (λ t. entry_at t.places 1)) g.here ∙ one) (λ n m. ap (option_and_then (λ t. entry_at t.places n)) g.here ∙ none n m)
        (λ s m n. ap (option_and_then (λ t. entry_at t.places n)) (g.same s m) ∙ entries s n) given bound g.plan.free put.was put.now put.others;
    some = some;
    listed = listed;
    count = count;
  }
    where
      bound : (s m : ℕ) → bound_on ids3 s ≡ Some m → m ≡ pid_max
      bound s m e = grind (arith, cases_eq)
