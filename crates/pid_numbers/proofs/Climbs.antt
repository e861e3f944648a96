-- A sweep goes from a namespace outwards, as long as it finds dead ones.
use Rattle.std.proofs.Common.{◌≡◌, ◌≢◌, inl, inr, ℕ, ◌+◌, ◌<◌, true, false, ◌&&◌, List, [], ◌∷◌, length, get_or, drop, Option, Some, None, is_some, if◌then◌else◌, sym, ap, subst, arith, ◌∙◌}
use Rattle.pid_numbers.proofs.Words.{nat_lt, option_map_or, cases_eq, ne_eqb, ltb-true, false_from_ne_true, cond_some, drop_more, Ids, Node, IsPathTree, node_in}
use Rattle.pid_numbers.proofs.Words.{way, contains, empty_on, dead_on, AreAround}
use Rattle.ns_tree.proofs.Paths as paths

-- what is around a namespace is the path of its parent
pub above : (ways : ℕ → List ℕ) → IsPathTree ways → (key parent : ℕ) → Some parent ≡ (if nat_lt 1 (length (ways key)) then Some (get_or (ways key) 1 0) else None) → ways key ≡ key ∷ ways parent
above ways tree key parent is =
    let r = cond_some (nat_lt 1 (length (ways key))) (get_or (ways key) 1 0) parent (sym is) in
    let lt = ltb-true 1 (length (ways key)) r.0 in
    drop_more (ways key) 0 0 (omega (arith, lt)) ∙ ap (λ k. k ∷ drop 1 (ways key)) (paths.own-first ways tree key (omega (arith, lt)))
    ∙ ap (λ l. key ∷ l) (sym (ap ways (sym r.1) ∙ paths.at-path ways (ways key) (tree.paths key) 1 lt))

module _ (nodes : List (Option Node)) (ids : List (Ids ℕ)) (key : ℕ) (a : AreAround nodes ids (way nodes key)) where
  module _ (tree : IsPathTree (way nodes)) (dead : dead_on nodes ids key ≡ true) where
    -- none is inside it that is left
    pub bare : (s : ℕ) → s ≢ key → contains (way nodes s) key ≡ false
    bare s differs = false_from_ne_true (contains (way nodes s) key) (λ within.
        let ways = way nodes in
        let p = paths.place_of (ways key) s (a.on s (a.inside s key within dead)) in
        let q = paths.place_of (ways s) key within in
        let lt : q.0 < length (ways (get_or (ways key) p.0 0)) = subst (λ (z : ℕ). q.0 < length (ways z)) (sym p.2) q.1 in
        let r = paths.around-around ways tree key p.0 q.0 p.1 lt in
        let again : get_or (ways key) (p.0 + q.0) 0 ≡ key = r.1 ∙ ap (λ z. get_or (ways z) q.0 0) p.2 ∙ q.2 in
        let first = paths.own-first ways tree key (omega (arith, p.1)) in
        elim (cases_eq p.0 0) [
          | inl zero ↦ differs (sym p.2 ∙ ap (λ j. get_or (ways key) j 0) zero ∙ first)
          | inr up ↦ paths.distinct-path ways (ways key) (tree.paths key) 0 (p.0 + q.0) (omega (arith, up)) r.0 (first ∙ sym again)
        ])

    -- once it is gone the same is true of the one that it was in
    module _ (nodes' : List (Option Node)) (parent : ℕ) (up : way nodes key ≡ key ∷ way nodes parent) (here : node_in nodes' key ≡ None) (others : (s : ℕ) → s ≢ key → node_in nodes' s ≡ node_in nodes s) where
      same_dead : (s : ℕ) → s ≢ key → dead_on nodes' ids s ≡ dead_on nodes ids s
      same_dead s m = ap (λ o. option_map_or (λ t. t.fallen) o false && empty_on ids s) (others s m)

      gone : dead_on nodes' ids key ≡ false
      gone = ap (λ o. option_map_or (λ (t : Node). t.fallen) o false && empty_on ids key) here

      other : (s : ℕ) → dead_on nodes' ids s ≡ true → s ≢ key
      other s d e = let bad = gone in grind arith

      way_same : (s : ℕ) → s ≢ key → way nodes' s ≡ way nodes s
      way_same s m = ap (λ o. option_map_or (λ t. t.path) o []) (others s m)

      path-same : way nodes' parent ≡ way nodes parent
      path-same = way_same parent (λ e. let l = ap length (up ∙ ap (λ z. key ∷ way nodes z) e) in omega (arith, l))

      pub around-next : AreAround nodes' ids (way nodes' parent)
      around-next = record {
        on = λ s d. let m = other s d in let same = path-same in let before = a.on s in let dead = same_dead s m in grind (arith, ne_eqb);
        inside = λ s outer within d.
            let m = other outer d in
            let n : s ≢ key = λ e. let bad : false ≡ true = sym (ap (λ z. contains (way nodes' z) outer) e ∙ ap (λ o. contains (option_map_or (λ (t : Node). t.path) o []) outer) here) ∙ within in cc in
            same_dead s n ∙ a.inside s outer (sym (ap (λ p. contains p outer) (way_same s n)) ∙ within) (sym (same_dead outer m) ∙ d);
        root = let none = gone in let same = same_dead 0 in let stood = a.root in grind (arith, cases_eq);
      }

      pub left-next : (s : ℕ) → (if dead_on nodes' ids s then None else node_in nodes' s) ≡ (if dead_on nodes ids s then None else node_in nodes s)
      left-next s = elim (cases_eq s key) [
        | inl e ↦
            ap (λ z. if dead_on nodes' ids z then None else node_in nodes' z) e ∙ ap (λ b. if b then None else node_in nodes' key) gone ∙ here
            ∙ sym (ap (λ z. if dead_on nodes ids z then None else node_in nodes z) e ∙ ap (λ b. if b then None else node_in nodes key) dead)
        | inr m ↦ ap (λ b. if b then None else node_in nodes' s) (same_dead s m) ∙ ap (λ o. if dead_on nodes ids s then None else o) (others s m)
      ]

      pub there-before : (s : ℕ) → is_some (node_in nodes' s) ≡ true → is_some (node_in nodes s) ≡ true
      there-before s on = grind (arith, cases_eq)
