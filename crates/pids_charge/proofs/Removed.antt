-- The removal of a control group: its node stands no more.
use Rattle.std.proofs.Common.{◌≡◌, ◌≢◌, inl, inr, ℕ, zero, suc, ◌+◌, ◌<◌, ◌==◌, nat_lt, Bool, true, false, not, if◌then◌else◌, Option, Some, None, option_map, option_and_then, is_some, MatchOption, List, [], ◌∷◌, length, set, map, refl, sym, ap, ◌∙◌, arith}
use Rattle.pids_charge.proofs.Words.{fun_ext, cases_eq, eq-eqb, eqb-true, false_from_ne_true, le-ltb, lt-ltb, or_from, or_right, get_or-set_other}
use Rattle.pids_charge.proofs.Words.{get_or-set_same, AllByRecursion, filter, list_any, option_eq, option_map_or, key_of, without, owner_of, Control}
use Rattle.pids_charge.proofs.Words.{ControlBusy, RootControl, Slab, Updates, get, Charges, Home, handed_on, is_occupied, kept, live_at, remove_refusal, stands}
use Rattle.pids_charge.proofs.Words.{AreTotals, IsKeyOfId, IsListed, charges_of, listed_parent, control_in, limit_in, nearest, home_of_node, standing_key, IsNodeTree, TreeOfNodes}
use Rattle.pids_charge.proofs.Words.{all_in, is_under, reaches, tasks_in, total_in, tree_of, Node}
use Rattle.pids_charge.proofs.Climbs.{eqb-apart, up-is, weight-self, up_levels}
use Rattle.pids_charge.specs.declared.Controls.TheInside.{Inside}
use Rattle.pids_charge.proofs.Views.{home_in, parent_some, same_key, live-is, kept_cases, kept_standing, nearest-self, id-is}
use Rattle.pids_charge.proofs.Bridges.{nearest_stands, ids-same}
use Rattle.pids_charge.proofs.Changed.{field-kept, field-other, all-changed, total-changed}

-- the control group of key c, below that of key p, is removed: its node stands no more, and nothing that stands is below it
pub record Removes (nodes new : Slab Node) (c p : ℕ) (n : Node) : Type 0 where
  pub found : get nodes c ≡ Some n
  pub up : n.standing ≡ true
  pub parent : n.parent ≡ Some p
  pub updates : Updates nodes new c (Some (record n { standing = false }))
  pub tree : IsNodeTree (tree_of nodes)
  pub childless : (k : ℕ) → listed_parent (tree_of nodes) k ≢ Some c

module _ {nodes new : Slab Node} {c p : ℕ} {n : Node} (removes : Removes nodes new c p n) where
  open removes use {found, up, parent, updates, tree as w, childless}

  -- a field that the end of standing leaves
  same_field : {X : Type 0} (f : Option Node → X) → f (Some (record n { standing = false })) ≡ f (Some n) → (j : ℕ) → f (get new j) ≡ f (get nodes j)
  same_field f same = field-kept updates f (same ∙ sym (ap f found))

  ups : (j : ℕ) → (tree_of new).up j ≡ (tree_of nodes).up j
  ups = same_field (option_and_then (λ x. x.parent)) refl

  levels : (j : ℕ) → (tree_of new).level j ≡ (tree_of nodes).level j
  levels = same_field (λ o. option_map_or (λ x. x.level) o 0) refl

  ids_same : (j : ℕ) → (tree_of new).id j ≡ (tree_of nodes).id j
  ids_same = same_field (λ o. option_map_or (λ x. x.id) o 0) refl

  limits : (j : ℕ) → limit_in new j ≡ limit_in nodes j
  limits = same_field (option_and_then (λ x. x.limit)) refl

  pub there_same : (j : ℕ) → (tree_of new).there j ≡ (tree_of nodes).there j
  there_same = same_field is_some refl

  stand_here : (tree_of new).stand c ≡ false
  stand_here = ap (λ o. option_map_or (λ (x : Node). x.standing) o false) updates.changed

  stand_others : (j : ℕ) → j ≢ c → (tree_of new).stand j ≡ (tree_of nodes).stand j
  stand_others = field-other updates (λ o. option_map_or (λ (x : Node). x.standing) o false)

  apart : (j : ℕ) → (tree_of new).stand j ≡ true → j ≢ c
  apart j s e = let h = ap (tree_of new).stand e ∙ stand_here in cc

  stood : (tree_of nodes).stand c ≡ true
  stood = ap (λ o. option_map_or (λ (x : Node). x.standing) o false) found ∙ up

  up_c : (tree_of nodes).up c ≡ Some p
  up_c = up-is nodes c n found ∙ parent

  pub under-same : (j k : ℕ) → is_under (tree_of new) j k ≡ is_under (tree_of nodes) j k
  under-same j k = ap (λ u. reaches u ((tree_of new).level j) j k) (fun_ext ups) ∙ ap (λ l. reaches (tree_of nodes).up l j k) (levels j)

  tasks_c : tasks_in new c ≡ tasks_in nodes c
  tasks_c = same_field (λ o. option_map_or (λ x. x.live + x.zombies) o 0) refl c

  pub total-same : (k : ℕ) → total_in new k ≡ total_in nodes k
  total-same k = let e = total-changed updates k (λ j differs. under-same j k) in let s = under-same c k in grind (arith, tasks_c)

  pub all-same : all_in new ≡ all_in nodes
  all-same = omega (arith, all-changed updates, tasks_c)

  no_child : (j : ℕ) → (tree_of nodes).stand j ≡ true → (tree_of nodes).up j ≢ Some c
  no_child j s e = childless j (ap (λ (b : Bool). if b then (tree_of nodes).up j else None) s ∙ e)

  p_apart : p ≢ c
  p_apart e = let h = up_levels (tree_of nodes) w.levels c p up_c in let l = ap (tree_of nodes).level e in omega (arith, h, l)

  p_stands : (tree_of nodes).stand p ≡ true
  p_stands = w.upright c p stood up_c

  pub IsTree-unstood : IsNodeTree (tree_of new)
  IsTree-unstood = grind (arith, cases_eq, there_same, ups, levels, stand_others, stand_here, apart, no_child, up_c)

  pub IsCounted-unstood : (totals : ℕ → ℕ) → AreTotals nodes totals None → n.live ≡ 0 → AreTotals new totals (Some c)
  IsCounted-unstood totals counted none = grind (arith, cases_eq, there_same, total-same, all-same, stand_others, weight-self, IsTree-unstood)

  module _ (children : List (Option ℕ)) (ids : List (ℕ × ℕ)) (l : IsListed (tree_of nodes) children ids) where
    key_of-without : (ps : List (ℕ × ℕ)) (i j : ℕ) → i ≢ j → key_of (without ps j) i ≡ key_of ps i
    key_of-without [] i j d = refl
    key_of-without (q ∷ ps) i j d = grind (arith, eqb-apart, eqb-true, key_of-without ps i j d)

    all-without : (ps : List (ℕ × ℕ)) → AllByRecursion (IsKeyOfId (tree_of nodes)) ps → AllByRecursion (IsKeyOfId (tree_of new)) (without ps ((tree_of nodes).id c))
    all-without [] all = tt
    all-without (q ∷ ps) all = grind (arith, cases_eq, eq-eqb, eqb-apart, stand_others, ids_same, all-without ps)

    pub IsListed-unstood : c < length children → IsListed (tree_of new) (set children c None) (without ids ((tree_of nodes).id c))
    IsListed-unstood room = record {
      owners = grind (arith, cases_eq, get_or-set_same, up, stand_here, get_or-set_other, stand_others, ups);
      entries = all-without ids l.entries;
      listed = λ k s.
          let d = apart k s in
          let old = sym (stand_others k d) ∙ s in
          let i : (tree_of nodes).id k ≢ (tree_of nodes).id c = λ e. d (same_key (tree_of nodes) (limit_in nodes) children ids l k c old stood e) in
          ap (key_of (without ids ((tree_of nodes).id c))) (ids_same k) ∙ key_of-without ids ((tree_of nodes).id k) ((tree_of nodes).id c) i ∙ l.listed k old;
    }

    pub controls-unstood : map (control_in (tree_of new) (limit_in new)) (without ids ((tree_of nodes).id c)) ≡ filter (λ g. not (g.id == (tree_of nodes).id c)) (map (control_in (tree_of nodes) (limit_in nodes)) ids)
    controls-unstood =
        ap (λ f. map f (without ids ((tree_of nodes).id c))) (fun_ext same) ∙ go ids
      where
        same : (q : ℕ × ℕ) → control_in (tree_of new) (limit_in new) q ≡ control_in (tree_of nodes) (limit_in nodes) q
        same q = grind (arith, ups, ids_same, limits)

        go : (ps : List (ℕ × ℕ)) → map (control_in (tree_of nodes) (limit_in nodes)) (without ps ((tree_of nodes).id c)) ≡ filter (λ g. not (g.id == (tree_of nodes).id c)) (map (control_in (tree_of nodes) (limit_in nodes)) ps)
        go [] = refl
        go (q ∷ ps) = grind (arith, go ps)

-- what is handed on is seen of the group above, where ids tell the key that was removed
handed-kept : (id : ℕ → ℕ) (s c p : ℕ) (h : Home) → h.id ≡ id s → (id s == id c) ≡ (s == c) → ((s == c) ≡ true → h.stands ≡ false)
    → kept (record h { id = id (if s == c then p else s) }) ≡ option_and_then (handed_on (id c) (id p)) (kept h)
handed-kept id s c p h is same lies = grind (arith, kept_cases)

module _ {nodes new : Slab Node} {c p : ℕ} {n : Node} (removes : Removes nodes new c p n) (children : List (Option ℕ)) (ids : List (ℕ × ℕ)) (l : IsListed (tree_of nodes) children ids) where
  old_near : ℕ → ℕ → ℕ
  old_near = nearest (tree_of nodes).stand (tree_of nodes).up

  redirect : ℕ → ℕ
  redirect s = if s == c then p else s

  nearest-unstood : (m j : ℕ) → (tree_of nodes).level j ≡ m → nearest (tree_of new).stand (tree_of nodes).up m j ≡ redirect (old_near m j)
  unfolding old_near redirect
  nearest-unstood zero j low =
      let d : j ≢ c = λ e. let h = up_levels (tree_of nodes) removes.tree.levels c p (up_c removes) in let q = ap (tree_of nodes).level e in omega (arith, h, q, low) in
      grind (arith, eqb-apart)
  nearest-unstood (suc m) j low =
      grind (arith, cases_eq, eqb-apart, eq-eqb, up_levels, up_c removes, stood removes, stand_here removes, stand_others removes, p_itself, nearest-unstood m)
    where
      p_itself : (m : ℕ) → nearest (tree_of new).stand (tree_of nodes).up m p ≡ p
      p_itself m = grind (arith, stand_others removes, p_apart removes, p_stands removes)

  key-unstood : (k : ℕ) → standing_key (tree_of new) k ≡ redirect (standing_key (tree_of nodes) k)
  unfolding old_near
  key-unstood k =
      ap (λ u. nearest (tree_of new).stand u ((tree_of new).level k) k) (fun_ext (ups removes))
      ∙ ap (λ l. nearest (tree_of new).stand (tree_of nodes).up l k) (levels removes k)
      ∙ nearest-unstood ((tree_of nodes).level k) k refl

  pub home-unstood : (k : ℕ) → home_in new k ≡ option_and_then (handed_on ((tree_of nodes).id c) ((tree_of nodes).id p)) (home_in nodes k)
  unfolding redirect
  home-unstood k = elim (cases_eq k c) [
    | inl e ↦ ap (home_in new) e ∙ at_c ∙ sym (ap (λ i. option_and_then (handed_on ((tree_of nodes).id c) ((tree_of nodes).id p)) (home_in nodes i)) e)
    | inr d ↦ ap (option_and_then (home_of_node (tree_of new) k)) (removes.updates.others k d) ∙ other k d (get nodes k) refl
  ]
    where
      id_k : (k : ℕ) → (tree_of new).id (standing_key (tree_of new) k) ≡ (tree_of nodes).id (redirect (standing_key (tree_of nodes) k))
      id_k k = ids_same removes (standing_key (tree_of new) k) ∙ ap (tree_of nodes).id (key-unstood k)

      c_key : standing_key (tree_of nodes) c ≡ c
      c_key = nearest-self (tree_of nodes) ((tree_of nodes).level c) c (stood removes)

      at_c : home_in new c ≡ option_and_then (handed_on ((tree_of nodes).id c) ((tree_of nodes).id p)) (home_in nodes c)
      at_c =
          let id_c = id_k c in
          let key = c_key in
          grind (arith, eq-eqb, kept_standing)

      other : (k : ℕ) → k ≢ c → (o : Option Node) → get nodes k ≡ o → option_and_then (home_of_node (tree_of new) k) o
          ≡ option_and_then (handed_on ((tree_of nodes).id c) ((tree_of nodes).id p)) (option_and_then (home_of_node (tree_of nodes) k) o)
      other k d None e = refl
      other k d (Some x) e =
          let s = standing_key (tree_of nodes) k in
          let h : Home = record { id = (tree_of nodes).id s; stands = x.standing; live = x.live; zombies = x.zombies } in
          let stands = nearest_stands (tree_of nodes) removes.tree ((tree_of nodes).level k) k refl (ap is_some e) in
          let up = ap (λ o. option_map_or (λ (y : Node). y.standing) o false) e in
          let itself = nearest-self (tree_of nodes) ((tree_of nodes).level k) k in
          ap (λ i. kept (record h { id = i })) (id_k k)
          ∙ handed-kept (tree_of nodes).id s c p h refl (ids-same (tree_of nodes) removes.tree (limit_in nodes) children ids l s c stands (stood removes))
          (λ b. false_from_ne_true x.standing (λ t. d (sym (itself (up ∙ t)) ∙ eqb-true s c b)))

-- why a control group cannot be removed, by its node
pub refused : (s : Inside) {v : Charges} → charges_of s.nodes s.ids ≡ v → IsListed (tree_of s.nodes) s.children s.ids → (c : ℕ) → stands v c ≡ true
    → (b d : Bool)
    → {n : Node} → get s.nodes c ≡ Some n → is_some n.parent ≡ b → is_occupied (charges_of s.nodes s.ids) c ≡ d
    → remove_refusal v c ≡ (if b then (if d then Some ControlBusy else None) else Some RootControl)
refused s {v} is l c on b d {n} found up busy =
    let above = parent_some s is l c on n found in
    let same = ap (λ (x : Charges). is_occupied x c) is in
    grind arith

module _ (s : Inside) (w : IsNodeTree (tree_of s.nodes)) (l : IsListed (tree_of s.nodes) s.children s.ids) (c : ℕ) (up : (tree_of s.nodes).stand c ≡ true) where
  abbrev t : TreeOfNodes
  t = tree_of s.nodes

  is_in : Control → Bool
  is_in g = option_eq ◌==◌ g.parent (Some (t.id c))

  pub busy-live : {n : Node} → get s.nodes c ≡ Some n → 0 < n.live → is_occupied (charges_of s.nodes s.ids) c ≡ true
  busy-live found some = let e = live-is s.nodes s.ids c in grind (arith, lt-ltb)

  pub busy-child : (k : ℕ) → listed_parent t k ≡ Some c → is_occupied (charges_of s.nodes s.ids) c ≡ true
  unfolding is_in
  busy-child k e =
      or_right (nat_lt 0 (live_at (charges_of s.nodes s.ids) c)) _
      (ap (λ i. list_any (λ (g : Control). option_eq ◌==◌ g.parent (Some i)) (map (control_in t (limit_in s.nodes)) s.ids)) (id-is s.nodes s.ids c up)
      ∙ any s.ids (l.listed k both.0))
    where
      both : (t.stand k ≡ true) × (t.up k ≡ Some c)
      both = grind arith

      hit : is_in (control_in t (limit_in s.nodes) (t.id k, k)) ≡ true
      hit = ap (λ o. option_eq ◌==◌ (option_map t.id o) (Some (t.id c))) both.1 ∙ eq-eqb (t.id c) (t.id c) refl

      any : (ps : List (ℕ × ℕ)) → key_of ps (t.id k) ≡ Some k → list_any is_in (map (control_in t (limit_in s.nodes)) ps) ≡ true
      any [] f = absurd (cc)
      any (q ∷ ps) f = grind (arith, eqb-true, hit, any ps)

  pub busy-none : {n : Node} → get s.nodes c ≡ Some n → n.live ≡ 0 → ((k : ℕ) → listed_parent t k ≢ Some c) → is_occupied (charges_of s.nodes s.ids) c ≡ false
  unfolding is_in
  busy-none found none childless =
      let e = live-is s.nodes s.ids c ∙ ap (λ o. option_map_or (λ (x : Node). x.live) o 0) found in
      or_from (nat_lt 0 (live_at (charges_of s.nodes s.ids) c)) _ (le-ltb 0 (live_at (charges_of s.nodes s.ids) c) (omega (arith, e, none)))
      (ap (λ i. list_any (λ (g : Control). option_eq ◌==◌ g.parent (Some i)) (map (control_in t (limit_in s.nodes)) s.ids)) (id-is s.nodes s.ids c up)
      ∙ nobody s.ids l.entries)
    where
      miss : (q : ℕ × ℕ) → t.stand q.1 ≡ true → (o : Option ℕ) → t.up q.1 ≡ o → option_eq ◌==◌ (option_map t.id o) (Some (t.id c)) ≡ false
      miss q on o e = grind (arith, eqb-apart, same_key, up, childless)

      nobody : (ps : List (ℕ × ℕ)) → AllByRecursion (IsKeyOfId t) ps → list_any is_in (map (control_in t (limit_in s.nodes)) ps) ≡ false
      nobody [] all = refl
      nobody (q ∷ ps) all = or_from (is_in (control_in t (limit_in s.nodes) q)) _ (miss q all.0.0 (t.up q.1) refl) (nobody ps all.1)

pub some_of : (o : Option ℕ) → is_some o ≡ true → (p : ℕ) × (o ≡ Some p)
some_of o e = grind arith

-- no first member: no child
pub childless_of : {t : TreeOfNodes} {children : List (Option ℕ)} {ids : List (ℕ × ℕ)} → IsListed t children ids → (c : ℕ) (o : Option ℕ)
    → MatchOption o ((k : ℕ) → owner_of children k ≢ Some c) (λ k. owner_of children k ≡ Some c) → is_some o ≡ false → (k : ℕ) → listed_parent t k ≢ Some c
childless_of l c o m none k e = grind arith

pub child_found : {t : TreeOfNodes} {children : List (Option ℕ)} {ids : List (ℕ × ℕ)} → IsListed t children ids → (c : ℕ) (o : Option ℕ)
    → MatchOption o ((k : ℕ) → owner_of children k ≢ Some c) (λ k. owner_of children k ≡ Some c) → is_some o ≡ true → (k : ℕ) × (listed_parent t k ≡ Some c)
child_found l c o m some = grind arith

pub stands_is_field : (nodes : Slab Node) (c : ℕ) (n : Node) → get nodes c ≡ Some n → (tree_of nodes).stand c ≡ true → n.standing ≡ true
stands_is_field nodes c n found up = sym (ap (λ o. option_map_or (λ (x : Node). x.standing) o false) found) ∙ up
