-- Namespaces of a text that are a tree: each may stand behind those before it.
use Rattle.std.proofs.Common.{◌≡◌, inl, inr, ℕ, suc, ◌+◌, ◌-◌, ◌<◌, ◌≤◌, ◌==◌, Bool, true, false, if◌then◌else◌, List, [], ◌∷◌, ◌++◌, length, map, take, drop, Option, Some, None, IsSome, is_some, refl, sym, ap, subst, ◌∙◌, arith, slice_get, option_map}
use Rattle.std.specs.List.{AllByRecursion}
use Rattle.std.proofs.lemmas.Bool.{eqb-true}
use Rattle.std.proofs.lemmas.List.{map-append, length-map}
use Rattle.id_slab.specs.Ids.{AreBelow, key_of}
use Rattle.pid_types.specs.declared.plain.Space.{Space}
use Rattle.pid_types.specs.Bounds.{deepest_space}
use Rattle.pid_types.specs.Names.{path_up, space_at}
use Rattle.pid_types.specs.Membership.{IsIn}
use Rattle.pid_types.specs.Sound.{IsTreeOfSpaces}
use Rattle.model_laws.proofs.Forests.{IsTree-map, chain-map}
use Rattle.pid_numbers.specs.Numbering.{Numbering, id_at, path_at}
use Rattle.task_table.specs.View.{space_of, spaces_of}
use Rattle.task_table.specs.Lawful.{HasLaws}
use Rattle.task_table.proofs.Keys.{id_for, path-is, space_at-is}
use Rattle.table_build.specs.Bare.{undrawn}
use Rattle.table_build.specs.Follows.{AreGoodSpaces, AreIdsUpTo, MayStandBehind}
use Rattle.table_build.proofs.Following.{all-below, first-root, inside, lastly, parted}

abbrev pub id_of : Space → ℕ
id_of s = s.id

abbrev pub parent_of : Space → Option ℕ
parent_of s = s.parent

-- the root stands first
pub root-at : (ss : List Space) (x : Space) → slice_get ss 0 ≡ Some x → AreGoodSpaces ss → (x.id ≡ 0) × (x.parent ≡ None) × (x.fallen ≡ false)
root-at ss x e good =
    let r = first-root id_of parent_of deepest_space (path_up ss) ss x e good.tree in
    (r.0, r.1, good.root x (there ss e) r.0)
  where
    there : (ss : List Space) → slice_get ss 0 ≡ Some x → IsIn x ss
    there [] e = absurd (cc)
    there (y ∷ ys) e = inl (let w : x ≡ y = cc in w)

-- each other one may stand behind
may-stand : (before rest : List Space) (x y : Space) → IsTreeOfSpaces (before ++ x ∷ rest) → IsIn y before → MayStandBehind before y.id x
unfolding path_up
may-stand before rest x y tree i =
    let up = all-below id_of parent_of deepest_space before rest x tree.rising y i in
    record { above = up; inside = inside id_of parent_of deepest_space before rest x tree (omega (arith, up)) }

bare-tree : (ss : List Space) → IsTreeOfSpaces ss → IsTreeOfSpaces (map undrawn ss)
unfolding path_up
bare-tree ss tree = IsTree-map Space id_of parent_of ss undrawn (λ x. refl) (λ x. refl) (path_up ss) (path_up (map undrawn ss))
    (λ n. chain-map Space id_of parent_of ss undrawn (λ x. refl) (λ x. refl) (deepest_space + 1) n) tree

pub stands-at : (ss : List Space) (i : ℕ) (x y : Space) → slice_get ss i ≡ Some x → slice_get ss (i - 1) ≡ Some y → 0 < i → AreGoodSpaces ss → MayStandBehind (map undrawn (take i ss)) y.id x
stands-at ss i x y here last some good =
    let parts = ap (map undrawn) (parted id_of parent_of deepest_space ss i x here) ∙ map-append undrawn (take i ss) (x ∷ drop (suc i) ss) in
    let m = may-stand (map undrawn (take i ss)) (map undrawn (drop (suc i) ss)) (undrawn x) (undrawn y) (subst IsTreeOfSpaces parts (bare-tree ss good.tree))
    (in_bare (take i ss) (lastly id_of parent_of deepest_space ss i y some last)) in
    record { above = m.above; inside = m.inside }
  where
    in_bare : (zs : List Space) → IsIn y zs → IsIn (undrawn y) (map undrawn zs)
    in_bare [] i = absurd i
    in_bare (z ∷ zs) (inl e) = inl (ap undrawn e)
    in_bare (z ∷ zs) (inr i) = inr (in_bare zs i)

-- the ids of a store's namespaces are below
pub order-below : (b : Numbering) (last id : ℕ) → last < id → AreIdsUpTo last (spaces_of b) → AreBelow b.order id
order-below b last id above up = go b.order up
  where
    go : (ps : List (ℕ × ℕ)) → AllByRecursion (λ (s : Space). s.id ≤ last) (map (space_of b) ps) → AllByRecursion (λ p. p.0 < id) ps
    go [] all = tt
    go (p ∷ ps) all = (let low = all.0 in omega (arith, low, above), go ps all.1)

-- what is found in the model has a key here, and a path as long
pub key-there : (b : Numbering) → HasLaws b → (p : ℕ) → IsSome (space_at (spaces_of b) p) → (s : ℕ) × (id_at b s ≡ Some p)
key-there b l p some = go (key_of b.order p) refl
  where
    in_order : (ps : List (ℕ × ℕ)) (s : ℕ) → AllByRecursion (λ q. id_at b q.1 ≡ Some q.0) ps → key_of ps p ≡ Some s → id_at b s ≡ Some p
    in_order [] s all e = absurd (cc)
    in_order (q ∷ qs) s all e = test (λ f. in_order qs s all.1 f) (q.0 == p) refl e
      where
        test : (key_of qs p ≡ Some s → id_at b s ≡ Some p) → (t : Bool) → (q.0 == p) ≡ t → (if t then Some q.1 else key_of qs p) ≡ Some s → id_at b s ≡ Some p
        test again true is e = (let z : q.1 ≡ s = cc in ap (id_at b) (sym z) ∙ all.0 ∙ ap Some (eqb-true q.0 p is))
        test again false is e = again e

    go : (o : Option ℕ) → key_of b.order p ≡ o → (s : ℕ) × (id_at b s ≡ Some p)
    go None is = absurd (let z : false ≡ true = sym (ap is_some (space_at-is b l p ∙ ap (option_map (λ k. space_of b (p, k))) is)) ∙ some in cc)
    go (Some s) is = (s, in_order b.order s l.each is)

pub path-long : (b : Numbering) → HasLaws b → (s p : ℕ) → id_at b s ≡ Some p → length (path_up (spaces_of b) p) ≡ length (path_at b s)
path-long b l s p at = ap length (path-is b l s p 0 at (l.some s p at)) ∙ length-map (path_at b s) (id_for b l 0)

-- one more
pub up-to-next : (spaces : List Space) (last : ℕ) (x : Space) → last < x.id → AreIdsUpTo last spaces → AreIdsUpTo x.id (spaces ++ undrawn x ∷ [])
up-to-next [] last x above up = (omega arith, tt)
up-to-next (s ∷ ss) last x above up = (let low = up.0 in omega (arith, low, above), up-to-next ss last x above up.1)

-- the root alone, before the first place
pub root-first : (ss : List Space) (before : List Space) → 0 < length ss → ((s : Space) → slice_get ss 0 ≡ Some s → undrawn s ≡ record { id = 0; parent = None; cursor = 0; fallen = false })
    → before ≡ record { id = 0; parent = None; cursor = 0; fallen = false } ∷ [] → (before ≡ map undrawn (take 1 ss)) × ((s : Space) → slice_get ss 0 ≡ Some s → AreIdsUpTo s.id before)
root-first [] before some root is = absurd (omega (arith, some))
root-first (y ∷ ys) before some root is =
    (is ∙ ap (λ (s : Space). s ∷ []) (sym (root y refl)), λ s e. subst (AllByRecursion (λ (g : Space). g.id ≤ s.id)) (sym is) (omega arith, tt))
