-- Control groups of a text that are a tree: each may follow those before it.
use Rattle.std.proofs.Common.{◌≡◌, inl, ℕ, suc, ◌+◌, ◌-◌, ◌<◌, ◌≤◌, List, [], ◌∷◌, ◌++◌, length, take, drop, Option, Some, None, refl, sym, ap, subst, ◌∙◌, arith, slice_get}
use Rattle.std.specs.List.{AllByRecursion}
use Rattle.pid_types.specs.declared.plain.Control.{Control}
use Rattle.pid_types.specs.Bounds.{deepest_control}
use Rattle.pid_types.specs.Controls.{control_path}
use Rattle.pid_types.specs.Membership.{IsIn}
use Rattle.table_build.specs.Follows.{AreGoodControls, AreUpToLast, MayFollow}
use Rattle.table_build.proofs.Following.{all-below, first-root, in_middle, inside, lastly, parted}

abbrev id_of : Control → ℕ
id_of c = c.id

abbrev parent_of : Control → Option ℕ
parent_of c = c.parent

-- the root stands first
pub root-at : (cs : List Control) (x : Control) → slice_get cs 0 ≡ Some x → AreGoodControls cs → x ≡ record { id = 0; parent = None; limit = None }
root-at cs x e good =
    let r = first-root id_of parent_of deepest_control (control_path cs) cs x e good.tree in
    let limit = (good.limits x (there cs e)).root r.0 in
    λ i. record { id = r.0 i; parent = r.1 i; limit = limit i }
  where
    there : (cs : List Control) → slice_get cs 0 ≡ Some x → IsIn x cs
    there [] e = absurd (cc)
    there (y ∷ ys) e = inl (let w : x ≡ y = cc in w)

-- each other one may follow
may-follow : (before rest : List Control) (x y : Control) → AreGoodControls (before ++ x ∷ rest) → IsIn y before → MayFollow before y.id x
unfolding control_path
may-follow before rest x y good i =
    let up = all-below id_of parent_of deepest_control before rest x good.tree.rising y i in
    record {
      above = up;
      inside = inside id_of parent_of deepest_control before rest x good.tree (omega (arith, up));
      good = good.limits x (in_middle id_of parent_of deepest_control x before rest);
    }

pub follows-at : (cs : List Control) (i : ℕ) (x y : Control) → slice_get cs i ≡ Some x → slice_get cs (i - 1) ≡ Some y → 0 < i → AreGoodControls cs → MayFollow (take i cs) y.id x
follows-at cs i x y here last some good =
    may-follow (take i cs) (drop (suc i) cs) x y (subst AreGoodControls (parted id_of parent_of deepest_control cs i x here) good) (lastly id_of parent_of deepest_control cs i y some last)

-- whoever was put last is the one before the next place
pub last-in : (cs : List Control) (i : ℕ) (x : Control) (before : List Control) → slice_get cs i ≡ Some x → AllByRecursion (λ g. g.id ≤ x.id) before → AreUpToLast before cs (i + 1)
last-in cs i x before here below c e =
    let same : x ≡ c = (let place : (i + 1) - 1 ≡ i = omega arith in let z = sym here ∙ sym (ap (slice_get cs) place) ∙ e in let w : x ≡ c = cc in w) in
    subst (λ (y : Control). AllByRecursion (λ g. g.id ≤ y.id) before) same below

-- the root alone, before the first place
pub root-first : (cs : List Control) (before : List Control) → 0 < length cs → ((c : Control) → slice_get cs 0 ≡ Some c → c ≡ record { id = 0; parent = None; limit = None })
    → before ≡ record { id = 0; parent = None; limit = None } ∷ [] → (before ≡ take 1 cs) × AreUpToLast before cs 1
root-first [] before some root is = absurd (omega (arith, some))
root-first (y ∷ ys) before some root is =
    let first = root y refl in
    (is ∙ ap (λ (c : Control). c ∷ []) (sym first), λ c e. subst (AllByRecursion (λ (g : Control). g.id ≤ c.id)) (sym is) (omega arith, tt))
