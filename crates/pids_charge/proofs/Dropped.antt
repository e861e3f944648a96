-- What the end of nodes that do not stand leaves of the rest, and a move of a task.
use Rattle.pids_charge.proofs.Words.{List, None, Option, [], ap, arith, length, map, option_map, refl, sym, ℕ, ◌+◌, ◌-◌, ◌<◌, ◌∙◌, ◌∷◌, ◌≡◌, ◌≤◌}
use Rattle.pids_charge.proofs.Words.{cases_eq, eq-eqb, AllByRecursion, ContainsKey, Slab, ChangesHome, Charges, Home, home_at, after_move, AreLinked, DropsEmpty}
use Rattle.pids_charge.proofs.Words.{AreTotals, IsChargeTree, IsListed, charges_of, control_in, limit_in, total_at, IsNodeTree, tree_of, Counter, Node}
use Rattle.pids_charge.proofs.Climbs.{eqb-apart}
use Rattle.pids_charge.proofs.Views.{home_at-is}

pub all-weaken : {X : Type 0} (P Q : X → Type 0) → ((x : X) → P x → Q x) → (xs : List X) → AllByRecursion P xs → AllByRecursion Q xs
all-weaken P Q f [] all = tt
all-weaken P Q f (x ∷ xs) all = (f x all.0, all-weaken P Q f xs all.1)

pub map-where : {X Y : Type 0} (P : X → Type 0) (f g : X → Y) → ((x : X) → P x → f x ≡ g x) → (xs : List X) → AllByRecursion P xs → map f xs ≡ map g xs
map-where P f g same [] all = refl
map-where P f g same (x ∷ xs) all = ap (λ y. y ∷ map f xs) (same x all.0) ∙ ap (λ ys. g x ∷ ys) (map-where P f g same xs all.1)

module _ (old new : Slab Node) (d : DropsEmpty old new) where
  pub IsListed-dropped : (children : List (Option ℕ)) (ids : List (ℕ × ℕ)) → IsListed (tree_of old) children ids → IsListed (tree_of new) children ids
  IsListed-dropped children ids l = grind (arith, all-weaken)

  pub IsKept-dropped : (counters : List Counter) (children : List (Option ℕ)) (ids : List (ℕ × ℕ)) → IsNodeTree (tree_of new) → AreTotals new (total_at counters) None → AreLinked new counters → IsListed (tree_of old) children ids
      → ((k : ℕ) → ContainsKey old k → k < length children) → length children ≤ 1073741824 → IsChargeTree new counters children ids
  IsKept-dropped counters children ids tree counted linked listed room small =
      record { tree = tree; counted = counted; linked = linked; listed = IsListed-dropped children ids listed; room = λ k on. room k (d.there k on); small = small }

  -- the control groups are the same
  pub controls-dropped : (children : List (Option ℕ)) (ids : List (ℕ × ℕ)) → IsNodeTree (tree_of old) → IsListed (tree_of old) children ids
      → map (control_in (tree_of new) (limit_in new)) ids ≡ map (control_in (tree_of old) (limit_in old)) ids
  controls-dropped children ids w l = grind (arith, map-where)

  pub ChangesHome-dropped : (v : Charges) (home : ℕ) (after : Option Home) (children : List (Option ℕ)) (ids : List (ℕ × ℕ)) → IsNodeTree (tree_of old) → IsListed (tree_of old) children ids
      → ChangesHome v (charges_of old ids) home after → ChangesHome v (charges_of new ids) home after
  ChangesHome-dropped v home after children ids w l c = record {
    controls = controls-dropped children ids w l ∙ c.controls;
    here = home_at-is new ids home ∙ d.shown home ∙ sym (home_at-is old ids home) ∙ c.here;
    others = λ k differs. home_at-is new ids k ∙ d.shown k ∙ sym (home_at-is old ids k) ∙ c.others k differs;
  }

-- a task is taken from one key, and then put at one
pub moves : (v u x : Charges) (from to : ℕ)
    → ChangesHome v u from (option_map (λ (h : Home). record h { live = h.live - 1 }) (home_at v from))
    → ChangesHome u x to (option_map (λ (h : Home). record h { live = h.live + 1 }) (home_at u to))
    → (k : ℕ) → home_at x k ≡ option_map (after_move from to k) (home_at v k)
moves v u x from to a b k = grind (arith, cases_eq, eq-eqb, eqb-apart)
