-- Lists of control groups whose ids rise.
use Rattle.std.proofs.Common.{◌≡◌, ℕ, ◌<◌, ◌≤◌, nat_lt, Bool, false, List, [], ◌∷◌, ◌++◌, map, Option, None, Some, option_and_then, if◌then◌else◌, refl, ap, ◌∙◌, arith}
use Rattle.std.specs.Option.{option_map_or}
use Rattle.std.specs.List.{AllByRecursion}
use Rattle.std.proofs.lemmas.Bool.{eq-eqb}
use Rattle.pid_types.proofs.General.{apart}
use Rattle.pid_types.specs.declared.plain.Control.{Control}
use Rattle.pid_types.specs.Bounds.{greatest_limit}
use Rattle.pid_types.specs.Changes.{limited}
use Rattle.pid_types.specs.Controls.{control_at, parent_control}
use Rattle.pid_types.specs.Sound.{HasGoodLimit}

-- the limit of the last one is set, and no other's
pub limited-last : (controls : List Control) (control : Control) (last : ℕ) → last < control.id → AllByRecursion (λ g. g.id ≤ last) controls
    → map (limited control.id control.limit) (controls ++ record control { limit = None } ∷ []) ≡ controls ++ control ∷ []
limited-last [] control last above below = ap (λ b. record control { limit = if b then control.limit else None } ∷ []) (eq-eqb control.id control.id (λ i. control.id))
limited-last (g ∷ gs) control last above below =
    ap (λ b. record g { limit = if b then control.limit else g.limit } ∷ map (limited control.id control.limit) (gs ++ record control { limit = None } ∷ []))
    (apart g.id control.id (λ same. let b = below.0 in omega (arith, above, b, same)))
    ∙ ap (λ cs. g ∷ cs) (limited-last gs control last above below.1)

-- and the ids are up to its own
pub below-last : (controls : List Control) (control : Control) (last : ℕ) → last < control.id → AllByRecursion (λ g. g.id ≤ last) controls
    → AllByRecursion (λ g. g.id ≤ control.id) (controls ++ control ∷ [])
below-last [] control last above below = (omega arith, tt)
below-last (g ∷ gs) control last above below = (let b = below.0 in omega (arith, above, b), below-last gs control last above below.1)

-- the last one's parent
pub parent-last : (controls : List Control) (control : Control) (last : ℕ) → last < control.id → AllByRecursion (λ g. g.id ≤ last) controls
    → parent_control (controls ++ record control { limit = None } ∷ []) control.id ≡ control.parent
parent-last controls control last above below = ap (option_and_then (λ c. c.parent)) (found controls below)
  where
    found : (gs : List Control) → AllByRecursion (λ g. g.id ≤ last) gs → control_at (gs ++ record control { limit = None } ∷ []) control.id ≡ Some (record control { limit = None })
    found [] below = ap (λ (b : Bool). if b then Some (record control { limit = None }) else None) (eq-eqb control.id control.id (λ i. control.id))
    found (g ∷ gs) below =
        ap (λ (b : Bool). if b then Some g else control_at (gs ++ record control { limit = None } ∷ []) control.id) (apart g.id control.id (λ same. let b = below.0 in omega (arith, above, b, same)))
        ∙ found gs below.1

-- a limit that may be
pub limit-good : (control : Control) → HasGoodLimit control → option_map_or (nat_lt greatest_limit) control.limit false ≡ false
limit-good control good = go control.limit refl
  where
    go : (o : Option ℕ) → control.limit ≡ o → option_map_or (nat_lt greatest_limit) o false ≡ false
    go None e = refl
    go (Some limit) e = let most = good.bounded limit e in (let z : nat_lt greatest_limit limit ≡ false = grind (arith, most) in z)
