-- Tests, and what they say.
use Rattle.std.proofs.Common.{◌≡◌, Bool, true, false, ◌&&◌, refl, ◌↔◌, List, [], ◌∷◌, ◌++◌}
use Rattle.std.proofs.lemmas.List.{same_from_push}

pub both_of : (x y : Bool) → (x && y) ≡ true → (x ≡ true) × (y ≡ true)
both_of true y h = (refl, h)
both_of false y h = cc

pub to_both : (x y : Bool) → x ≡ true → y ≡ true → (x && y) ≡ true
to_both true y a b = b
to_both false y a b = a

-- two lists of one item more are the same where the lists and the items are
pub one_more_same : {X : Type 0} (b t : Bool) (xs ys : List X) (x y : X) → ((b ≡ true) ↔ (xs ≡ ys)) → ((t ≡ true) ↔ (x ≡ y))
    → ((b && t) ≡ true) ↔ (xs ++ x ∷ [] ≡ ys ++ y ∷ [])
one_more_same b t xs ys x y lists items = (
  (λ h. let both = both_of b t h in (λ i. lists.0 both.0 i ++ items.0 both.1 i ∷ [])),
  (λ h. let both = same_from_push xs ys x y h in to_both b t (lists.1 both.0) (items.1 both.1)),
)
