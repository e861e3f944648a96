-- What is written of the elements of a list, one after another.
use Rattle.std.proofs.Common.{◌≡◌, ℕ, ◌+◌, ◌<◌, List, [], ◌∷◌, ◌++◌, length, take, get_or, sym, ap, ◌∙◌}
use Rattle.std.specs.List.{flat_map}
use Rattle.std.proofs.lemmas.List.{take_more, flat_map_more}

-- what is written of some elements, and then of the next
pub one_more : {X : Type 0} (f : X → List ℕ) (before now next : List ℕ) (xs : List X) (i : ℕ) (x : X) → i < length xs → x ≡ get_or xs i x
    → now ≡ before ++ flat_map f (take i xs) → next ≡ now ++ f x → next ≡ before ++ flat_map f (take (i + 1) xs)
one_more {X} f before now next xs i x lt is was more =
    let longer : take (i + 1) xs ≡ take i xs ++ x ∷ [] = take_more xs i x lt ∙ ap (λ (y : X). take i xs ++ y ∷ []) (sym is) in
    more
    ∙ ap (λ text. text ++ f x) was
    ∙ flat_map_more f before (take i xs) x
    ∙ ap (λ ys. before ++ flat_map f ys) (sym longer)
