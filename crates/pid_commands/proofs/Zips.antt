-- Two lists that go together, and one more of each.
use Rattle.std.proofs.Common.{List, [], ◌∷◌, ◌++◌}
use Rattle.std.specs.List.{AllZip}

pub AllZip-one_more : {A B : Type 0} (R : A → B → Type 0) (xs : List A) (ys : List B) (x : A) (y : B)
    → AllZip R xs ys → R x y → AllZip R (xs ++ x ∷ []) (ys ++ y ∷ [])
AllZip-one_more R [] [] x y zips one = (one, tt)
AllZip-one_more R [] (q ∷ qs) x y zips one = absurd zips
AllZip-one_more R (p ∷ ps) [] x y zips one = absurd zips
AllZip-one_more R (p ∷ ps) (q ∷ qs) x y zips one = (zips.0, AllZip-one_more R ps qs x y zips.1 one)
