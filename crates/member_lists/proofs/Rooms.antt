-- A list with room behind it: it gets the default some times more.
use Rattle.std.proofs.Common.{◌≡◌, ℕ, zero, suc, ◌+◌, ◌-◌, List, [], ◌∷◌, ◌++◌, map, take, get_or, replicate, refl, sym, ap, ◌∙◌, arith}
use Rattle.std.specs.Vec.{vec_len}
use Rattle.std.specs.declared.vec.Vec.{Vec}
use Rattle.std.proofs.lemmas.List.{get_or_past, map-append, take_all}

-- a vector that was resized to so many more
pub resized : {X Z : Type 0} (v : Vec X Z) (ys : List X) (k n : ℕ) (x : X) → k ≡ vec_len v → ys ≡ take (k + n) v.items ++ replicate (k + n - vec_len v) x → ys ≡ v.items ++ replicate n x
resized v ys k n x same is = grind (arith, take_all)

map-replicate : {X Y : Type 0} (f : X → Y) (n : ℕ) (x : X) → map f (replicate n x) ≡ replicate n (f x)
map-replicate f zero x = refl
map-replicate f (suc n) x = ap (λ ys. f x ∷ ys) (map-replicate f n x)

pub map-append-replicate : {X Y : Type 0} (f : X → Y) (xs : List X) (n : ℕ) (x : X) → map f (xs ++ replicate n x) ≡ map f xs ++ replicate n (f x)
map-append-replicate f xs n x = map-append f xs (replicate n x) ∙ ap (λ ys. map f xs ++ ys) (map-replicate f n x)

get_or-replicate_default : {X : Type 0} (n : ℕ) (d : X) (i : ℕ) → get_or (replicate n d) i d ≡ d
get_or-replicate_default zero d i = get_or_past [] i d (omega arith)
get_or-replicate_default (suc n) d zero = refl
get_or-replicate_default (suc n) d (suc i) = get_or-replicate_default n d i

-- it reads as before
pub get_or-append-replicate : {X : Type 0} (xs : List X) (n : ℕ) (d : X) (i : ℕ) → get_or (xs ++ replicate n d) i d ≡ get_or xs i d
get_or-append-replicate [] n d i = get_or-replicate_default n d i ∙ sym (get_or_past [] i d (omega arith))
get_or-append-replicate (x ∷ xs) n d zero = refl
get_or-append-replicate (x ∷ xs) n d (suc i) = get_or-append-replicate xs n d i
