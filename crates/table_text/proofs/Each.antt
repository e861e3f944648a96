-- What is true of each element of a list.
use Rattle.std.proofs.Common.{◌≡◌, inl, inr, ℕ, suc, ◌+◌, ◌<◌, ◌≤◌, List, [], ◌∷◌, ◌++◌, length, take, get_or, map, ◌^◌, refl, sym, subst, arith, take_all, take-suc}
use Rattle.table_text.specs.Ranges.{Each}
use Rattle.table_text.specs.Reading.{IsSmall}

pub Each-none : {X : Type 0} (P : X → Type 0) → Each P []
Each-none P x there = absurd there

-- one element more
pub Each-more : {X : Type 0} (P : X → Type 0) (xs : List X) (y : X) → Each P xs → P y → Each P (xs ++ y ∷ [])
Each-more P [] y each last x (inl same) = subst P (sym same) last
Each-more P [] y each last x (inr there) = absurd there
Each-more P (z ∷ xs) y each last x (inl same) = each x (inl same)
Each-more P (z ∷ xs) y each last x (inr there) = Each-more P xs y (λ w inside. each w (inr inside)) last x there

-- small numbers of a list, from its places
pub Each-fits : (ns : List ℕ) → ((i : ℕ) → get_or ns i 0 < 2 ^ 32) → Each IsSmall ns
Each-fits [] all n there = absurd there
Each-fits (m ∷ ns) all n (inl same) = subst IsSmall (sym same) (all 0)
Each-fits (m ∷ ns) all n (inr there) = Each-fits ns (λ i. all (suc i)) n there

-- the element behind the first ones
pub Each-next : {X : Type 0} (P : X → Type 0) (xs : List X) (i : ℕ) (d : X) → i < length xs → Each P (take i xs) → P (get_or xs i d) → Each P (take (i + 1) xs)
Each-next P xs i d within each next =
    let more : suc i ≡ i + 1 = omega arith in
    subst (λ k. Each P (take k xs)) more (subst (λ ys. Each P ys) (sym (take-suc xs i d within)) (Each-more P (take i xs) (get_or xs i d) each next))

-- all of them
pub Each-all : {X : Type 0} (P : X → Type 0) (xs : List X) (i : ℕ) → length xs ≤ i → Each P (take i xs) → Each P xs
Each-all P xs i all each = subst (λ ys. Each P ys) (take_all i xs all) each

-- what is true of each element's image
pub Each-map : {X Y : Type 0} (f : X → Y) (P : Y → Type 0) (xs : List X) → Each (λ x. P (f x)) xs → Each P (map f xs)
Each-map f P [] each y there = absurd there
Each-map f P (x ∷ xs) each y (inl same) = subst P (sym same) (each x (inl refl))
Each-map f P (x ∷ xs) each y (inr there) = Each-map f P xs (λ w inside. each w (inr inside)) y there
