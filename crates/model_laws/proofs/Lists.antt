-- Elements of lists.
use Rattle.model_laws.proofs.Words.{◌<◌, length, arith, ◌≡◌, ℕ, Bool, true, false, List, [], ◌∷◌, ◌++◌, map, reverse, Option, Some, None, refl, sym, ap, ◌∙◌, subst, ◌⊎◌, inl, inr, ◌==◌, find, filter, filter_map, flat_map, option_map, list_any, reverse-append, eqb-true, eq-eqb, contains, IsIn}

-- ---- joined and turned lists

-- an element of two joined lists is one of either
pub IsIn-append : {X : Type 0} (x : X) (xs ys : List X) → IsIn x (xs ++ ys) → IsIn x xs ⊎ IsIn x ys
IsIn-append x [] ys h = inr h
IsIn-append x (y ∷ xs) ys h = grind (arith, IsIn-append x xs ys)

-- one of the first
pub IsIn-append_left : {X : Type 0} (x : X) (xs ys : List X) → IsIn x xs → IsIn x (xs ++ ys)
IsIn-append_left x [] ys h = elim h [ ]
IsIn-append_left x (y ∷ xs) ys h = grind (arith, IsIn-append_left x xs ys)

-- one of the second
pub IsIn-append_right : {X : Type 0} (x : X) (xs ys : List X) → IsIn x ys → IsIn x (xs ++ ys)
IsIn-append_right x [] ys h = h
IsIn-append_right x (y ∷ xs) ys h = inr (IsIn-append_right x xs ys h)

-- what holds of one thing holds of each element of a list of it
pub only : {X : Type 0} (y : X) (P : X → Type 0) → P y → (x : X) → IsIn x (y ∷ []) → P x
only y P h x (inl e) = subst P (sym e) h
only y P h x (inr none) = elim none [ ]

-- what holds of each element and of one thing more holds of each element of the list with it
pub each_pushed : {X : Type 0} (P : X → Type 0) (xs : List X) (y : X) → ((x : X) → IsIn x xs → P x) → P y → (x : X) → IsIn x (xs ++ y ∷ []) → P x
each_pushed P xs y old new x i = elim (IsIn-append x xs (y ∷ []) i) [ inl j ↦ old x j | inr j ↦ only y P new x j ]

-- a list without elements is empty
pub no_element : {X : Type 0} (xs : List X) → ((x : X) → IsIn x xs → ⊥) → xs ≡ []
no_element [] none = refl
no_element (x ∷ xs) none = absurd (none x (inl refl))

-- a list turned round has no other elements
pub IsIn-reverse : {X : Type 0} (x : X) (xs : List X) → IsIn x (reverse xs) → IsIn x xs
IsIn-reverse x [] h = h
IsIn-reverse x (y ∷ xs) h =
    grind (arith, IsIn-append x (reverse xs) (y ∷ []) (subst (λ l. IsIn x l) (reverse-append (y ∷ []) xs) h), IsIn-reverse x xs)

-- and has them all
pub IsIn-to_reverse : {X : Type 0} (x : X) (xs : List X) → IsIn x xs → IsIn x (reverse xs)
IsIn-to_reverse x [] h = h
IsIn-to_reverse x (y ∷ xs) (inl e) = subst (λ l. IsIn x l) (sym (reverse-append (y ∷ []) xs)) (IsIn-append_right x (reverse xs) (y ∷ []) (inl e))
IsIn-to_reverse x (y ∷ xs) (inr h) =
    subst (λ l. IsIn x l) (sym (reverse-append (y ∷ []) xs)) (IsIn-append_left x (reverse xs) (y ∷ []) (IsIn-to_reverse x xs h))

-- a list with an element is not empty
pub length-IsIn : {X : Type 0} (x : X) (xs : List X) → IsIn x xs → 0 < length xs
length-IsIn x [] i = elim i [ ]
length-IsIn x (y ∷ xs) i = omega arith

-- what holds of nothing, and of each thing, holds of what a search finds
pub option_both : {A : Type 0} (o : Option A) (P : Option A → Type 0) → (o ≡ None → P None) → ((a : A) → o ≡ Some a → P (Some a)) → P o
option_both None P none some = none refl
option_both (Some a) P none some = some a refl

-- ---- mapped and filtered lists

-- the image of an element is one of the image
pub IsIn-map : {X Y : Type 0} (f : X → Y) (x : X) (xs : List X) → IsIn x xs → IsIn (f x) (map f xs)
IsIn-map f x [] h = h
IsIn-map f x (y ∷ xs) h = grind (arith, IsIn-map f x xs)

-- an element of a mapped list comes from one of the list
pub IsIn-from_map : {X Y : Type 0} (f : X → Y) (y : Y) (xs : List X) → IsIn y (map f xs) → (x : X) × IsIn x xs × (y ≡ f x)
IsIn-from_map f y [] h = elim h [ ]
IsIn-from_map f y (x ∷ xs) h = grind (arith, IsIn-from_map f y xs)

-- what holds of the image of each element holds of each element of the image
pub each_of_map : {X Y : Type 0} (P : Y → Type 0) (f : X → Y) (xs : List X) → ((x : X) → IsIn x xs → P (f x)) → (y : Y) → IsIn y (map f xs) → P y
each_of_map P f xs h y i = let q = IsIn-from_map f y xs i in subst P (sym q.2) (h q.0 q.1)

-- what a filter keeps is in the list and passes
pub IsIn-from_filter : {X : Type 0} (p : X → Bool) (x : X) (xs : List X) → IsIn x (filter p xs) → IsIn x xs × (p x ≡ true)
IsIn-from_filter p x [] h = elim h [ ]
IsIn-from_filter p x (y ∷ xs) h = grind (arith, IsIn-from_filter p x xs)

-- an element that passes is kept
pub IsIn-filter : {X : Type 0} (p : X → Bool) (x : X) (xs : List X) → IsIn x xs → p x ≡ true → IsIn x (filter p xs)
IsIn-filter p x [] h pass = h
IsIn-filter p x (y ∷ xs) h pass = grind (arith, IsIn-filter p x xs)

-- an element of a part is one of the whole
pub IsIn-flat_map : {X Y : Type 0} (f : X → List Y) (x : X) (y : Y) (xs : List X) → IsIn x xs → IsIn y (f x) → IsIn y (flat_map f xs)
IsIn-flat_map f x y [] i j = elim i [ ]
IsIn-flat_map f x y (z ∷ xs) i j =
    grind (arith, IsIn-append_left y (f z) (flat_map f xs), IsIn-append_right y (f z) (flat_map f xs), IsIn-flat_map f x y xs)

-- an element of the whole is one of a part
pub IsIn-from_flat_map : {X Y : Type 0} (f : X → List Y) (y : Y) (xs : List X) → IsIn y (flat_map f xs) → (x : X) × IsIn x xs × IsIn y (f x)
IsIn-from_flat_map f y [] h = elim h [ ]
IsIn-from_flat_map f y (x ∷ xs) h = grind (arith, IsIn-append y (f x) (flat_map f xs), IsIn-from_flat_map f y xs)

-- what an element gives is among what all give
pub IsIn-filter_map : {X : Type 0} (f : X → Option ℕ) (x : X) (n : ℕ) (xs : List X) → IsIn x xs → f x ≡ Some n → IsIn n (filter_map f xs)
IsIn-filter_map f x n [] i e = elim i [ ]
IsIn-filter_map f x n (y ∷ xs) i e = grind (arith, IsIn-filter_map f x n xs)

-- what all give is given by an element
pub IsIn-from_filter_map : {X : Type 0} (f : X → Option ℕ) (n : ℕ) (xs : List X) → IsIn n (filter_map f xs) → (x : X) × IsIn x xs × (f x ≡ Some n)
IsIn-from_filter_map f n [] h = elim h [ ]
IsIn-from_filter_map f n (y ∷ xs) h = grind (arith, IsIn-from_filter_map f n xs)

-- ---- tests of some elements

-- where some passes, here is one
pub some_passes : {X : Type 0} (p : X → Bool) (xs : List X) → list_any p xs ≡ true → (x : X) × IsIn x xs × (p x ≡ true)
some_passes p [] h = absurd (cc)
some_passes p (y ∷ xs) h = grind (arith, some_passes p xs)

-- where one passes, some does
pub list_any-from_one : {X : Type 0} (p : X → Bool) (xs : List X) (x : X) → IsIn x xs → p x ≡ true → list_any p xs ≡ true
list_any-from_one p [] x i e = elim i [ ]
list_any-from_one p (y ∷ xs) x i e = grind (arith, list_any-from_one p xs x)

-- what the test finds is an element
pub IsIn-from_contains : (ns : List ℕ) (n : ℕ) → contains ns n ≡ true → IsIn n ns
IsIn-from_contains ns n h = let r = some_passes (λ m. m == n) ns h in subst (λ m. IsIn m ns) (eqb-true r.0 n r.2) r.1

-- an element is found by the test
pub contains-from_IsIn : (ns : List ℕ) (n : ℕ) → IsIn n ns → contains ns n ≡ true
contains-from_IsIn ns n i = list_any-from_one (λ m. m == n) ns n i (eq-eqb n n refl)

-- ---- the first element that passes

-- what is found is in the list and passes
pub find-Some : {X : Type 0} (p : X → Bool) (xs : List X) (x : X) → find p xs ≡ Some x → IsIn x xs × (p x ≡ true)
find-Some p [] x h = absurd (cc)
find-Some p (y ∷ xs) x h = grind (arith, find-Some p xs x)

-- where nothing is found, nothing passes
pub find-None : {X : Type 0} (p : X → Bool) (xs : List X) → find p xs ≡ None → (x : X) → IsIn x xs → p x ≡ false
find-None p [] h x i = elim i [ ]
find-None p (y ∷ xs) h x i = grind (arith, find-None p xs)

-- where nothing passes, nothing is found
pub find-none : {X : Type 0} (p : X → Bool) (xs : List X) → ((x : X) → IsIn x xs → p x ≡ false) → find p xs ≡ None
find-none p [] h = refl
find-none p (y ∷ xs) h = rw (h y (inl refl)) (find-none p xs (λ x i. h x (inr i)))

-- where one passes, one is found
pub find-found : {X : Type 0} (p : X → Bool) (xs : List X) (x : X) → IsIn x xs → p x ≡ true → (y : X) × (find p xs ≡ Some y)
find-found p xs x i e = let some : find p xs ≡ None → ⊥ = λ f. (let no : p x ≡ false = find-None p xs f x i in cc) in grind (arith, some)

-- where only one passes, it is found
pub find-only : {X : Type 0} (p : X → Bool) (xs : List X) (x : X) → IsIn x xs → p x ≡ true → ((y : X) → IsIn y xs → p y ≡ true → y ≡ x)
    → find p xs ≡ Some x
find-only p xs x i e only =
    let r = find-found p xs x i e in
    let s = find-Some p xs r.0 r.1 in
    r.1 ∙ ap Some (only r.0 s.0 s.1)

-- a search in the image finds the image
pub find-map : {X Y : Type 0} (f : X → Y) (p : Y → Bool) (xs : List X) → find p (map f xs) ≡ option_map f (find (λ x. p (f x)) xs)
find-map f p [] = refl
find-map f p (x ∷ xs) = grind (arith, find-map f p xs)

-- tests that agree on the elements find the same
pub find-same : {X : Type 0} (p q : X → Bool) (xs : List X) → ((x : X) → IsIn x xs → p x ≡ q x) → find p xs ≡ find q xs
find-same p q [] same = refl
find-same p q (x ∷ xs) same = rw (same x (inl refl), find-same p q xs (λ y i. same y (inr i))) refl

-- tests that agree on the elements keep the same
pub filter-same : {X : Type 0} (p q : X → Bool) (xs : List X) → ((x : X) → IsIn x xs → p x ≡ q x) → filter p xs ≡ filter q xs
filter-same p q [] same = refl
filter-same p q (x ∷ xs) same = rw (same x (inl refl), filter-same p q xs (λ y i. same y (inr i))) refl

-- where all pass, all are kept
pub filter-all : {X : Type 0} (p : X → Bool) (xs : List X) → ((x : X) → IsIn x xs → p x ≡ true) → filter p xs ≡ xs
filter-all p [] all = refl
filter-all p (x ∷ xs) all = rw (all x (inl refl)) (ap (λ ys. x ∷ ys) (filter-all p xs (λ y i. all y (inr i))))

-- a search finds the same where what passes it is kept
pub find-filter : {X : Type 0} (p q : X → Bool) (xs : List X) → ((x : X) → IsIn x xs → p x ≡ true → q x ≡ true) → find p (filter q xs) ≡ find p xs
find-filter p q [] keep = refl
find-filter p q (x ∷ xs) keep = grind (arith, keep x, find-filter p q xs (λ y i. keep y (inr i)))

-- where nothing of the first passes, the second is
pub find-append_last : {X : Type 0} (p : X → Bool) (xs ys : List X) → find p xs ≡ None → find p (xs ++ ys) ≡ find p ys
find-append_last p [] ys none = refl
find-append_last p (x ∷ xs) ys none = grind (arith, find-append_last p xs ys)

-- what is found in the first is found
pub find-append_found : {X : Type 0} (p : X → Bool) (xs ys : List X) (x : X) → find p xs ≡ Some x → find p (xs ++ ys) ≡ Some x
find-append_found p [] ys x found = absurd (cc)
find-append_found p (y ∷ xs) ys x found = grind (arith, find-append_found p xs ys x)
