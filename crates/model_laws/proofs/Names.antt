-- Names and their numbers.
use Rattle.model_laws.proofs.Words.{◌≡◌, ℕ, Bool, true, ◌==◌, ◌≤◌, List, [], ◌∷◌, reverse, length, Option, Some, None, refl, ap, inl, inr, arith, option_eq, pointwise, bytes_eq-Decides, length-reverse, eqb-true, eq-eqb, and_parts, and_from, cond_both, Name, Row, Space, Thread, State, beside, path_up, number, is_numbered, same_name, is_parent, names_in_use, in_use, taken, on_row, IsIn, map, ◌⊎◌}
use Rattle.model_laws.proofs.Lists.{IsIn-append, IsIn-append_left, IsIn-append_right, IsIn-map, IsIn-from_map, IsIn-reverse, IsIn-to_reverse, IsIn-flat_map, IsIn-from_flat_map, IsIn-filter_map, IsIn-from_filter_map}

-- ---- when two names are one

-- names that the test takes for one are one
pub same_name-true : (a b : Name) → same_name a b ≡ true → a ≡ b
same_name-true a b h =
    let r = and_parts (a.space == b.space) (pointwise ◌==◌ a.numbers.items b.numbers.items) h in
    let p : a.space ≡ b.space = eqb-true a.space b.space r.0 in
    let q : a.numbers.items ≡ b.numbers.items = (bytes_eq-Decides a.numbers.items b.numbers.items).0 r.1 in
    λ i. record { space = p i; numbers = record { items = q i } }

-- a name is taken for itself
pub same_name-refl : (a b : Name) → a ≡ b → same_name a b ≡ true
same_name-refl a b e =
    and_from (a.space == b.space) (pointwise ◌==◌ a.numbers.items b.numbers.items)
    (eq-eqb a.space b.space (ap (λ x. x.space) e)) ((bytes_eq-Decides a.numbers.items b.numbers.items).1 (ap (λ x. x.numbers.items) e))

-- ---- the number beside an id

-- an id that has a number beside it is in the list, and the number is in the other
pub beside-IsIn : (s : ℕ) (ts ns : List ℕ) (n : ℕ) → beside s ts ns ≡ Some n → IsIn s ts × IsIn n ns
beside-IsIn s [] ns n h = absurd (cc)
beside-IsIn s (t ∷ ts) [] n h = absurd (cc)
beside-IsIn s (t ∷ ts) (m ∷ ns) n h = grind (arith, beside-IsIn s ts ns n, eqb-true t s)

-- where there is a number for each id, there is one beside each
pub beside-Some : (s : ℕ) (ts ns : List ℕ) → length ts ≤ length ns → IsIn s ts → (n : ℕ) × (beside s ts ns ≡ Some n)
beside-Some s [] ns h i = elim i [ ]
beside-Some s (t ∷ ts) [] h i = absurd (omega arith)
beside-Some s (t ∷ ts) (m ∷ ns) h i = cond_both (t == s) (Some m) (beside s ts ns) (λ o. (n : ℕ) × (o ≡ Some n)) (λ e. (m, refl))
    (λ e. beside-Some s ts ns (omega arith) (grind (arith, eq-eqb t s)))

-- ---- the number of a name in a namespace

-- a name has a number only on its path, one of its own
pub number-within : (spaces : List Space) (a : Name) (s n : ℕ) → number spaces a s ≡ Some n → IsIn s (path_up spaces a.space) × IsIn n a.numbers.items
unfolding number
number-within spaces a s n h = let r = beside-IsIn s (reverse (path_up spaces a.space)) a.numbers.items n h in (IsIn-reverse s (path_up spaces a.space) r.0, r.1)

-- a name with a number for each level has one in each namespace on its path
pub number-on_path : (spaces : List Space) (a : Name) (s : ℕ) → length a.numbers.items ≡ length (path_up spaces a.space)
    → IsIn s (path_up spaces a.space)
    → (n : ℕ) × (number spaces a s ≡ Some n)
unfolding number
number-on_path spaces a s h i =
    let long : length (reverse (path_up spaces a.space)) ≡ length (path_up spaces a.space) = length-reverse (path_up spaces a.space) in
    beside-Some s (reverse (path_up spaces a.space)) a.numbers.items (omega arith) (IsIn-to_reverse s (path_up spaces a.space) i)

-- off its path a name has no number
pub number-off_path : (spaces : List Space) (a : Name) (s : ℕ) → (IsIn s (path_up spaces a.space) → ⊥) → number spaces a s ≡ None
number-off_path spaces a s off = grind (arith, number-within spaces a s)

-- a name's numbers are the same where its path is
pub number-same_path : (spaces others : List Space) (a : Name) (s : ℕ) → path_up others a.space ≡ path_up spaces a.space
    → number others a s ≡ number spaces a s
unfolding number
number-same_path spaces others a s e = ap (λ path. beside s (reverse path) a.numbers.items) e

-- an option is the one, where the test says so
pub option_eq-true : {A : Type 0} (eq : A → A → Bool) → ((x y : A) → eq x y ≡ true → x ≡ y) → (o : Option A) (a : A)
    → option_eq eq o (Some a) ≡ true → o ≡ Some a
option_eq-true eq same None a h = absurd (cc)
option_eq-true eq same (Some x) a h = ap Some (same x a h)

-- a name that has the number by the test has it
pub is_numbered-true : (spaces : List Space) (a : Name) (s n : ℕ) → is_numbered spaces a s n ≡ true → number spaces a s ≡ Some n
is_numbered-true spaces a s n h = option_eq-true ◌==◌ eqb-true (number spaces a s) n h

-- and is found by the test
pub is_numbered-from : (spaces : List Space) (a : Name) (s n : ℕ) → number spaces a s ≡ Some n → is_numbered spaces a s n ≡ true
is_numbered-from spaces a s n h = rw h (eq-eqb n n refl)

-- ---- the names in use

-- the row has the name as its own, its group's or its session's
abbrev pub Uses : Row → Name → Type 0
Uses row a = IsIn a (row.name ∷ row.group ∷ row.session ∷ [])

-- a name that a row uses is in use
pub IsIn-names_in_use : (rows : List Row) (row : Row) (a : Name) → IsIn row rows → Uses row a → IsIn a (names_in_use rows)
IsIn-names_in_use rows row a i u = IsIn-flat_map (λ (r : Row). r.name ∷ r.group ∷ r.session ∷ []) row a rows i u

-- a name in use is used by a row
pub user_of_name : (rows : List Row) (a : Name) → IsIn a (names_in_use rows) → (row : Row) × IsIn row rows × Uses row a
user_of_name rows a i = IsIn-from_flat_map (λ (r : Row). r.name ∷ r.group ∷ r.session ∷ []) a rows i

-- a row's own name is in use
pub own_name_in_use : (rows : List Row) (row : Row) → IsIn row rows → IsIn row.name (names_in_use rows)
own_name_in_use rows row i = IsIn-names_in_use rows row row.name i (inl refl)

-- and its group's
pub group_in_use : (rows : List Row) (row : Row) → IsIn row rows → IsIn row.group (names_in_use rows)
group_in_use rows row i = IsIn-names_in_use rows row row.group i (inr (inl refl))

-- and its session's
pub session_in_use : (rows : List Row) (row : Row) → IsIn row rows → IsIn row.session (names_in_use rows)
session_in_use rows row i = IsIn-names_in_use rows row row.session i (inr (inr (inl refl)))

-- what a row uses is in use
pub used_by_row : (state : State) (a : Name) → IsIn a (names_in_use state.rows) → IsIn a (in_use state)
used_by_row state a i = IsIn-append_right a (map (λ (t : Thread). t.name) state.threads) (names_in_use state.rows) i

-- so is a row's own name
pub own_in_use : (state : State) (row : Row) → IsIn row state.rows → IsIn row.name (in_use state)
own_in_use state row i = used_by_row state row.name (own_name_in_use state.rows row i)

-- and a thread's
pub thread_in_use : (state : State) (t : Thread) → IsIn t state.threads → IsIn t.name (in_use state)
thread_in_use state t i =
    IsIn-append_left t.name (map (λ (u : Thread). u.name) state.threads) (names_in_use state.rows) (IsIn-map (λ (u : Thread). u.name) t state.threads i)

-- a name in use is used by a row, or is a thread's
pub in_use_cases : (state : State) (a : Name) → IsIn a (in_use state)
    → IsIn a (names_in_use state.rows) ⊎ ((t : Thread) × IsIn t state.threads × (a ≡ t.name))
in_use_cases state a i = elim (IsIn-append a (map (λ (t : Thread). t.name) state.threads) (names_in_use state.rows) i) [
  | inl j ↦ inr (IsIn-from_map (λ (t : Thread). t.name) a state.threads j)
  | inr j ↦ inl j
]

-- a number of a name in use is taken
pub IsIn-taken : (state : State) (a : Name) (s n : ℕ) → IsIn a (in_use state) → number state.spaces a s ≡ Some n → IsIn n (taken state s)
unfolding taken
IsIn-taken state a s n i e = IsIn-filter_map (λ name. number state.spaces name s) a n (in_use state) i e

-- a taken number is that of a name in use
pub user_of_number : (state : State) (s n : ℕ) → IsIn n (taken state s)
    → (a : Name) × IsIn a (in_use state) × (number state.spaces a s ≡ Some n)
unfolding taken
user_of_number state s n i = IsIn-from_filter_map (λ name. number state.spaces name s) n (in_use state) i

-- what the change of a row keeps, its change at one name keeps
pub on_row-keeps : {A : Type 0} (name : Name) (change : Row → Row) (part : Row → A) → ((r : Row) → part (change r) ≡ part r) → (r : Row)
    → part (on_row name change r) ≡ part r
on_row-keeps name change part keeps r = grind (arith, keeps r)

-- what holds of a row changed, and of it as it was, holds of it after the change at one name
pub on_row-both : (P : Row → Type 0) (name : Name) (change : Row → Row) (r : Row) → (r.name ≡ name → P (change r)) → P r → P (on_row name change r)
on_row-both P name change r changed same = cond_both (same_name r.name name) (change r) r P (λ e. changed (same_name-true r.name name e)) (λ e. same)

-- a child's parent is the name
pub is_parent-true : (a : Name) (r : Row) → is_parent a r ≡ true → r.parent ≡ Some a
is_parent-true a r h = option_eq-true same_name same_name-true r.parent a h

-- a row with that parent is a child
pub is_parent-from : (a : Name) (r : Row) → r.parent ≡ Some a → is_parent a r ≡ true
is_parent-from a r e = rw e (same_name-refl a a refl)
