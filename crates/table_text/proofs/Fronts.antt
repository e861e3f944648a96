-- What a text begins with, and what is left of it behind a number or a word.
use Rattle.std.proofs.Common.{◌≡◌, ◌⊎◌, inl, inr, ℕ, ◌<◌, Bool, true, false, List, [], ◌∷◌, ◌++◌, length, Option, Some, None, IfSome, decimal, refl, sym, ap, ◌∙◌, arith, lit<, append_assoc, append-nil}
use Rattle.std.specs.List.{flat_map}
use Rattle.std.specs.Char.{digit_value}
use Rattle.std.specs.Str.Parse.{AllDigits, digits_value}
use Rattle.std.proofs.lemmas.List.{append_cancel_left}
use Rattle.std.proofs.lemmas.Str.Parse.{IsNumeralModel, numerals_by_value, tells_digits, digit_from_value}
use Rattle.std.proofs.lemmas.Fmt.{digits_decimal, decimal_nonempty, decimal_injective}
use Rattle.pid_types.specs.Membership.{IsIn}
use Rattle.pid_script.specs.Answers.{joined}
use Rattle.pid_script.specs.Lists.{marked}
use Rattle.table_text.specs.Ranges.{IsWord, Each}
use Rattle.table_text.specs.Reading.{IsOther, StopsDigits}

-- std's words for digits and their value
pub numerals : IsNumeralModel (AllDigits 10) (digits_value 10)
numerals = numerals_by_value (AllDigits 10) tells_digits

-- one is above the other
abbrev pub IsApart : ℕ → ℕ → Type 0
IsApart a b = (a < b) ⊎ (b < a)

-- the text is at its end, or goes on with another byte
abbrev pub GoesOnBut : ℕ → List ℕ → Type 0
GoesOnBut c [] = Unit {0}
GoesOnBut c (b ∷ bs) = IsApart c b

-- the first bytes of equal texts are equal, and so is what follows them
pub first_told : (a b : ℕ) (x y : List ℕ) → a ∷ x ≡ b ∷ y → (a ≡ b) × (x ≡ y)
first_told a b x y e = (cc, cc)

-- texts with other first bytes differ
pub apart : (P : Type 0) (a b : ℕ) (x y : List ℕ) → a ∷ x ≡ b ∷ y → IsApart a b → P
apart P a b x y e (inl lt) = let same = (first_told a b x y e).0 in absurd (omega (arith, same, lt))
apart P a b x y e (inr gt) = let same = (first_told a b x y e).0 in absurd (omega (arith, same, gt))

-- a text that stops begins with no digit
no_digit : (x : List ℕ) (b : ℕ) (bs : List ℕ) → StopsDigits x → x ≡ b ∷ bs → digit_value b < 10 → ⊥
no_digit [] b bs stops e digit = cc e
no_digit (c ∷ cs) b bs (inl low) e digit =
    let same = (first_told c b cs bs e).0 in let range = digit_from_value b digit in omega (arith, same, low, range)
no_digit (c ∷ cs) b bs (inr high) e digit =
    let same = (first_told c b cs bs e).0 in let range = digit_from_value b digit in omega (arith, same, high, range)

-- digits up to a byte that is none
pub digits_told : (ds es x y : List ℕ) → AllDigits 10 ds → AllDigits 10 es → StopsDigits x → StopsDigits y → ds ++ x ≡ es ++ y → (ds ≡ es) × (x ≡ y)
digits_told [] [] x y a b stops_x stops_y e = (refl, e)
digits_told [] (n ∷ es) x y a b stops_x stops_y e = absurd (no_digit x n (es ++ y) stops_x e b.0)
digits_told (d ∷ ds) [] x y a b stops_x stops_y e = absurd (no_digit y d (ds ++ x) stops_y (sym e) a.0)
digits_told (d ∷ ds) (n ∷ es) x y a b stops_x stops_y e =
    let parts = first_told d n (ds ++ x) (es ++ y) e in
    let rest = digits_told ds es x y a.1 b.1 stops_x stops_y parts.1 in
    let head = parts.0 in let tail = rest.0 in
    (cc (head, tail), rest.1)

-- a number up to a byte that is no digit
pub number_told : (m n : ℕ) (x y : List ℕ) → decimal m ++ x ≡ decimal n ++ y → IsWord m → IsWord n → StopsDigits x → StopsDigits y → (m ≡ n) × (x ≡ y)
number_told m n x y e small_m small_n stops_x stops_y =
    let parts = digits_told (decimal m) (decimal n) x y (digits_decimal numerals m small_m) (digits_decimal numerals n small_n) stops_x stops_y e in
    (decimal_injective m n small_m small_n parts.0, parts.1)

-- a text that stops begins with no number
pub no_number : (P : Type 0) (n : ℕ) (x y : List ℕ) → x ≡ decimal n ++ y → IsWord n → StopsDigits x → StopsDigits y → P
no_number P n x y e small stops_x stops_y =
    let parts = digits_told [] (decimal n) x y tt (digits_decimal numerals n small) stops_x stops_y e in
    let none = ap length parts.0 in let some = decimal_nonempty n small in
    absurd (omega (arith, none, some))

-- what is true at all is true of what an option has
pub if_some : {X : Type 0} (p : Option X) (P : Type 0) → P → IfSome p (λ x. P)
if_some None P here = tt
if_some (Some x) P here = here

-- a number, or the word for none, which begins with no digit. Behind the first word for none the text need not stop
pub option_read : (f : Option ℕ → List ℕ) (c : ℕ) (cs : List ℕ) → IsOther c → f None ≡ c ∷ cs → ((n : ℕ) → f (Some n) ≡ decimal n)
    → (p q : Option ℕ) (x y : List ℕ) → f p ++ x ≡ f q ++ y → IfSome p IsWord → IfSome q IsWord → IfSome p (λ n. StopsDigits x) → StopsDigits y → (p ≡ q) × (x ≡ y)
option_read f c cs other none some None None x y e a b stops_x stops_y = (refl, append_cancel_left (f None) x y e)
option_read f c cs other none some None (Some n) x y e a b stops_x stops_y =
    no_number _ n (c ∷ (cs ++ x)) y (ap (λ w. w ++ x) (sym none) ∙ e ∙ ap (λ w. w ++ y) (some n)) b other stops_y
option_read f c cs other none some (Some m) None x y e a b stops_x stops_y =
    no_number _ m (c ∷ (cs ++ y)) x (ap (λ w. w ++ y) (sym none) ∙ sym e ∙ ap (λ w. w ++ x) (some m)) a other stops_x
option_read f c cs other none some (Some m) (Some n) x y e a b stops_x stops_y =
    let parts = number_told m n x y (ap (λ w. w ++ x) (sym (some m)) ∙ e ∙ ap (λ w. w ++ y) (some n)) a b stops_x stops_y in
    (ap Some parts.0, parts.1)

-- the same, where both stop
pub option_told : (f : Option ℕ → List ℕ) (c : ℕ) (cs : List ℕ) → IsOther c → f None ≡ c ∷ cs → ((n : ℕ) → f (Some n) ≡ decimal n)
    → (p q : Option ℕ) (x y : List ℕ) → f p ++ x ≡ f q ++ y → IfSome p IsWord → IfSome q IsWord → StopsDigits x → StopsDigits y → (p ≡ q) × (x ≡ y)
option_told f c cs other none some p q x y e a b stops_x stops_y =
    option_read f c cs other none some p q x y e a b (if_some p (StopsDigits x) stops_x) stops_y

-- a mark, where what follows it does not begin with its word
pub marked_told : (word : List ℕ) (a b : Bool) (x y : List ℕ) → marked a word ++ x ≡ marked b word ++ y
    → ((z : List ℕ) → x ≡ word ++ z → ⊥) → ((z : List ℕ) → y ≡ word ++ z → ⊥) → (a ≡ b) × (x ≡ y)
marked_told word true true x y e no_x no_y = (refl, append_cancel_left word x y e)
marked_told word true false x y e no_x no_y = absurd (no_y x (sym e))
marked_told word false true x y e no_x no_y = absurd (no_x y e)
marked_told word false false x y e no_x no_y = (refl, e)

-- the numbers behind the first one, each with its comma
abbrev pub behind : List ℕ → List ℕ
behind ns = flat_map (λ n. 44 ∷ decimal n) ns

joined_first : (n : ℕ) (ns : List ℕ) → joined 44 (n ∷ ns) ≡ decimal n ++ behind ns
joined_first n [] = simp append-nil
joined_first n (m ∷ ns) = ap (λ rest. decimal n ++ 44 ∷ rest) (joined_first m ns)

stops_commas : (ns x : List ℕ) → StopsDigits x → StopsDigits (behind ns ++ x)
stops_commas [] x stops = stops
stops_commas (n ∷ ns) x stops = inl (lit< tt)

pub stops_behind : (ns x : List ℕ) → StopsDigits (behind ns ++ 64 ∷ x)
stops_behind ns x = stops_commas ns (64 ∷ x) (inr (lit< tt))

-- the first numbers behind a comma, and what is left of all up to an at sign
behind_left : (ms ns x y : List ℕ) → behind ms ++ x ≡ behind ns ++ 64 ∷ y → Each IsWord ms → Each IsWord ns → StopsDigits x
    → (more : List ℕ) × (ns ≡ ms ++ more) × (x ≡ behind more ++ 64 ∷ y)
behind_left [] ns x y e a b stops = (ns, refl, e)
behind_left (m ∷ ms) [] x y e a b stops = apart _ 44 64 _ _ e (inl (lit< tt))
behind_left (m ∷ ms) (n ∷ ns) x y e a b stops =
    let tail = (first_told 44 44 _ _ e).1 in
    let flat : decimal m ++ (behind ms ++ x) ≡ decimal n ++ (behind ns ++ 64 ∷ y) =
    sym (append_assoc (decimal m) (behind ms) x) ∙ tail ∙ append_assoc (decimal n) (behind ns) (64 ∷ y) in
    let first = number_told m n (behind ms ++ x) (behind ns ++ 64 ∷ y) flat (a m (inl refl)) (b n (inl refl)) (stops_commas ms x stops) (stops_behind ns y) in
    let rest = behind_left ms ns x y first.1 (λ k there. a k (inr there)) (λ k there. b k (inr there)) stops in
    let head = first.0 in let others = rest.1 in
    (rest.0, cc (head, others), rest.2)

-- the numbers with commas, the first of them apart
pub joined_flat : (n : ℕ) (ns x : List ℕ) → joined 44 (n ∷ ns) ++ x ≡ decimal n ++ (behind ns ++ x)
joined_flat n ns x = ap (λ w. w ++ x) (joined_first n ns) ∙ append_assoc (decimal n) (behind ns) x

-- the first numbers with commas, and what is left of all up to an at sign
pub numbers_left : (ms ns x y : List ℕ) → joined 44 ms ++ x ≡ joined 44 ns ++ 64 ∷ y → 0 < length ms → 0 < length ns
    → Each IsWord ms → Each IsWord ns → StopsDigits x → (more : List ℕ) × (ns ≡ ms ++ more) × (x ≡ behind more ++ 64 ∷ y)
numbers_left [] ns x y e some_m some_n a b stops = absurd (omega (arith, some_m))
numbers_left (m ∷ ms) [] x y e some_m some_n a b stops = absurd (omega (arith, some_n))
numbers_left (m ∷ ms) (n ∷ ns) x y e some_m some_n a b stops =
    let flat = sym (joined_flat m ms x) ∙ e ∙ joined_flat n ns (64 ∷ y) in
    let first = number_told m n (behind ms ++ x) (behind ns ++ 64 ∷ y) flat (a m (inl refl)) (b n (inl refl)) (stops_commas ms x stops) (stops_behind ns y) in
    let rest = behind_left ms ns x y first.1 (λ k there. a k (inr there)) (λ k there. b k (inr there)) stops in
    let head = first.0 in let others = rest.1 in
    (rest.0, cc (head, others), rest.2)

-- where an at sign is what is left, there is no number more
none_left : (ms ns x y more : List ℕ) → ns ≡ ms ++ more → 64 ∷ x ≡ behind more ++ 64 ∷ y → (ms ≡ ns) × (x ≡ y)
none_left ms ns x y [] all here = (sym (all ∙ append-nil ms), (first_told 64 64 x y here).1)
none_left ms ns x y (n ∷ more) all here = apart _ 64 44 _ _ here (inr (lit< tt))

-- numbers with commas, up to an at sign
pub numbers_told : (ms ns x y : List ℕ) → joined 44 ms ++ 64 ∷ x ≡ joined 44 ns ++ 64 ∷ y
    → ((m : ℕ) → IsIn m ms → IsWord m) → ((n : ℕ) → IsIn n ns → IsWord n) → (ms ≡ ns) × (x ≡ y)
numbers_told [] [] x y e a b = (refl, (first_told 64 64 x y e).1)
numbers_told [] (n ∷ ns) x y e a b =
    no_number _ n (64 ∷ x) (behind ns ++ 64 ∷ y) (e ∙ joined_flat n ns (64 ∷ y)) (b n (inl refl)) (inr (lit< tt)) (stops_behind ns y)
numbers_told (m ∷ ms) [] x y e a b =
    no_number _ m (64 ∷ y) (behind ms ++ 64 ∷ x) (sym e ∙ joined_flat m ms (64 ∷ x)) (a m (inl refl)) (inr (lit< tt)) (stops_behind ms x)
numbers_told (m ∷ ms) (n ∷ ns) x y e a b =
    let left = numbers_left (m ∷ ms) (n ∷ ns) (64 ∷ x) y e (omega arith) (omega arith) a b (inr (lit< tt)) in
    none_left (m ∷ ms) (n ∷ ns) x y left.0 left.1 left.2

-- numbers with commas begin with no byte but a digit or an at sign
pub no_numbers : (P : Type 0) (c : ℕ) (ns x y : List ℕ) → c ∷ x ≡ joined 44 ns ++ 64 ∷ y → ((n : ℕ) → IsIn n ns → IsWord n) → IsOther c → IsApart c 64 → P
no_numbers P c [] x y e words other not_at = apart P c 64 x y e not_at
no_numbers P c (n ∷ ns) x y e words other not_at =
    no_number P n (c ∷ x) (behind ns ++ 64 ∷ y) (e ∙ joined_flat n ns (64 ∷ y)) (words n (inl refl)) other (stops_behind ns y)
