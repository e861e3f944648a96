-- The words of a task's line, and what is left of a text behind each.
use Rattle.std.proofs.Common.{◌≡◌, inl, inr, ℕ, List, [], ◌∷◌, ◌++◌, Option, Some, None, IfSome, decimal, codes, refl, sym, ap, ◌∙◌, lit<, append_assoc}
use Rattle.std.proofs.lemmas.List.{append_cancel_left}
use Rattle.pid_types.specs.declared.plain.Name.{Name}
use Rattle.pid_types.specs.declared.plain.Life.{Life}
use Rattle.pid_types.specs.declared.plain.Life.TheVariants.{Live, Zombie}
use Rattle.pid_types.specs.declared.plain.Ended.TheVariants.{Exited, Killed}
use Rattle.pid_script.specs.Answers.{joined}
use Rattle.pid_script.specs.Lists.{life_text, parent_text, limit_text}
use Rattle.table_text.specs.Texts.{name_word, parent_word}
use Rattle.table_text.specs.Ranges.{IsWord, IsNameOfWords, IsLifeOfWords}
use Rattle.table_text.specs.Reading.{StopsDigits, StopsBehind}
use Rattle.table_text.proofs.Fronts.{apart, number_told, option_told, numbers_told, no_numbers, if_some}

name_by_parts : (a b : Name) → a.space ≡ b.space → a.numbers.items ≡ b.numbers.items → a ≡ b
name_by_parts a b space numbers =
    let name = λ (s : ℕ) (ns : List ℕ). let made : Name = record { space = s; numbers = record { items = ns } } in made in
    ap (λ s. name s a.numbers.items) space ∙ ap (λ ns. name b.space ns) numbers

pub name_flat : (a : Name) (x : List ℕ) → name_word a ++ x ≡ joined 44 a.numbers.items ++ 64 ∷ (decimal a.space ++ x)
unfolding name_word
name_flat a x = append_assoc (joined 44 a.numbers.items) (64 ∷ decimal a.space) x

-- a name
pub name_told : (a b : Name) (x y : List ℕ) → name_word a ++ x ≡ name_word b ++ y → IsNameOfWords a → IsNameOfWords b → StopsDigits x → StopsDigits y → (a ≡ b) × (x ≡ y)
name_told a b x y e words_a words_b stops_x stops_y =
    let numbers = numbers_told a.numbers.items b.numbers.items (decimal a.space ++ x) (decimal b.space ++ y) (sym (name_flat a x) ∙ e ∙ name_flat b y) words_a.numbers words_b.numbers in
    let space = number_told a.space b.space x y numbers.1 words_a.space words_b.space stops_x stops_y in
    (name_by_parts a b space.0 numbers.0, space.1)

no_name : (P : Type 0) (a : Name) (x y : List ℕ) → 45 ∷ x ≡ name_word a ++ y → IsNameOfWords a → P
no_name P a x y e words = no_numbers P 45 a.numbers.items x (decimal a.space ++ y) (e ∙ name_flat a y) words.numbers (inl (lit< tt)) (inl (lit< tt))

-- the name of a parent, or none. Behind the first word for none the text need not stop
pub parent_read : (p q : Option Name) (x y : List ℕ) → parent_word p ++ x ≡ parent_word q ++ y → IfSome p IsNameOfWords → IfSome q IsNameOfWords
    → IfSome p (λ name. StopsDigits x) → StopsDigits y → (p ≡ q) × (x ≡ y)
parent_read None None x y e a b stops_x stops_y = (refl, append_cancel_left (codes "-") x y e)
parent_read None (Some q) x y e a b stops_x stops_y = no_name _ q x y e b
parent_read (Some p) None x y e a b stops_x stops_y = no_name _ p y x (sym e) a
parent_read (Some p) (Some q) x y e a b stops_x stops_y =
    let parts = name_told p q x y e a b stops_x stops_y in (ap Some parts.0, parts.1)

-- the same, where both stop
pub parent_told : (p q : Option Name) (x y : List ℕ) → parent_word p ++ x ≡ parent_word q ++ y → IfSome p IsNameOfWords → IfSome q IsNameOfWords → StopsDigits x → StopsDigits y → (p ≡ q) × (x ≡ y)
parent_told p q x y e a b stops_x stops_y = parent_read p q x y e a b (if_some p (StopsDigits x) stops_x) stops_y

-- the id of a parent, or none
pub outer_told : (p q : Option ℕ) (x y : List ℕ) → parent_text p ++ x ≡ parent_text q ++ y → IfSome p IsWord → IfSome q IsWord → StopsDigits x → StopsDigits y → (p ≡ q) × (x ≡ y)
outer_told = option_told parent_text 45 [] (inl (lit< tt)) refl (λ n. refl)

-- a limit, or none
pub limit_told : (p q : Option ℕ) (x y : List ℕ) → limit_text p ++ x ≡ limit_text q ++ y → IfSome p IsWord → IfSome q IsWord → StopsDigits x → StopsDigits y → (p ≡ q) × (x ≡ y)
limit_told = option_told limit_text 109 (97 ∷ 120 ∷ []) (inr (lit< tt)) refl (λ n. refl)

-- a life. Behind the first one the text need stop only where it ends with a number
pub life_read : (a b : Life) (x y : List ℕ) → life_text a ++ x ≡ life_text b ++ y → IsLifeOfWords a → IsLifeOfWords b → StopsBehind a x → StopsDigits y → (a ≡ b) × (x ≡ y)
life_read Live Live x y e a b stops_x stops_y = (refl, append_cancel_left (codes "live") x y e)
life_read Live (Zombie (Exited t)) x y e a b stops_x stops_y = apart _ 108 101 _ _ e (inr (lit< tt))
life_read Live (Zombie Killed) x y e a b stops_x stops_y = apart _ 108 107 _ _ e (inr (lit< tt))
life_read (Zombie (Exited s)) Live x y e a b stops_x stops_y = apart _ 101 108 _ _ e (inl (lit< tt))
life_read (Zombie (Exited s)) (Zombie (Exited t)) x y e a b stops_x stops_y =
    let parts = number_told s t x y (append_cancel_left (codes "exit ") (decimal s ++ x) (decimal t ++ y) e) a b stops_x stops_y in
    (ap (λ n. Zombie (Exited n)) parts.0, parts.1)
life_read (Zombie (Exited s)) (Zombie Killed) x y e a b stops_x stops_y = apart _ 101 107 _ _ e (inl (lit< tt))
life_read (Zombie Killed) Live x y e a b stops_x stops_y = apart _ 107 108 _ _ e (inl (lit< tt))
life_read (Zombie Killed) (Zombie (Exited t)) x y e a b stops_x stops_y = apart _ 107 101 _ _ e (inr (lit< tt))
life_read (Zombie Killed) (Zombie Killed) x y e a b stops_x stops_y = (refl, append_cancel_left (codes "killed") x y e)

stops_behind_life : (life : Life) (x : List ℕ) → StopsDigits x → StopsBehind life x
stops_behind_life Live x stops = tt
stops_behind_life (Zombie (Exited s)) x stops = stops
stops_behind_life (Zombie Killed) x stops = tt

-- the same, where both stop
pub life_told : (a b : Life) (x y : List ℕ) → life_text a ++ x ≡ life_text b ++ y → IsLifeOfWords a → IsLifeOfWords b → StopsDigits x → StopsDigits y → (a ≡ b) × (x ≡ y)
life_told a b x y e words_a words_b stops_x stops_y = life_read a b x y e words_a words_b (stops_behind_life a x stops_x) stops_y
