-- Numbers with commas and identifiers: what does not stand in a text where a reader of one gives up, and what stands behind one that is read.
use Rattle.std.proofs.Common.{◌≡◌, inl, inr, ℕ, ◌^◌, ◌<◌, ◌≤◌, List, [], ◌∷◌, ◌++◌, length, drop, Option, Some, None, IfSome, decimal, codes, refl, sym, ap, ◌∙◌, subst, arith, lit<, append_assoc, length-append}
use Rattle.pid_types.specs.declared.plain.Name.{Name}
use Rattle.pid_types.specs.Membership.{IsIn}
use Rattle.pid_script.specs.Answers.{joined}
use Rattle.table_text.specs.Texts.{name_word, parent_word}
use Rattle.table_text.specs.Ranges.{IsWord, Each, IsNameOfWords}
use Rattle.table_text.specs.Reading.{IsRead, StopsDigits, Lacks, LacksField, LacksNumber, LacksNumbers, LacksAny, AreHeldNumbers, IsHeldName}
use Rattle.table_text.proofs.Fronts.{apart, behind, stops_behind, joined_flat, numbers_left}
use Rattle.table_text.proofs.Words.{name_flat, name_told, parent_read}
use Rattle.table_text.proofs.Scanned.{dropped}
use Rattle.table_text.proofs.Missed.{word_of_small, word_behind, left_by, no_field}

-- an element in front of others is one of all
pub is_in_front : {X : Type 0} (xs ys : List X) (y : X) → IsIn y (xs ++ y ∷ ys)
is_in_front [] ys y = inl refl
is_in_front (x ∷ xs) ys y = inr (is_in_front xs ys y)

pub words_of_numbers : (ns : List ℕ) → AreHeldNumbers ns → Each IsWord ns
words_of_numbers ns held n there = word_of_small n (held.small n there)

pub words_of_name : (name : Name) → IsHeldName name → IsNameOfWords name
words_of_name name held = record { numbers = words_of_numbers name.numbers.items held.numbers; space = held.space }

pub words_of_parent : (p : Option Name) → IfSome p IsHeldName → IfSome p IsNameOfWords
words_of_parent None held = tt
words_of_parent (Some name) held = words_of_name name held

-- no number, no numbers
pub no_first : (text : List ℕ) (a : ℕ) → LacksNumber (2 ^ 32) text a → LacksNumbers text a
no_first text a lacks [] rest held is = let some = held.some in omega (arith, some)
no_first text a lacks (n ∷ ns) rest held is =
    lacks n (behind ns ++ 64 ∷ rest) (held.small n (inl refl)) (stops_behind ns rest) (is ∙ joined_flat n ns (64 ∷ rest))

-- numbers that stand at the place, of which the first are read
module _ (text ns rest : List ℕ) (held : AreHeldNumbers ns) (a b : ℕ) (ms : List ℕ) (within_a : a ≤ length text) (within_b : b ≤ length text)
    (read : IsRead text a b (joined 44 ms)) (some : 0 < length ms) (words : Each IsWord ms) (stops : StopsDigits (drop b text)) where
  left : drop a text ≡ joined 44 ns ++ 64 ∷ rest → (more : List ℕ) × (ns ≡ ms ++ more) × (drop b text ≡ behind more ++ 64 ∷ rest)
  left is = numbers_left ms ns (drop b text) rest (sym (dropped text a b (joined 44 ms) within_a within_b read) ∙ is) some held.some words (words_of_numbers ns held) stops

  -- behind a comma there is one more
  none_further : (c : ℕ) → c ≤ length text → IsRead text b c (44 ∷ []) → LacksNumber (2 ^ 32) text c
      → (more : List ℕ) → ns ≡ ms ++ more → drop b text ≡ behind more ++ 64 ∷ rest → ⊥
  none_further c within_c comma lacks [] all here = apart ⊥ 44 64 _ _ (sym (dropped text b c (44 ∷ []) within_b within_c comma) ∙ here) (inl (lit< tt))
  none_further c within_c comma lacks (n ∷ more) all here =
      lacks n (behind more ++ 64 ∷ rest) (held.small n (subst (IsIn n) (sym all) (is_in_front ms more n))) (stops_behind more rest)
      (word_behind text (44 ∷ []) b c _ within_b within_c comma here ∙ append_assoc (decimal n) (behind more) (64 ∷ rest))

  pub no_further : (c : ℕ) → c ≤ length text → IsRead text b c (44 ∷ []) → LacksNumber (2 ^ 32) text c → drop a text ≡ joined 44 ns ++ 64 ∷ rest → ⊥
  no_further c within_c comma lacks is = let parts = left is in none_further c within_c comma lacks parts.0 parts.1 parts.2

  -- without one, or behind 33 numbers, there is none
  all_read : (length ms < 33 → Lacks (44 ∷ []) text b) → (more : List ℕ) → ns ≡ ms ++ more → drop b text ≡ behind more ++ 64 ∷ rest → drop b text ≡ 64 ∷ rest
  all_read lacks [] all here = here
  all_read lacks (n ∷ more) all here =
      let long = ap length all ∙ length-append ms (n ∷ more) in let levels = held.levels in
      absurd (lacks (omega (arith, long, levels)) ((decimal n ++ behind more) ++ 64 ∷ rest) here)

  pub numbers_behind : (length ms < 33 → Lacks (44 ∷ []) text b) → drop a text ≡ joined 44 ns ++ 64 ∷ rest → drop b text ≡ 64 ∷ rest
  numbers_behind lacks is = let parts = left is in all_read lacks parts.0 parts.1 parts.2

-- an identifier behind its label, up to each of its parts
module _ (text label : List ℕ) (name : Name) (held : IsHeldName name) (rest : List ℕ) (stops : StopsDigits rest) (a : ℕ) (within : a ≤ length text)
    (is : drop a text ≡ (label ++ name_word name) ++ rest) where
  at_name : drop a text ≡ label ++ (joined 44 name.numbers.items ++ 64 ∷ (decimal name.space ++ rest))
  at_name = is ∙ append_assoc label (name_word name) rest ∙ ap (λ l. label ++ l) (name_flat name rest)

  module _ (b : ℕ) (within_label : b ≤ length text) (read_label : IsRead text a b label) where
    at_numbers : drop b text ≡ joined 44 name.numbers.items ++ 64 ∷ (decimal name.space ++ rest)
    at_numbers = word_behind text label a b _ within within_label read_label at_name

    pub no_name_numbers : LacksNumbers text b → ⊥
    no_name_numbers lacks = lacks name.numbers.items (decimal name.space ++ rest) held.numbers at_numbers

    pub no_name_space : (c : ℕ) (ms : List ℕ) → c ≤ length text → IsRead text b c (joined 44 ms) → 0 < length ms → Each IsWord ms → StopsDigits (drop c text)
        → (length ms < 33 → Lacks (44 ∷ []) text c) → LacksField (2 ^ 64) (codes "@") text c → ⊥
    no_name_space c ms within_numbers read_numbers some words stops_numbers no_comma lacks =
        no_field (2 ^ 64) text (codes "@") c name.space rest lacks held.space stops
        (numbers_behind text name.numbers.items (decimal name.space ++ rest) held.numbers b c ms within_label within_numbers read_numbers some words stops_numbers no_comma at_numbers)

-- behind an identifier that is read
pub name_behind : (text label : List ℕ) (a b : ℕ) (p q : Name) (rest : List ℕ) → a ≤ length text → b ≤ length text → IsRead text a b (label ++ name_word p)
    → IsNameOfWords p → IsHeldName q → StopsDigits (drop b text) → StopsDigits rest → drop a text ≡ label ++ (name_word q ++ rest) → drop b text ≡ rest
name_behind text label a b p q rest within_a within_b read words held stops stops_rest is =
    (name_told p q (drop b text) rest (left_by text label (name_word p) a b _ within_a within_b read is) words (words_of_name q held) stops stops_rest).1

-- neither the word for none stands there, nor a name behind the label
pub no_parent_name : (text : List ℕ) (at start : ℕ) → drop start text ≡ drop at text → Lacks (codes " parent -") text start
    → LacksAny IsHeldName (λ name. codes " parent " ++ name_word name) text at
    → LacksAny (λ p. IfSome p IsHeldName) (λ p. codes " parent " ++ parent_word p) text start
no_parent_name text at start same no_word no_name None rest held stops is = no_word rest is
no_parent_name text at start same no_word no_name (Some name) rest held stops is = no_name name rest held stops (sym same ∙ is)

-- behind the name of a parent that is read
pub parent_name_behind : (text : List ℕ) (a b : ℕ) (p q : Option Name) (rest : List ℕ) → a ≤ length text → b ≤ length text
    → IsRead text a b (codes " parent " ++ parent_word p) → IfSome p IsNameOfWords → IfSome q IsHeldName → IfSome p (λ name. StopsDigits (drop b text)) → StopsDigits rest
    → drop a text ≡ codes " parent " ++ (parent_word q ++ rest) → drop b text ≡ rest
parent_name_behind text a b p q rest within_a within_b read words held stops stops_rest is =
    (parent_read p q (drop b text) rest (left_by text (codes " parent ") (parent_word p) a b _ within_a within_b read is) words (words_of_parent q held) stops stops_rest).1
