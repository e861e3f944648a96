-- What is read of a text, from one place to another.
use Rattle.std.proofs.Common.{◌≡◌, ℕ, ◌+◌, ◌-◌, ◌*◌, ◌^◌, ◌<◌, ◌≤◌, Bool, true, false, eqb, List, [], ◌∷◌, ◌++◌, length, take, drop, Option, Some, decimal, codes, refl, sym, ap, ◌∙◌, subst, arith, take_all, take-add, length-drop, append_assoc, bytes_eq, length-append, length-take-le, take-append-drop, append-nil, Result, Ok, Err, take_at, true≢false, suc, None, get_or, get_or-drop, take-suc, drop-drop, OkIff}
use Rattle.std.specs.Prelude.{if◌then◌else◌}
use Rattle.std.specs.Result.{is_ok, is_err, result_ok}
use Rattle.std.specs.List.{starts_with, flat_map}
use Rattle.std.proofs.lemmas.List.Concat.{flat_map-append}
use Rattle.std.proofs.lemmas.Slice.Eq.{bytes_eq-Decides}
use Rattle.std.specs.Char.{digit_value}
use Rattle.std.specs.Str.Parse.{AllDigits, digits_value}
use Rattle.std.proofs.lemmas.Int.Digits.{digits_value_more}
use Rattle.std.proofs.lemmas.Fmt.{digits_decimal}
use Rattle.std.proofs.lemmas.List.{append_cancel_left}
use Rattle.std.specs.Option.{IfNone, IfSome}
use Rattle.std.proofs.lemmas.Option.{none-some}
use Rattle.pid_types.specs.declared.plain.Row.{Row}
use Rattle.pid_script.specs.Answers.{joined}
use Rattle.pid_script.specs.Lists.{field, marked, life_text}
use Rattle.table_text.specs.Texts.{name_word, parent_word, places_text, flags_text, task_text_line, rest_line, end_line}
use Rattle.pid_script.specs.Reading.{number_below}
use Rattle.pid_script.proofs.Numbers.{number_below-Some, number_below-decimal}
use Rattle.table_text.specs.Reading.{IsRead, StopsDigits, Lacks, LacksField, LacksNumber, LacksAny}
use Rattle.table_text.specs.Ranges.{IsWord}
use Rattle.table_text.proofs.Fronts.{numerals, digits_told, number_told}
use Rattle.table_text.proofs.Lines.{line_rest}

-- the rest of a text, as a slice has it
pub rest_is : (text : List ℕ) (at : ℕ) → take (length text - at) (drop at text) ≡ drop at text
rest_is text at = take_all (length text - at) (drop at text) (omega (arith, length-drop at text))

-- a word that stands there
pub word_read : (text word : List ℕ) (at : ℕ) → true ≡ starts_with eqb (take (length text - at) (drop at text)) word → IsRead text at (at + length word) word
word_read text word at starts =
    let same = (bytes_eq-Decides word (take (length word) (take (length text - at) (drop at text)))).0 (sym starts) in
    take-add at (length word) text ∙ ap (λ w. take at text ++ w) (sym (same ∙ ap (take (length word)) (rest_is text at)))

-- a number that stands there
pub number_read : (bound : ℕ) (text : List ℕ) (at end n : ℕ) → at ≤ end → Some n ≡ number_below bound (take (end - at) (drop at text)) → IsRead text at end (decimal n)
number_read bound text at end n le says =
    let written = (number_below-Some bound (take (end - at) (drop at text)) n (sym says)).1 in
    let whole : at + (end - at) ≡ end = omega arith in
    subst (λ e. take e text ≡ take at text ++ decimal n) whole (take-add at (end - at) text ∙ ap (λ w. take at text ++ w) (sym written))

joined_more : (ns : List ℕ) (n : ℕ) → 0 < length ns → joined 44 (ns ++ n ∷ []) ≡ joined 44 ns ++ 44 ∷ decimal n
joined_more [] n some = absurd (omega (arith, some))
joined_more (m ∷ []) n some = refl
joined_more (m ∷ k ∷ ns) n some =
    ap (λ rest. decimal m ++ 44 ∷ rest) (joined_more (k ∷ ns) n (omega arith))
    ∙ sym (append_assoc (decimal m) (44 ∷ joined 44 (k ∷ ns)) (44 ∷ decimal n))

-- one number more, behind a comma
pub numbers_more : (text : List ℕ) (a b c d : ℕ) (ns : List ℕ) (n : ℕ) → IsRead text a b (joined 44 ns) → IsRead text b c (44 ∷ []) → IsRead text c d (decimal n)
    → 0 < length ns → IsRead text a d (joined 44 (ns ++ n ∷ []))
numbers_more text a b c d ns n first second third some =
    third ∙ ap (λ t. t ++ decimal n) (second ∙ ap (λ t. t ++ 44 ∷ []) first)
    ∙ append_assoc (take a text ++ joined 44 ns) (44 ∷ []) (decimal n) ∙ append_assoc (take a text) (joined 44 ns) (44 ∷ decimal n)
    ∙ ap (λ w. take a text ++ w) (sym (joined_more ns n some))

-- what is read from place to place, put together
pub IsRead-more : (text : List ℕ) (a b c : ℕ) (u v : List ℕ) → IsRead text a b u → IsRead text b c v → IsRead text a c (u ++ v)
IsRead-more text a b c u v first second = second ∙ ap (λ t. t ++ v) first ∙ append_assoc (take a text) u v

-- the parts of the rest of a task's line, each as it is read
abbrev in_parts : (p q g h s i c k j l b m x y z : List ℕ) → List ℕ
in_parts p q g h s i c k j l b m x y z =
    ((((((((p ++ q) ++ (g ++ h)) ++ (s ++ i)) ++ (c ++ k)) ++ (j ++ l)) ++ (b ++ m)) ++ x) ++ y) ++ z

regrouped : (p q g h s i c k j l b m x y z : List ℕ) → in_parts p q g h s i c k j l b m x y z
    ≡ (p ++ q ++ g ++ h ++ s ++ i ++ ((c ++ k) ++ (j ++ l)) ++ (b ++ m ++ x ++ y)) ++ z
regrouped p q g h s i c k j l b m x y z = simp append_assoc

rest_in_parts : (r : Row) → in_parts (codes " parent ") (parent_word r.parent) (codes " group ") (name_word r.group)
    (codes " session ") (name_word r.session) (codes " control ") (decimal r.home) (codes " children ") (decimal r.children_space)
    (codes " ") (life_text r.life) (marked r.executed (codes " executed")) (marked r.subreaper (codes " subreaper")) (10 ∷ []) ≡ rest_line r
unfolding rest_line places_text flags_text
rest_in_parts r = regrouped (codes " parent ") (parent_word r.parent) (codes " group ") (name_word r.group)
    (codes " session ") (name_word r.session) (codes " control ") (decimal r.home) (codes " children ") (decimal r.children_space)
    (codes " ") (life_text r.life) (marked r.executed (codes " executed")) (marked r.subreaper (codes " subreaper")) (10 ∷ [])

-- the rest of a task's line
pub rest_read : (text : List ℕ) (r : Row) (a1 a2 a3 a4 a5 a6 a7 a8 a9 a10 : ℕ)
    → IsRead text a1 a2 (codes " parent " ++ parent_word r.parent)
    → IsRead text a2 a3 (codes " group " ++ name_word r.group) → IsRead text a3 a4 (codes " session " ++ name_word r.session)
    → IsRead text a4 a5 (field (codes " control ") r.home) → IsRead text a5 a6 (field (codes " children ") r.children_space)
    → IsRead text a6 a7 (codes " " ++ life_text r.life) → IsRead text a7 a8 (marked r.executed (codes " executed"))
    → IsRead text a8 a9 (marked r.subreaper (codes " subreaper")) → IsRead text a9 a10 (10 ∷ []) → IsRead text a1 a10 (rest_line r)
rest_read text r a1 a2 a3 a4 a5 a6 a7 a8 a9 a10 e2 e3 e4 e5 e6 e7 e8 e9 e10 =
    subst (IsRead text a1 a10) (rest_in_parts r)
    (IsRead-more text a1 a9 a10 _ _ (IsRead-more text a1 a8 a9 _ _ (IsRead-more text a1 a7 a8 _ _ (IsRead-more text a1 a6 a7 _ _ (IsRead-more text a1 a5 a6 _ _
    (IsRead-more text a1 a4 a5 _ _ (IsRead-more text a1 a3 a4 _ _ (IsRead-more text a1 a2 a3 _ _ e2 e3) e4) e5) e6) e7) e8) e9) e10)

-- the line of a task
pub task_read : (text : List ℕ) (r : Row) (a0 a1 a2 : ℕ) → IsRead text a0 a1 (codes "task " ++ name_word r.name) → IsRead text a1 a2 (rest_line r) → IsRead text a0 a2 (task_text_line r)
task_read text r a0 a1 a2 first second = subst (IsRead text a0 a2) (sym (line_rest r)) (IsRead-more text a0 a1 a2 _ _ first second)

-- what stands at a second place again
pub again_read : (text : List ℕ) (at start end : ℕ) (part : List ℕ) → start ≤ end → end ≤ length text
    → true ≡ starts_with eqb (take (length text - at) (drop at text)) (take (end - start) (drop start text)) → IsRead text start end part → IsRead text at (at + (end - start)) part
again_read text at start end part order within starts read =
    let word = take (end - start) (drop start text) in
    let whole : start + (end - start) ≡ end = omega (arith, order) in
    let parts : take end text ≡ take start text ++ word = subst (λ e. take e text ≡ take start text ++ word) whole (take-add start (end - start) text) in
    let same : word ≡ part = append_cancel_left (take start text) word part (sym parts ∙ read) in
    let long : length word ≡ end - start = length-take-le (end - start) (drop start text) (let all = length-drop start text in omega (arith, within, all)) in
    subst (λ n. IsRead text at (at + n) part) long (subst (IsRead text at (at + length word)) same (word_read text word at starts))

-- where something was read, the place has moved on
pub ahead : (text : List ℕ) (a b c : ℕ) (w cs : List ℕ) → a ≤ length text → b ≤ length text → IsRead text a b w → w ≡ c ∷ cs → a < b
ahead text a b c w cs within_a within_b read begins =
    let long = ap length (read ∙ ap (λ l. take a text ++ l) begins) ∙ length-append (take a text) (c ∷ cs) in
    omega (arith, long, length-take-le a text within_a, length-take-le b text within_b)

-- what is read reaches no way back
pub order_read : (text : List ℕ) (a b : ℕ) (w : List ℕ) → a ≤ length text → b ≤ length text → IsRead text a b w → a ≤ b
order_read text a b w within_a within_b read =
    let long = ap length read ∙ length-append (take a text) w in
    omega (arith, long, length-take-le a text within_a, length-take-le b text within_b)

-- a text that ends as it should
pub end_read : (text end : List ℕ) (at : ℕ) → true ≡ bytes_eq (take (length text - at) (drop at text)) end → end ≡ end_line (take at text)
    → text ≡ take at text ++ end_line (take at text)
end_read text end at equal is =
    let same = (bytes_eq-Decides (take (length text - at) (drop at text)) end).0 (sym equal) in
    sym (take-append-drop at text) ∙ ap (λ w. take at text ++ w) (sym (rest_is text at) ∙ same ∙ is)

-- a text that ends otherwise
pub end_missing : (text end : List ℕ) (at : ℕ) → false ≡ bytes_eq (take (length text - at) (drop at text)) end → end ≡ end_line (take at text)
    → drop at text ≡ end_line (take at text) → ⊥
end_missing text end at differ is there =
    true≢false (sym ((bytes_eq-Decides (take (length text - at) (drop at text)) end).1 (rest_is text at ∙ there ∙ sym is)) ∙ sym differ)

-- what a list is once a push was made
pub pushed : {E : Type 0} {X : Type 0} (r : Result Unit E) (xs ys zs : List X) → zs ≡ (if is_ok r then xs else ys) → is_err r ≡ false → zs ≡ xs
pushed (Ok u) xs ys zs items done = items
pushed (Err e) xs ys zs items done = cc done

-- one line more
pub lines_more : {X : Type 0} (line : X → List ℕ) (text : List ℕ) (a b c : ℕ) (xs zs : List X) (y : X) → zs ≡ xs ++ y ∷ []
    → IsRead text a b (flat_map line xs) → IsRead text b c (line y) → IsRead text a c (flat_map line zs)
lines_more line text a b c xs zs y items before one =
    let joined_lines : flat_map line xs ++ line y ≡ flat_map line zs =
    ap (λ l. flat_map line xs ++ l) (sym (append-nil (line y))) ∙ sym (flat_map-append line xs (y ∷ [])) ∙ ap (flat_map line) (sym items) in
    subst (IsRead text a c) joined_lines (IsRead-more text a b c (flat_map line xs) (line y) before one)

-- a word that does not stand there
pub word_missing : (text word : List ℕ) (at : ℕ) → false ≡ starts_with eqb (take (length text - at) (drop at text)) word → (rest : List ℕ) → drop at text ≡ word ++ rest → ⊥
word_missing text word at missing rest is =
    let front = take (length word) (take (length text - at) (drop at text)) in
    let same : front ≡ word = ap (take (length word)) (rest_is text at ∙ is) ∙ take_at word rest (length word) refl in
    true≢false (sym ((bytes_eq-Decides word front).1 (sym same)) ∙ sym missing)

digits_and_one : (ds : List ℕ) (d : ℕ) → AllDigits 10 ds → digit_value d < 10 → AllDigits 10 (ds ++ d ∷ [])
digits_and_one [] d all one = (one, tt)
digits_and_one (e ∷ ds) d all one = (all.0, digits_and_one ds d all.1 one)

-- one digit more
pub digits_more : (text : List ℕ) (at index : ℕ) → at ≤ index → index < length text → AllDigits 10 (take (index - at) (drop at text))
    → digit_value (get_or text index 0) < 10 → AllDigits 10 (take (index + 1 - at) (drop at text))
digits_more text at index from within all one =
    let long = length-drop at text in
    let further : suc (index - at) ≡ index + 1 - at = omega arith in
    let there : at + (index - at) ≡ index = omega arith in
    let same : get_or (drop at text) (index - at) 0 ≡ get_or text index 0 = get_or-drop at text (index - at) 0 ∙ ap (λ i. get_or text i 0) there in
    let lt : index - at < length (drop at text) = omega (arith, long) in
    let parts = take-suc (drop at text) (index - at) 0 lt in
    subst (λ k. AllDigits 10 (take k (drop at text))) further
    (subst (AllDigits 10) (sym parts) (digits_and_one _ _ all (subst (λ b. digit_value b < 10) (sym same) one)))

-- and what they write
pub value_more : (text : List ℕ) (at index : ℕ) → at ≤ index → index < length text → digits_value 10 (take (index + 1 - at) (drop at text))
    ≡ digits_value 10 (take (index - at) (drop at text)) * 10 + digit_value (get_or text index 0)
value_more text at index from within =
    let long = length-drop at text in
    let further : index + 1 - at ≡ index - at + 1 = omega arith in
    let there : at + (index - at) ≡ index = omega arith in
    let same : get_or (drop at text) (index - at) 0 ≡ get_or text index 0 = get_or-drop at text (index - at) 0 ∙ ap (λ i. get_or text i 0) there in
    ap (λ k. digits_value 10 (take k (drop at text))) further ∙ digits_value_more 10 (drop at text) (index - at) (omega (arith, long))
    ∙ ap (λ b. digits_value 10 (take (index - at) (drop at text)) * 10 + digit_value b) same

-- a number that does not stand there
pub number_missing : (text : List ℕ) (at end : ℕ) → AllDigits 10 (take (end - at) (drop at text)) → at ≤ end → StopsDigits (drop end text)
    → None ≡ number_below (2 ^ 64) (take (end - at) (drop at text)) → LacksNumber (2 ^ 64) text at
number_missing text at end digits from stops none n rest small stops_rest is =
    let whole : at + (end - at) ≡ end = omega arith in
    let behind : drop (end - at) (drop at text) ≡ drop end text = drop-drop (end - at) at text ∙ ap (λ k. drop k text) whole in
    let parts : take (end - at) (drop at text) ++ drop end text ≡ decimal n ++ rest =
    ap (λ l. take (end - at) (drop at text) ++ l) (sym behind) ∙ take-append-drop (end - at) (drop at text) ∙ is in
    let same = (digits_told _ (decimal n) (drop end text) rest digits (digits_decimal numerals n small) stops stops_rest parts).0 in
    none-some n (none ∙ ap (number_below (2 ^ 64)) same ∙ number_below-decimal (2 ^ 64) n small small)

-- what is true at all is true of an answer that is none
pub if_none : {X : Type 0} (o : Option X) (P : Type 0) → P → IfNone o P
if_none None P here = here
if_none (Some x) P here = tt

-- and so is what follows from it
pub if_none-map : {X : Type 0} (o : Option X) (P Q : Type 0) → (P → Q) → IfNone o P → IfNone o Q
if_none-map None P Q follows here = follows here
if_none-map (Some x) P Q follows here = tt

-- what stands at a place is what is read, and then what stands behind it
pub dropped : (text : List ℕ) (a b : ℕ) (w : List ℕ) → a ≤ length text → b ≤ length text → IsRead text a b w → drop a text ≡ w ++ drop b text
dropped text a b w within_a within_b read =
    append_cancel_left (take a text) (drop a text) (w ++ drop b text)
    (take-append-drop a text ∙ sym (take-append-drop b text) ∙ ap (λ l. l ++ drop b text) read ∙ append_assoc (take a text) w (drop b text))

-- behind a word that is read
pub behind_word : (text : List ℕ) (a b : ℕ) (w part rest : List ℕ) → a ≤ length text → b ≤ length text → IsRead text a b w
    → drop a text ≡ (w ++ part) ++ rest → drop b text ≡ part ++ rest
behind_word text a b w part rest within_a within_b read is =
    append_cancel_left w (drop b text) (part ++ rest) (sym (dropped text a b w within_a within_b read) ∙ is ∙ append_assoc w part rest)

-- no label, no field
pub no_label : (bound : ℕ) (text label : List ℕ) (at : ℕ) → Lacks label text at → LacksField bound label text at
no_label bound text label at lacks n rest below stops is = lacks (decimal n ++ rest) (is ∙ append_assoc label (decimal n) rest)

-- no number behind the label, no field
pub no_number_behind : (bound : ℕ) (text label : List ℕ) (a b : ℕ) → a ≤ length text → b ≤ length text → IsRead text a b label
    → LacksNumber bound text b → LacksField bound label text a
no_number_behind bound text label a b within_a within_b read lacks n rest below stops is =
    lacks n rest below stops (behind_word text a b label (decimal n) rest within_a within_b read is)

-- another number stands there, which is not below 2^32
pub small_missing : (text : List ℕ) (a b m : ℕ) → a ≤ length text → b ≤ length text → IsRead text a b (decimal m) → IsWord m → StopsDigits (drop b text)
    → 2 ^ 32 ≤ m → LacksNumber (2 ^ 32) text a
small_missing text a b m within_a within_b read word stops large n rest below stops_rest is =
    let same = (number_told m n (drop b text) rest (sym (dropped text a b (decimal m) within_a within_b read) ∙ is) word (omega arith) stops stops_rest).0 in
    omega (arith, same, large, below)

-- where a number does not fit, it is not below the bound
pub not_fitting : {E : Type 0} (bound m : ℕ) (r : Result ℕ E) (o : Option ℕ) (P : Type 0) → OkIff r (m < bound) m → o ≡ result_ok r → (bound ≤ m → P) → IfNone o P
not_fitting bound m (Ok x) o P fits is go = subst (λ q. IfNone q P) (sym is) tt
not_fitting bound m (Err e) o P not_below is go = subst (λ q. IfNone q P) (sym is) (go (omega (arith, not_below)))

-- neither the word for none stands there, nor a number behind the label
pub no_option : (bound : ℕ) (label none : List ℕ) (f : Option ℕ → List ℕ) (text : List ℕ) (at start : ℕ) → label ++ f None ≡ none
    → ((n : ℕ) → label ++ f (Some n) ≡ field label n) → drop start text ≡ drop at text → Lacks none text start → LacksField bound label text at
    → LacksAny (λ p. IfSome p (λ n. n < bound)) (λ p. label ++ f p) text start
no_option bound label none f text at start is_none is_some same no_word no_field None rest held stops is = no_word rest (is ∙ ap (λ w. w ++ rest) is_none)
no_option bound label none f text at start is_none is_some same no_word no_field (Some n) rest held stops is =
    no_field n rest held stops (sym same ∙ is ∙ ap (λ w. w ++ rest) (is_some n))

-- where nothing was read, the place is where it was
pub nothing_read : (text : List ℕ) (a b : ℕ) (r : Bool) (word : List ℕ) → a ≤ length text → b ≤ length text → r ≡ false → IsRead text a b (marked r word) → drop a text ≡ drop b text
nothing_read text a b r word within_a within_b none read =
    dropped text a b [] within_a within_b (subst (λ m. IsRead text a b (marked m word)) none read)
