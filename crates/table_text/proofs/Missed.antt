-- What does not stand in a text where a reader gives up. Each step takes what was read, and leaves what stands behind it.
use Rattle.std.proofs.Common.{◌≡◌, inl, inr, ℕ, ◌^◌, ◌<◌, ◌≤◌, Bool, true, false, List, [], ◌∷◌, ◌++◌, length, drop, Option, Some, None, IfSome, decimal, codes, refl, sym, ◌∙◌, arith, lit<, append_assoc}
use Rattle.std.proofs.lemmas.List.{append_cancel_left}
use Rattle.pid_types.specs.declared.plain.Life.TheVariants.{Live, Zombie}
use Rattle.pid_types.specs.declared.plain.Ended.TheVariants.{Exited, Killed}
use Rattle.pid_types.specs.declared.plain.Space.{Space}
use Rattle.pid_types.specs.declared.plain.Control.{Control}
use Rattle.pid_script.specs.Lists.{field, marked, parent_text, limit_text, life_text, space_line}
use Rattle.table_text.specs.Texts.{control_text_line, bounds_text, head_line}
use Rattle.table_text.specs.Ranges.{IsWord}
use Rattle.table_text.specs.Reading.{IsRead, IsSmall, StopsDigits, Lacks, LacksField, LacksAny, LacksSettings, IsHeldLife, IsHeldSpace, IsHeldControl}
use Rattle.table_text.proofs.Fronts.{number_told, option_read}
use Rattle.table_text.proofs.Lines.{space_flat, control_flat, head_flat, stops_mark, not_marked}
use Rattle.table_text.proofs.Scanned.{dropped}

-- a small number is a word
pub word_of_small : (n : ℕ) → IsSmall n → IsWord n
word_of_small n small = omega (arith, small)

pub words_of_small : (p : Option ℕ) → IfSome p IsSmall → IfSome p IsWord
words_of_small None small = tt
words_of_small (Some n) small = word_of_small n small

-- behind a word that is read
pub word_behind : (text word : List ℕ) (a b : ℕ) (rest : List ℕ) → a ≤ length text → b ≤ length text → IsRead text a b word → drop a text ≡ word ++ rest → drop b text ≡ rest
word_behind text word a b rest within_a within_b read is =
    append_cancel_left word (drop b text) rest (sym (dropped text a b word within_a within_b read) ∙ is)

-- what a label that is read leaves
pub left_by : (text label part : List ℕ) (a b : ℕ) (other : List ℕ) → a ≤ length text → b ≤ length text → IsRead text a b (label ++ part)
    → drop a text ≡ label ++ other → part ++ drop b text ≡ other
left_by text label part a b other within_a within_b read is =
    append_cancel_left label _ _ (sym (append_assoc label part (drop b text)) ∙ sym (dropped text a b (label ++ part) within_a within_b read) ∙ is)

-- behind a field that is read
pub field_behind : (text label : List ℕ) (a b m n : ℕ) (rest : List ℕ) → a ≤ length text → b ≤ length text → IsRead text a b (field label m)
    → IsWord m → IsWord n → StopsDigits (drop b text) → StopsDigits rest → drop a text ≡ label ++ (decimal n ++ rest) → drop b text ≡ rest
field_behind text label a b m n rest within_a within_b read word_m word_n stops stops_rest is =
    (number_told m n (drop b text) rest (left_by text label (decimal m) a b _ within_a within_b read is) word_m word_n stops stops_rest).1

-- behind a parent that is read
pub parent_behind : (text : List ℕ) (a b : ℕ) (p q : Option ℕ) (rest : List ℕ) → a ≤ length text → b ≤ length text → IsRead text a b (codes " parent " ++ parent_text p)
    → IfSome p IsWord → IfSome q IsWord → IfSome p (λ n. StopsDigits (drop b text)) → StopsDigits rest → drop a text ≡ codes " parent " ++ (parent_text q ++ rest) → drop b text ≡ rest
parent_behind text a b p q rest within_a within_b read word_p word_q stops stops_rest is =
    (option_read parent_text 45 [] (inl (lit< tt)) refl (λ n. refl) p q (drop b text) rest (left_by text (codes " parent ") (parent_text p) a b _ within_a within_b read is) word_p word_q stops stops_rest).1

-- behind a limit that is read
pub limit_behind : (text : List ℕ) (a b : ℕ) (p q : Option ℕ) (rest : List ℕ) → a ≤ length text → b ≤ length text → IsRead text a b (codes " limit " ++ limit_text p)
    → IfSome p IsWord → IfSome q IsWord → IfSome p (λ n. StopsDigits (drop b text)) → StopsDigits rest → drop a text ≡ codes " limit " ++ (limit_text q ++ rest) → drop b text ≡ rest
limit_behind text a b p q rest within_a within_b read word_p word_q stops stops_rest is =
    (option_read limit_text 109 (97 ∷ 120 ∷ []) (inr (lit< tt)) refl (λ n. refl) p q (drop b text) rest (left_by text (codes " limit ") (limit_text p) a b _ within_a within_b read is) word_p word_q stops stops_rest).1

-- behind a mark that is read or not
pub mark_behind : (text word : List ℕ) (a b : ℕ) (r t : Bool) (rest : List ℕ) → a ≤ length text → b ≤ length text → IsRead text a b (marked r word)
    → (r ≡ false → Lacks word text a) → ((z : List ℕ) → rest ≡ word ++ z → ⊥) → drop a text ≡ marked t word ++ rest → drop b text ≡ rest
mark_behind text word a b true true rest within_a within_b read lacks other is = word_behind text word a b rest within_a within_b read is
mark_behind text word a b true false rest within_a within_b read lacks other is = absurd (other (drop b text) (sym is ∙ dropped text a b word within_a within_b read))
mark_behind text word a b false true rest within_a within_b read lacks other is = absurd (lacks refl rest is)
mark_behind text word a b false false rest within_a within_b read lacks other is = sym (dropped text a b [] within_a within_b read) ∙ is

-- no such field
pub no_field : (bound : ℕ) (text label : List ℕ) (at n : ℕ) (rest : List ℕ) → LacksField bound label text at → n < bound → StopsDigits rest
    → drop at text ≡ label ++ (decimal n ++ rest) → ⊥
no_field bound text label at n rest lacks below stops is = lacks n rest below stops (is ∙ sym (append_assoc label (decimal n) rest))

-- no such thing behind a label
pub no_part : {A : Type 0} (IsHeld : A → Type 0) (label : List ℕ) (part : A → List ℕ) (text : List ℕ) (at : ℕ) (a : A) (rest : List ℕ)
    → LacksAny IsHeld (λ a. label ++ part a) text at → IsHeld a → StopsDigits rest → drop at text ≡ label ++ (part a ++ rest) → ⊥
no_part {A} IsHeld label part text at a rest lacks held stops is = lacks a rest held stops (is ∙ sym (append_assoc label (part a) rest))

-- neither life stands there
pub no_life : (text : List ℕ) (a b c : ℕ) → drop a text ≡ drop b text → drop a text ≡ drop c text → Lacks (codes " live") text a → Lacks (codes " killed") text b
    → LacksField (2 ^ 8) (codes " exit ") text c → LacksAny IsHeldLife (λ life. codes " " ++ life_text life) text a
no_life text a b c same_b same_c live killed exit Live rest held stops is = live rest is
no_life text a b c same_b same_c live killed exit (Zombie (Exited n)) rest held stops is = exit n rest held stops (sym same_c ∙ is)
no_life text a b c same_b same_c live killed exit (Zombie Killed) rest held stops is = killed rest (sym same_b ∙ is)

-- another status stands there, which is none of 8 bits
pub large_status : (text label : List ℕ) (a b m : ℕ) → a ≤ length text → b ≤ length text → IsRead text a b (field label m) → IsWord m → StopsDigits (drop b text)
    → 2 ^ 8 ≤ m → LacksField (2 ^ 8) label text a
large_status text label a b m within_a within_b read word stops large n rest below stops_rest is =
    let same = (number_told m n (drop b text) rest (left_by text label (decimal m) a b _ within_a within_b read (is ∙ append_assoc label (decimal n) rest)) word (omega (arith, below)) stops stops_rest).0 in
    omega (arith, same, large, below)

-- the settings
settings_flat : (m n : ℕ) (x : List ℕ) → bounds_text m n ++ x ≡ codes " pid-max " ++ (decimal m ++ (codes " stamp " ++ (decimal n ++ x)))
unfolding bounds_text
settings_flat m n x = simp append_assoc

pub no_stamp : (text : List ℕ) (a b k : ℕ) → a ≤ length text → b ≤ length text → IsRead text a b (field (codes " pid-max ") k) → IsWord k → StopsDigits (drop b text)
    → LacksField (2 ^ 64) (codes " stamp ") text b → LacksSettings bounds_text text a
no_stamp text a b k within_a within_b read word_k stops_k lacks m n rest small word stops is =
    no_field (2 ^ 64) text (codes " stamp ") b n rest lacks word stops
    (field_behind text (codes " pid-max ") a b k m _ within_a within_b read word_k (word_of_small m small) stops_k (inl (lit< tt)) (is ∙ settings_flat m n rest))

-- a namespace, up to each of its parts
module _ (text : List ℕ) (s : Space) (held : IsHeldSpace s) (x : List ℕ) (a0 : ℕ) (within : a0 ≤ length text) (is : drop a0 text ≡ space_line s ++ x) where
  abbrev behind_cursor : List ℕ
  behind_cursor = marked s.fallen (codes " fallen") ++ 10 ∷ x

  abbrev behind_parent : List ℕ
  behind_parent = codes " cursor " ++ (decimal s.cursor ++ behind_cursor)

  module _ (a1 id : ℕ) (within_id : a1 ≤ length text) (read_id : IsRead text a0 a1 (field (codes "space ") id)) (word_id : IsWord id) (stops_id : StopsDigits (drop a1 text)) where
    at_parent : drop a1 text ≡ codes " parent " ++ (parent_text s.parent ++ behind_parent)
    at_parent = field_behind text (codes "space ") a0 a1 id s.id _ within within_id read_id word_id held.id stops_id (inl (lit< tt)) (is ∙ space_flat s x)

    pub no_space_parent : LacksAny (λ p. IfSome p IsWord) (λ p. codes " parent " ++ parent_text p) text a1 → ⊥
    no_space_parent lacks = no_part (λ p. IfSome p IsWord) (codes " parent ") parent_text text a1 s.parent behind_parent lacks held.parent (inl (lit< tt)) at_parent

    module _ (a2 : ℕ) (p : Option ℕ) (within_parent : a2 ≤ length text) (read_parent : IsRead text a1 a2 (codes " parent " ++ parent_text p))
        (word_parent : IfSome p IsWord) (stops_parent : IfSome p (λ n. StopsDigits (drop a2 text))) where
      at_cursor : drop a2 text ≡ behind_parent
      at_cursor = parent_behind text a1 a2 p s.parent behind_parent within_id within_parent read_parent word_parent held.parent stops_parent (inl (lit< tt)) at_parent

      pub no_space_cursor : LacksField (2 ^ 32) (codes " cursor ") text a2 → ⊥
      no_space_cursor lacks = no_field (2 ^ 32) text (codes " cursor ") a2 s.cursor behind_cursor lacks held.cursor (stops_mark s.fallen x) at_cursor

      module _ (a3 cursor : ℕ) (within_cursor : a3 ≤ length text) (read_cursor : IsRead text a2 a3 (field (codes " cursor ") cursor)) (word_cursor : IsWord cursor) (stops_cursor : StopsDigits (drop a3 text)) where
        at_fallen : drop a3 text ≡ behind_cursor
        at_fallen = field_behind text (codes " cursor ") a2 a3 cursor s.cursor behind_cursor within_parent within_cursor read_cursor word_cursor (word_of_small s.cursor held.cursor)
            stops_cursor (stops_mark s.fallen x) at_cursor

        pub no_space_end : (a4 : ℕ) (fallen : Bool) → a4 ≤ length text → IsRead text a3 a4 (marked fallen (codes " fallen"))
            → (fallen ≡ false → Lacks (codes " fallen") text a3) → Lacks (10 ∷ []) text a4 → ⊥
        no_space_end a4 fallen within_fallen read_fallen missing lacks =
            lacks x (mark_behind text (codes " fallen") a3 a4 fallen s.fallen (10 ∷ x) within_cursor within_fallen read_fallen missing (λ z. not_marked x _) at_fallen)

-- a control group, up to each of its parts
module _ (text : List ℕ) (g : Control) (held : IsHeldControl g) (x : List ℕ) (a0 : ℕ) (within : a0 ≤ length text) (is : drop a0 text ≡ control_text_line g ++ x) where
  abbrev behind_outer : List ℕ
  behind_outer = codes " limit " ++ (limit_text g.limit ++ 10 ∷ x)

  module _ (a1 id : ℕ) (within_id : a1 ≤ length text) (read_id : IsRead text a0 a1 (field (codes "control ") id)) (word_id : IsWord id) (stops_id : StopsDigits (drop a1 text)) where
    at_outer : drop a1 text ≡ codes " parent " ++ (parent_text g.parent ++ behind_outer)
    at_outer = field_behind text (codes "control ") a0 a1 id g.id _ within within_id read_id word_id held.id stops_id (inl (lit< tt)) (is ∙ control_flat g x)

    pub no_control_parent : LacksAny (λ p. IfSome p IsWord) (λ p. codes " parent " ++ parent_text p) text a1 → ⊥
    no_control_parent lacks = no_part (λ p. IfSome p IsWord) (codes " parent ") parent_text text a1 g.parent behind_outer lacks held.parent (inl (lit< tt)) at_outer

    module _ (a2 : ℕ) (p : Option ℕ) (within_parent : a2 ≤ length text) (read_parent : IsRead text a1 a2 (codes " parent " ++ parent_text p))
        (word_parent : IfSome p IsWord) (stops_parent : IfSome p (λ n. StopsDigits (drop a2 text))) where
      at_limit : drop a2 text ≡ behind_outer
      at_limit = parent_behind text a1 a2 p g.parent behind_outer within_id within_parent read_parent word_parent held.parent stops_parent (inl (lit< tt)) at_outer

      pub no_control_limit : LacksAny (λ n. IfSome n IsSmall) (λ n. codes " limit " ++ limit_text n) text a2 → ⊥
      no_control_limit lacks = no_part (λ n. IfSome n IsSmall) (codes " limit ") limit_text text a2 g.limit (10 ∷ x) lacks held.limit (inl (lit< tt)) at_limit

      pub no_control_end : (a3 : ℕ) (limit : Option ℕ) → a3 ≤ length text → IsRead text a2 a3 (codes " limit " ++ limit_text limit)
          → IfSome limit IsWord → IfSome limit (λ n. StopsDigits (drop a3 text)) → Lacks (10 ∷ []) text a3 → ⊥
      no_control_end a3 limit within_limit read_limit word_limit stops_limit lacks =
          lacks x (limit_behind text a2 a3 limit g.limit (10 ∷ x) within_parent within_limit read_limit word_limit (words_of_small g.limit held.limit) stops_limit (inl (lit< tt)) at_limit)

-- the first line, up to each of its parts
module _ (text : List ℕ) (m n : ℕ) (small : IsSmall m) (word : IsWord n) (x : List ℕ) (a0 : ℕ) (within : a0 ≤ length text) (is : drop a0 text ≡ head_line m n ++ x) where
  pub no_head_word : Lacks (codes "pidtab table 1") text a0 → ⊥
  no_head_word lacks = lacks _ (is ∙ head_flat m n x)

  module _ (a1 : ℕ) (within_word : a1 ≤ length text) (read_word : IsRead text a0 a1 (codes "pidtab table 1")) where
    at_settings : drop a1 text ≡ codes " pid-max " ++ (decimal m ++ (codes " stamp " ++ (decimal n ++ 10 ∷ x)))
    at_settings = word_behind text (codes "pidtab table 1") a0 a1 _ within within_word read_word (is ∙ head_flat m n x)

    pub no_head_settings : LacksSettings bounds_text text a1 → ⊥
    no_head_settings lacks = lacks m n (10 ∷ x) small word (inl (lit< tt)) (at_settings ∙ sym (settings_flat m n (10 ∷ x)))

    pub no_head_end : (a2 k s : ℕ) → a2 ≤ length text → IsRead text a1 a2 (bounds_text k s) → IsWord k → IsWord s → StopsDigits (drop a2 text) → Lacks (10 ∷ []) text a2 → ⊥
    no_head_end a2 k s within_settings read_settings word_k word_s stops lacks =
        let here : codes " pid-max " ++ (decimal k ++ (codes " stamp " ++ (decimal s ++ drop a2 text))) ≡ codes " pid-max " ++ (decimal m ++ (codes " stamp " ++ (decimal n ++ 10 ∷ x))) =
        sym (settings_flat k s (drop a2 text)) ∙ sym (dropped text a1 a2 (bounds_text k s) within_word within_settings read_settings) ∙ at_settings in
        let bound = number_told k m _ _ (append_cancel_left (codes " pid-max ") _ _ here) word_k (word_of_small m small) (inl (lit< tt)) (inl (lit< tt)) in
        let stamp = number_told s n (drop a2 text) (10 ∷ x) (append_cancel_left (codes " stamp ") _ _ bound.1) word_s word stops (inl (lit< tt)) in
        lacks x stamp.1
