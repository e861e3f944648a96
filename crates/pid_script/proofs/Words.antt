-- Words that are read as they are written, one behind another.
use Rattle.std.proofs.Common.{◌≡◌, ◌≢◌, ℕ, ◌+◌, ◌^◌, ◌<◌, ◌≤◌, Bool, true, false, eqb, List, [], ◌∷◌, ◌++◌, length, length-append, get_or, Option, Some, None, IfSome, suc, decimal, codes, refl, sym, ap, ◌∙◌, subst, arith, ℤ, pos, FitsSigned, lit≤, option_map, option_and_then}
use Rattle.std.specs.List.{join_with_byte}
use Rattle.std.specs.Option.{option_or}
pub use Rattle.pid_types.specs.declared.call.Which.{Which}
pub use Rattle.pid_types.specs.declared.call.Which.TheVariants.{Any, Pid, OwnGroup, Group}
use Rattle.pid_types.specs.declared.call.Kind.{Kind}
use Rattle.pid_types.specs.declared.call.Kind.TheVariants as kind
use Rattle.pid_script.specs.Lines.{word_of_kind, words_of_which, FitsWhich}
use Rattle.pid_script.specs.Reading.{cut, number_below, signed_of, is_word, named, before, pair, process_of, control_of, numbered_of, which_read, kind_read, limit_read, switch_read}
use Rattle.pid_script.proofs.Cuts.{Lacks, by_test, cut-append, cut-Some, option_map_some}
use Rattle.pid_script.proofs.Numbers.{numerals, number_below-decimal, number_below-Some, signed_of-decimal, signed_of-Some, negsuc, w32, signed_decimal, AllDigits, digits_decimal, decimal_nonempty, digit_from_value, not_in_digits, bytes_eq-Decides, nat_tests, none-some, same_Some, option_and_then_some}
use Rattle.pid_script.proofs.Room.{length_decimal_of_32, length_decimal_of_64}

-- what is written so is read as that, and is no longer than this; and nothing else is read
pub record Reads {A : Type 0} (read : List ℕ → Option A) (write : A → List ℕ) (Fits : A → Type 0) (most : ℕ) : Type 0 where
  pub told : (x : A) → Fits x → (read (write x) ≡ Some x) × (length (write x) ≤ most)
  pub says : (w : List ℕ) (x : A) → read w ≡ Some x → (w ≡ write x) × Fits x

module _ {A B : Type 0} {first : List ℕ → Option A} {write : A → List ℕ} {Fits : A → Type 0} {m : ℕ} {second : List ℕ → Option B} {last : B → List ℕ} {Ends : B → Type 0} {n : ℕ} where
  -- one argument, a space and what comes after it
  pub both : Reads first write Fits m → ((x : A) → Fits x → Lacks 32 (write x)) → Reads second last Ends n
      → Reads (pair first second) (λ p. write p.0 ++ 32 ∷ last p.1) (λ p. Fits p.0 × Ends p.1) (m + n + 1)
  both one lacks rest = record {
    told = λ p fits.
        let a = one.told p.0 fits.0 in
        let b = rest.told p.1 fits.1 in
        (rw (cut-append 32 (write p.0) (last p.1) (lacks p.0 fits.0), a.0, b.0), omega (arith, a.1, b.1, length-append (write p.0) (32 ∷ last p.1)));
    says = λ w p is.
        option_and_then_some _ (before first w) p is (λ q here more.
        option_and_then_some _ (cut 32 w) q here (λ c cuts read.
        option_and_then_some _ (first c.0) q read (λ x front same.
        option_and_then_some _ (second c.1) p (subst (λ r. option_and_then (λ y. Some (r.0, y)) (second r.1) ≡ Some p) (sym (same_Some _ q same)) more) (λ y back pairs.
        let a = one.says c.0 x front in
        let b = rest.says c.1 y back in
        subst (λ p. (w ≡ write p.0 ++ 32 ∷ last p.1) × (Fits p.0 × Ends p.1)) (same_Some _ p pairs) (cut-Some 32 w c cuts ∙ (λ i. a.0 i ++ 32 ∷ b.0 i), (a.1, b.1))))));
  }

-- numbers
pub number : (bound : ℕ) → bound ≤ 2 ^ 64 → Reads (number_below bound) decimal (λ n. n < bound) 20
number bound le = record {
  told = λ n below. (number_below-decimal bound n below (omega arith), length_decimal_of_64 n (omega arith));
  says = λ w n is. let a = number_below-Some bound w n is in (sym a.1, a.0);
}

pub process : Reads process_of decimal (λ n. n < 2 ^ 32) 20
process = number (2 ^ 32) (lit≤ tt)

pub control : Reads control_of decimal (λ n. n < 2 ^ 64) 20
control = number (2 ^ 64) (lit≤ tt)

lacks_space : (ds : List ℕ) → AllDigits 10 ds → Lacks 32 ds
lacks_space [] digits = tt
lacks_space (d ∷ ds) digits =
    let range = digit_from_value d digits.0 in
    let other : d ≢ 32 = λ is. absurd (omega (arith, is)) in
    let differs : eqb d 32 ≡ false = grind (arith, nat_tests) in
    (differs, lacks_space ds digits.1)

-- no number has a space in it
pub lacks_decimal : (n : ℕ) → n < 2 ^ 64 → Lacks 32 (decimal n)
lacks_decimal n small = lacks_space (decimal n) (digits_decimal numerals n small)

short_signed : (z : ℤ) → FitsSigned w32 z → (length (signed_decimal z) ≤ 20) × Lacks 32 (signed_decimal z)
short_signed (pos n) fits =
    let small : n < 2 ^ 31 = fits.sfits in (length_decimal_of_64 n (omega arith), lacks_decimal n (omega arith))
short_signed (negsuc n) fits =
    let small : n < 2 ^ 31 = fits.sfits in (omega (arith, length_decimal_of_32 (suc n) (omega arith)), (refl, lacks_decimal (suc n) (omega arith)))

pub signed : Reads signed_of signed_decimal (FitsSigned w32) 20
signed = record {
  told = λ z fits. (signed_of-decimal z fits, (short_signed z fits).0);
  says = λ w z is. let a = signed_of-Some w z is in (sym a.1, a.0);
}

pub lacks_signed : (z : ℤ) → FitsSigned w32 z → Lacks 32 (signed_decimal z)
lacks_signed z fits = (short_signed z fits).1

-- a process, and what comes after it
pub behind : {B : Type 0} {read : List ℕ → Option B} {write : B → List ℕ} {Fits : B → Type 0} {n : ℕ} → Reads read write Fits n
    → Reads (pair process_of read) (λ p. decimal p.0 ++ 32 ∷ write p.1) (λ p. (p.0 < 2 ^ 32) × Fits p.1) (20 + n + 1)
behind rest = both process (λ n small. lacks_decimal n (omega arith)) rest

-- each row of a table is so: one row, and the others
abbrev pub Rows : {A : Type 0} → (List ℕ → A → Type 0) → List (List ℕ × A) → Type 0
Rows P [] = Unit {0}
Rows P (row ∷ rows) = P row.0 row.1 × Rows P rows

infixr 5 ◌◂◌
abbrev pub ◌◂◌ : {A B : Type 0} → A → B → A × B
one ◂ others = (one, others)

-- so is the row that a word has
pub named-says : {A : Type 0} (P : List ℕ → A → Type 0) (rows : List (List ℕ × A)) → Rows P rows → (word : List ℕ) (x : A) → named rows word ≡ Some x → P word x
named-says P [] all word x is = absurd (none-some x is)
named-says P (row ∷ rows) all word x is =
    by_test (is_word row.0 word)
    (λ same. subst (λ w. P w x) (sym ((bytes_eq-Decides word row.0).0 same)) (subst (P row.0) (same_Some row.1 x (rw same at is)) all.0))
    (λ other. named-says P rows all.1 word x (rw other at is))

-- what is read one way, or else the other
pub either : {A P : Type 0} (o p : Option A) (x : A) → option_or o p ≡ Some x → (o ≡ Some x → P) → (p ≡ Some x → P) → P
either None p x is one other = other is
either (Some y) p x is one other = one is

-- kinds
kind_told : (k : Kind) → (kind_read (word_of_kind k) ≡ Some k) × (length (word_of_kind k) ≤ 7) × Lacks 32 (word_of_kind k)
unfolding kind_read
kind_told kind.Task = (refl, lit≤ tt, (refl, (refl, (refl, (refl, tt)))))
kind_told kind.Group = (refl, lit≤ tt, (refl, (refl, (refl, (refl, (refl, tt))))))
kind_told kind.Session = (refl, lit≤ tt, (refl, (refl, (refl, (refl, (refl, (refl, (refl, tt))))))))

pub kinds : Reads kind_read word_of_kind (λ k. Unit {0}) 7
unfolding kind_read
kinds = record {
  told = λ k _. ((kind_told k).0, (kind_told k).1);
  says = λ w k is. (
    named-says (λ w k. w ≡ word_of_kind k) ((codes "task", kind.Task) ∷ (codes "group", kind.Group) ∷ (codes "session", kind.Session) ∷ [])
        (refl ◂ refl ◂ refl ◂ tt) w k is,
    tt,
  );
}

pub lacks_kind : (k : Kind) → Unit {0} → Lacks 32 (word_of_kind k)
lacks_kind k _ = (kind_told k).2

-- a switch
abbrev pub word_of_switch : Bool → List ℕ
word_of_switch true = codes "on"
word_of_switch false = codes "off"

switch_told : (on : Bool) → Unit {0} → (switch_read (word_of_switch on) ≡ Some on) × (length (word_of_switch on) ≤ 3)
unfolding switch_read
switch_told true _ = (refl, lit≤ tt)
switch_told false _ = (refl, lit≤ tt)

pub switch : Reads switch_read word_of_switch (λ on. Unit {0}) 3
unfolding switch_read
switch = record {
  told = switch_told;
  says = λ w on is. (named-says (λ w on. w ≡ word_of_switch on) ((codes "on", true) ∷ (codes "off", false) ∷ []) (refl ◂ refl ◂ tt) w on is, tt);
}

-- the children that a wait selects
abbrev pub text_of_which : Which → List ℕ
text_of_which which = join_with_byte 32 (words_of_which which)

which_told : (x : Which) → FitsWhich x → (which_read (text_of_which x) ≡ Some x) × (length (text_of_which x) ≤ 20)
unfolding which_read numbered_of
which_told Any fits = (refl, lit≤ tt)
which_told OwnGroup fits = (refl, lit≤ tt)
which_told (Pid n) fits = (rw (number_below-decimal (2 ^ 32) n fits (omega arith)), omega (arith, length_decimal_of_32 n fits))
which_told (Group n) fits = (rw (number_below-decimal (2 ^ 32) n fits (omega arith)), omega (arith, length_decimal_of_32 n fits))

abbrev IsWritten : List ℕ → Which → Type 0
IsWritten words x = (words ≡ text_of_which x) × FitsWhich x

pub which : Reads which_read text_of_which FitsWhich 20
unfolding which_read numbered_of
which = record {
  told = which_told;
  says = λ words x is.
      let selectors : List (List ℕ × (ℕ → Which)) = (codes "pid", Pid) ∷ (codes "group", Group) ∷ [] in
      either _ (numbered_of words) x is (named-says IsWritten ((codes "any", Any) ∷ (codes "own", OwnGroup) ∷ []) ((refl, tt) ◂ (refl, tt) ◂ tt) words x)
      (λ numbered.
      option_and_then_some _ (cut 32 words) x numbered (λ p cuts rest.
      option_and_then_some _ (process_of p.1) x rest (λ n number last.
      option_map_some _ (named selectors p.0) x last (λ selector one same.
      let a = number_below-Some (2 ^ 32) p.1 n number in
      subst (IsWritten words) same (subst (λ bytes. IsWritten bytes (selector n)) (sym (cut-Some 32 words p cuts ∙ ap (λ w. p.0 ++ 32 ∷ w) (sym a.1)))
      (named-says (λ word selector. IsWritten (word ++ 32 ∷ decimal n) (selector n)) selectors ((refl, a.0) ◂ (refl, a.0) ◂ tt) p.0 selector one))))));
}

-- a limit
abbrev pub text_of_limit : Option ℕ → List ℕ
text_of_limit None = codes "max"
text_of_limit (Some limit) = decimal limit

abbrev IsLimit : Option ℕ → Type 0
IsLimit limit = IfSome limit (λ n. n < 2 ^ 32)

pub false_from : (b : Bool) → (b ≡ true → ⊥) → b ≡ false
false_from true never = absurd (never refl)
false_from false never = refl

limit_told : (x : Option ℕ) → IsLimit x → (limit_read (text_of_limit x) ≡ Some x) × (length (text_of_limit x) ≤ 20)
unfolding limit_read
limit_told None fits = (refl, lit≤ tt)
limit_told (Some n) fits =
    let not_max : is_word (codes "max") (decimal n) ≡ false = false_from _ (λ same.
    not_in_digits numerals (decimal n) 109 (digits_decimal numerals n (omega arith)) (λ range. absurd (omega (arith, range))) 0 (decimal_nonempty n (omega arith))
    (ap (λ ds. get_or ds 0 0) ((bytes_eq-Decides (decimal n) (codes "max")).0 same))) in
    (rw (not_max, number_below-decimal (2 ^ 32) n fits (omega arith)), length_decimal_of_64 n (omega arith))

pub limit : Reads limit_read text_of_limit IsLimit 20
unfolding limit_read
limit = record {
  told = limit_told;
  says = λ w x is.
      either _ (option_map Some (process_of w)) x is
      (named-says (λ w x. (w ≡ text_of_limit x) × IsLimit x) ((codes "max", None) ∷ []) ((refl, tt) ◂ tt) w x)
      (λ some. option_map_some _ (process_of w) x some (λ n number same.
      let a = number_below-Some (2 ^ 32) w n number in subst (λ x. (w ≡ text_of_limit x) × IsLimit x) same (sym a.1, a.0)));
}
