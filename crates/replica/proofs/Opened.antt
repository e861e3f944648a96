-- Sessions of a snapshot, as their lines say them.
use mathlib.Core.List.{reverse-cons}
use Rattle.std.proofs.Common.{◌≡◌, ℕ, zero, suc, ◌+◌, ◌-◌, ◌<◌, ◌≤◌, ◌^◌, true, false, eqb, nat_eq, is_some, List, [], ◌∷◌, ◌++◌, length, take, reverse, flat_map, decimal, Option, Some, None, nat_le, refl, sym, ap, ◌∙◌, subst, append_assoc, append-nil, arith}
use Rattle.std.specs.List.{AllByRecursion, IsDistinct}
use Rattle.std.specs.Map.{keys_of, lookup}
use Rattle.std.proofs.lemmas.Bool.Decides.{nat_tests}
use Rattle.std.proofs.lemmas.List.{take_all}
use Rattle.std.proofs.lemmas.List.Concat.{flat_map-append}
use Rattle.std.proofs.lemmas.Option.{none-some, same_Some, option_and_then_some}
use Rattle.pid_script.specs.Script.{with_newline}
use Rattle.pid_script.proofs.Cuts.{by_test}
use Rattle.pid_script.proofs.Words.{control, lacks_decimal}
use Rattle.replica.specs.Replicas.{used, without_key}
use Rattle.replica.specs.Snapshots.{IsSession, MayBeOpen, session_text, sessions_text}
use Rattle.replica.specs.HeadReading.{line_number, with_session, opened_more, session_in, sessions_in}
use Rattle.replica.proofs.Told.{lacks_number}
use Rattle.replica.proofs.Fronts.{Fronts, ended_front, joined_front, rewritten}

abbrev pub line_of : ℕ × ℕ → List ℕ
line_of session = with_newline (session_text session)

-- a number with a newline behind it, and the line of a session
pub line_number_front : Fronts line_number (λ n. decimal n ++ 10 ∷ []) (λ n. n < 2 ^ 64)
unfolding line_number
line_number_front = ended_front 10 control lacks_number

pub session_front : Fronts session_in line_of IsSession
unfolding session_in
session_front =
    rewritten (λ s. append_assoc (decimal s.0) (32 ∷ []) (decimal s.1 ++ 10 ∷ []) ∙ sym (append_assoc (decimal s.0) (32 ∷ decimal s.1) (10 ∷ [])))
    (joined_front (ended_front 32 control lacks_decimal) line_number_front)

-- the line of the session that was used last stands last
pub lines_more : (s : ℕ × ℕ) (ss : List (ℕ × ℕ)) → sessions_text (s ∷ ss) ≡ sessions_text ss ++ line_of s
lines_more s ss =
    ap (flat_map line_of) (reverse-cons s ss) ∙ flat_map-append line_of (reverse ss) (s ∷ [])
    ∙ ap (λ l. flat_map line_of (reverse ss) ++ l) (append-nil (line_of s))

-- what is not among the numbers is not found, and the other way round
fresh : (k : ℕ) (ss : List (ℕ × ℕ)) → AllByRecursion (λ j. eqb k j ≡ false) (keys_of ss) → lookup (λ s. eqb k s) ss ≡ None
fresh k [] others = refl
fresh k (s ∷ ss) others = rw others.0 (fresh k ss others.1)

absent : (k : ℕ) (ss : List (ℕ × ℕ)) → is_some (lookup (λ s. eqb k s) ss) ≡ false → AllByRecursion (λ j. eqb k j ≡ false) (keys_of ss)
absent k [] none = tt
absent k (s ∷ ss) none = by_test (eqb k s.0) (λ here. cc (rw here at none)) (λ other. (other, absent k ss (rw other at none)))

-- one that is not there is put before the others
without_none : (k : ℕ) (ss : List (ℕ × ℕ)) → AllByRecursion (λ j. eqb k j ≡ false) (keys_of ss) → without_key k ss ≡ ss
without_none k [] others = refl
without_none k (s ∷ ss) others = rw others.0 (ap (λ l. s ∷ l) (without_none k ss others.1))

pub used_new : (k n : ℕ) (ss : List (ℕ × ℕ)) → is_some (lookup (λ s. eqb k s) ss) ≡ false → length ss < 4096 → used k n ss ≡ (k, n) ∷ ss
used_new k n ss none room =
    ap (λ l. (k, n) ∷ take 4095 l) (without_none k ss (absent k ss none)) ∙ ap (λ l. (k, n) ∷ l) (take_all 4095 ss (omega (arith, room)))

-- one more session
opened_told : (s : ℕ × ℕ) (ss : List (ℕ × ℕ)) (rest : List ℕ) → IsSession s → AllByRecursion (λ j. eqb s.0 j ≡ false) (keys_of ss)
    → with_session ss (line_of s ++ rest) ≡ Some (s ∷ ss, rest)
unfolding with_session
opened_told s ss rest fits others = rw (session_front.told s rest fits, fresh s.0 ss others) refl

record IsOpened (ss : List (ℕ × ℕ)) (text : List ℕ) (p : List (ℕ × ℕ) × List ℕ) : Type 0 where
  session : ℕ × ℕ
  after : p.0 ≡ session ∷ ss
  line : text ≡ line_of session ++ p.1
  fits : IsSession session
  others : AllByRecursion (λ j. eqb session.0 j ≡ false) (keys_of ss)

opened_says : (ss : List (ℕ × ℕ)) (text : List ℕ) (p : List (ℕ × ℕ) × List ℕ) → with_session ss text ≡ Some p → IsOpened ss text p
unfolding with_session
opened_says ss text p is =
    option_and_then_some _ (session_in text) p is (λ q here more.
    by_test (is_some (lookup (λ s. eqb q.0.0 s) ss))
    (λ found. absurd (none-some p (rw found at more)))
    (λ other.
    let same : (q.0 ∷ ss, q.1) ≡ p = same_Some (q.0 ∷ ss, q.1) p (rw other at more) in
    let a = session_front.says text q here in
    subst (IsOpened ss text) same (record { session = q.0; after = refl; line = a.0; fits = a.1; others = absent q.0.0 ss other })))

-- the sessions and so many more
more_told : (ss : List (ℕ × ℕ)) (n : ℕ) (rest : List ℕ) → AllByRecursion IsSession ss → IsDistinct nat_eq (keys_of ss)
    → opened_more (length ss + n) [] (sessions_text ss ++ rest) ≡ opened_more n ss rest
unfolding IsDistinct
more_told [] n rest fits distinct = let same : 0 + n ≡ n = omega arith in rw same refl
more_told (s ∷ ss) n rest fits distinct =
    let count : suc (length ss) + n ≡ length ss + suc n = omega arith in
    let text : sessions_text (s ∷ ss) ++ rest ≡ sessions_text ss ++ (line_of s ++ rest) =
    ap (λ l. l ++ rest) (lines_more s ss) ∙ append_assoc (sessions_text ss) (line_of s) rest in
    ap (λ m. opened_more m [] (sessions_text (s ∷ ss) ++ rest)) count ∙ ap (opened_more (length ss + suc n) []) text
    ∙ more_told ss (suc n) (line_of s ++ rest) fits.1 distinct.1 ∙ rw (opened_told s ss rest fits.0 distinct.0) refl

record AreOpen (n : ℕ) (ss : List (ℕ × ℕ)) (text : List ℕ) (p : List (ℕ × ℕ) × List ℕ) : Type 0 where
  count : length p.0 ≡ length ss + n
  lines : sessions_text ss ++ text ≡ sessions_text p.0 ++ p.1
  fits : AllByRecursion IsSession p.0
  distinct : IsDistinct nat_eq (keys_of p.0)

more_says : (n : ℕ) (ss : List (ℕ × ℕ)) (text : List ℕ) (p : List (ℕ × ℕ) × List ℕ) → AllByRecursion IsSession ss → IsDistinct nat_eq (keys_of ss)
    → opened_more n ss text ≡ Some p → AreOpen n ss text p
unfolding IsDistinct
more_says zero ss text p fits distinct is =
    subst (AreOpen zero ss text) (same_Some (ss, text) p is) (record { count = omega arith; lines = refl; fits = fits; distinct = distinct })
more_says (suc n) ss text p fits distinct is =
    option_and_then_some _ (with_session ss text) p is (λ q here more.
    let a = opened_says ss text q here in
    let next = subst (λ l. opened_more n l q.1 ≡ Some p) a.after more in
    let b = more_says n (a.session ∷ ss) q.1 p (a.fits, fits) (a.others, distinct) next in record {
      count = omega (arith, b.count);
      lines =
          ap (λ l. sessions_text ss ++ l) a.line ∙ sym (append_assoc (sessions_text ss) (line_of a.session) q.1)
          ∙ ap (λ l. l ++ q.1) (sym (lines_more a.session ss)) ∙ b.lines;
      fits = b.fits;
      distinct = b.distinct;
    })

few_is : (n : ℕ) → n ≤ 4096 → nat_le n 4096 ≡ true
few_is n few = grind (arith, nat_tests)

-- the lines of all sessions are read as these
pub sessions_told : (ss : List (ℕ × ℕ)) (rest : List ℕ) → MayBeOpen ss → sessions_in (length ss) (sessions_text ss ++ rest) ≡ Some (ss, rest)
unfolding sessions_in
sessions_told ss rest may =
    let within : nat_le (length ss) 4096 ≡ true = few_is (length ss) may.few in
    let count : length ss + 0 ≡ length ss = omega arith in
    rw within (ap (λ m. opened_more m [] (sessions_text ss ++ rest)) (sym count) ∙ more_told ss 0 rest may.numbers may.distinct)

pub record AreSessions (count : ℕ) (lines : List ℕ) (p : List (ℕ × ℕ) × List ℕ) : Type 0 where
  pub number : length p.0 ≡ count
  pub text : lines ≡ sessions_text p.0 ++ p.1
  pub may : MayBeOpen p.0

pub sessions_say : (count : ℕ) (lines : List ℕ) (p : List (ℕ × ℕ) × List ℕ) → sessions_in count lines ≡ Some p → AreSessions count lines p
unfolding sessions_in IsDistinct
sessions_say count lines p is =
    by_test (nat_le count 4096)
    (λ within.
    let few : count ≤ 4096 = le_of count within in
    let a = more_says count [] lines p tt tt (rw within at is) in record {
      number = omega (arith, a.count);
      text = a.lines;
      may = record { few = omega (arith, a.count, few); numbers = a.fits; distinct = a.distinct };
    })
    (λ beyond. absurd (none-some p (rw beyond at is)))
  where
    le_of : (n : ℕ) → nat_le n 4096 ≡ true → n ≤ 4096
    le_of n is = grind (arith, nat_tests)

-- as the sessions are opened, one after the other
pub more_step : (m n : ℕ) (ss : List (ℕ × ℕ)) (text : List ℕ) (p : List (ℕ × ℕ) × List ℕ) → m ≡ suc n → with_session ss text ≡ Some p
    → opened_more n p.0 p.1 ≡ opened_more m ss text
more_step m n ss text p count is = sym (rw (count, is) refl)

pub one_more : (ss : List (ℕ × ℕ)) (text : List ℕ) (p : List (ℕ × ℕ) × List ℕ) → with_session ss text ≡ Some p → length p.0 ≡ length ss + 1
one_more ss text p is = let a = opened_says ss text p is in omega (arith, ap length a.after)

-- one more session is opened
pub opened_is : (session last : ℕ) (ss new : List (ℕ × ℕ)) (lines rest : List ℕ) (found : Option ℕ) → Some ((session, last), rest) ≡ session_in lines
    → found ≡ lookup (λ s. eqb session s) ss → is_some found ≡ false → length ss < 4096 → new ≡ used session last ss → with_session ss lines ≡ Some (new, rest)
unfolding with_session
opened_is session last ss new lines rest found is here none room put =
    let other : is_some (lookup (λ s. eqb session s) ss) ≡ false = ap is_some (sym here) ∙ none in
    rw (← is, other) (ap (λ l. Some (l, rest)) (sym (put ∙ used_new session last ss other room)))

-- its line says one that is open
pub stands_twice : (session last : ℕ) (ss : List (ℕ × ℕ)) (lines rest : List ℕ) (found : Option ℕ) → Some ((session, last), rest) ≡ session_in lines
    → found ≡ lookup (λ s. eqb session s) ss → true ≡ is_some found → with_session ss lines ≡ None
unfolding with_session
stands_twice session last ss lines rest found is here some =
    let there : is_some (lookup (λ s. eqb session s) ss) ≡ true = ap is_some (sym here) ∙ sym some in
    rw (← is, there)

-- there is room for one more, and behind the last all are open
pub room_for_one : (before counter count : ℕ) → before ≡ counter → counter < count → count ≤ 4096 → before < 4096
room_for_one before counter count is below few = omega arith

pub all_opened : (count counter : ℕ) (ss : List (ℕ × ℕ)) (lines rest : List ℕ) → count ≤ 4096 → count ≤ counter
    → opened_more (count - counter) ss rest ≡ opened_more count [] lines → sessions_in count lines ≡ Some (ss, rest)
unfolding sessions_in
all_opened count counter ss lines rest few past more =
    let none : count - counter ≡ 0 = omega arith in
    rw (few_is count few) (sym more ∙ ap (λ n. opened_more n ss rest) none)
