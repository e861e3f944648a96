-- Lines that newlines part.
use Rattle.std.proofs.Common.{◌≡◌, ℕ, ◌+◌, ◌<◌, ◌≤◌, Bool, true, false, eqb, ◌&&◌, List, [], ◌∷◌, ◌++◌, length, length-append, Option, Some, None, refl, sym, ap, ◌∙◌, arith, option_map}
use Rattle.std.specs.List.{AllByRecursion, join_with_byte, onto_first}
use Rattle.std.proofs.lemmas.Option.{none-some, same_Some}
use Rattle.pid_script.specs.Reading.{cut}
use Rattle.pid_script.proofs.Cuts.{by_test, option_map_some, cut-Some}
use Rattle.replica.specs.Entries.{LacksByte, IsLine}
use Rattle.replica.specs.Reading.{lines_in, has_bytes, are_full}

-- there is a line
onto_some : (b : ℕ) (ls : List (List ℕ)) → 0 < length (onto_first b ls)
onto_some b [] = omega arith
onto_some b (l ∷ ls) = omega arith

pub lines_some : (bs : List ℕ) → 0 < length (lines_in bs)
lines_some [] = omega arith
lines_some (b ∷ bs) =
    by_test (eqb b 10) (λ holds. rw holds (omega arith)) (λ fails. rw fails (onto_some b (lines_in bs)))

-- a line with a newline behind it, and one alone
line_then : (l rest : List ℕ) → LacksByte 10 l → lines_in (l ++ 10 ∷ rest) ≡ l ∷ lines_in rest
line_then [] rest lacks = refl
line_then (b ∷ l) rest lacks = rw (lacks.0, line_then l rest lacks.1)

line_alone : (l : List ℕ) → LacksByte 10 l → lines_in l ≡ l ∷ []
line_alone [] lacks = refl
line_alone (b ∷ l) lacks = rw (lacks.0, line_alone l lacks.1)

-- what is joined comes apart
pub lines_in-join : (ls : List (List ℕ)) → 0 < length ls → AllByRecursion IsLine ls → lines_in (join_with_byte 10 ls) ≡ ls
lines_in-join [] some good = absurd (omega (arith, some))
lines_in-join (l ∷ []) some good = line_alone l good.0.1
lines_in-join (l ∷ k ∷ ks) some good =
    line_then l (join_with_byte 10 (k ∷ ks)) good.0.1 ∙ ap (λ ls. l ∷ ls) (lines_in-join (k ∷ ks) (omega arith) good.1)

join_onto : (b : ℕ) (ls : List (List ℕ)) → 0 < length ls → join_with_byte 10 (onto_first b ls) ≡ b ∷ join_with_byte 10 ls
join_onto b [] some = absurd (omega (arith, some))
join_onto b (l ∷ []) some = refl
join_onto b (l ∷ k ∷ ks) some = refl

join_behind : (ls : List (List ℕ)) → 0 < length ls → join_with_byte 10 ([] ∷ ls) ≡ 10 ∷ join_with_byte 10 ls
join_behind [] some = absurd (omega (arith, some))
join_behind (l ∷ ls) some = refl

-- and what comes apart is joined again
pub join-lines_in : (bs : List ℕ) → join_with_byte 10 (lines_in bs) ≡ bs
join-lines_in [] = refl
join-lines_in (b ∷ bs) =
    by_test (eqb b 10)
    (λ holds. let is : b ≡ 10 = omega (arith, nat_eq_true b 10 holds) in
    rw holds (join_behind (lines_in bs) (lines_some bs) ∙ ap (λ l. 10 ∷ l) (join-lines_in bs) ∙ ap (λ c. c ∷ bs) (sym is)))
    (λ fails. rw fails (join_onto b (lines_in bs) (lines_some bs) ∙ ap (λ l. b ∷ l) (join-lines_in bs)))
  where
    nat_eq_true : (m n : ℕ) → eqb m n ≡ true → m ≡ n
    nat_eq_true m n is = grind (arith)

onto_lacks : (b : ℕ) (ls : List (List ℕ)) → eqb b 10 ≡ false → AllByRecursion (LacksByte 10) ls → AllByRecursion (LacksByte 10) (onto_first b ls)
onto_lacks b [] fails lacks = ((fails, tt), tt)
onto_lacks b (l ∷ ls) fails lacks = ((fails, lacks.0), lacks.1)

lines_lack : (bs : List ℕ) → AllByRecursion (LacksByte 10) (lines_in bs)
lines_lack [] = (tt, tt)
lines_lack (b ∷ bs) = by_test (eqb b 10) (λ holds. rw holds (tt, lines_lack bs)) (λ fails. rw fails (onto_lacks b (lines_in bs) fails (lines_lack bs)))

full : (l : List ℕ) → has_bytes l ≡ true → 0 < length l
full [] is = cc is
full (b ∷ l) is = omega arith

pub full_line : (l : List ℕ) → 0 < length l → has_bytes l ≡ true
full_line [] some = absurd (omega (arith, some))
full_line (b ∷ l) some = refl

pub empty_line : (l : List ℕ) → length l ≡ 0 → has_bytes l ≡ false
empty_line [] none = refl
empty_line (b ∷ l) none = absurd (omega (arith, none))

both_true : (a b : Bool) → (a && b) ≡ true → (a ≡ true) × (b ≡ true)
both_true true b is = (refl, is)
both_true false b is = cc is

good : (ls : List (List ℕ)) → are_full ls ≡ true → AllByRecursion (LacksByte 10) ls → AllByRecursion IsLine ls
good [] is lacks = tt
good (l ∷ ls) is lacks =
    let parts = both_true (has_bytes l) (are_full ls) is in ((full l parts.0, lacks.0), good ls parts.1 lacks.1)

-- lines that have a byte each are good, and good ones have
pub are_good : (bs : List ℕ) → are_full (lines_in bs) ≡ true → AllByRecursion IsLine (lines_in bs)
are_good bs is = good (lines_in bs) is (lines_lack bs)

pub good_full : (ls : List (List ℕ)) → AllByRecursion IsLine ls → are_full ls ≡ true
good_full [] all = refl
good_full (l ∷ ls) all = rw (full_line l all.0.0, good_full ls all.1)

-- the first line, and the others
pub cut_lines : (bs line after : List ℕ) → Some (line, after) ≡ cut 10 bs → lines_in bs ≡ line ∷ lines_in after
cut_lines [] line after is = absurd (none-some (line, after) (sym is))
cut_lines (b ∷ bs) line after is =
    by_test (eqb b 10)
    (λ holds. let same = same_Some ([], bs) (line, after) (sym (rw holds at is)) in
    rw holds (ap (λ p. p.0 ∷ lines_in p.1) same))
    (λ fails. option_map_some _ (cut 10 bs) (line, after) (sym (rw fails at is)) (λ p here same.
    rw fails (ap (onto_first b) (cut_lines bs p.0 p.1 (sym here)) ∙ ap (λ q. q.0 ∷ lines_in q.1) same)))

pub lines_more : (bs line after : List ℕ) → Some (line, after) ≡ cut 10 bs → length (lines_in bs) ≡ length (lines_in after) + 1
lines_more bs line after is = rw (cut_lines bs line after is) (omega arith)

pub full_more : (bs line after : List ℕ) → Some (line, after) ≡ cut 10 bs → are_full (lines_in bs) ≡ (has_bytes line && are_full (lines_in after))
full_more bs line after is = ap are_full (cut_lines bs line after is)

-- one line alone
pub no_cut : (bs : List ℕ) → None ≡ cut 10 bs → lines_in bs ≡ bs ∷ []
no_cut [] is = refl
no_cut (b ∷ bs) is =
    by_test (eqb b 10)
    (λ holds. absurd (none-some ([], bs) (rw holds at is)))
    (λ fails. rw fails (ap (onto_first b) (no_cut bs (not_mapped (λ p. (b ∷ p.0, p.1)) (cut 10 bs) (rw fails at is)))))
  where
    not_mapped : {A B : Type 0} (f : A → B) (o : Option A) → None ≡ option_map f o → None ≡ o
    not_mapped f None is = refl
    not_mapped f (Some x) is = absurd (none-some (f x) is)

-- what is left gets shorter
pub shorter : (bs line after : List ℕ) → Some (line, after) ≡ cut 10 bs → length after < length bs
shorter bs line after is =
    omega (arith, ap length (cut-Some 10 bs (line, after) (sym is)), length-append line (10 ∷ after))

onto_few : (b : ℕ) (ls : List (List ℕ)) → length (onto_first b ls) ≤ length ls + 1
onto_few b [] = omega arith
onto_few b (l ∷ ls) = omega arith

-- there are few lines
pub lines_few : (bs : List ℕ) → length (lines_in bs) ≤ length bs + 1
lines_few [] = omega arith
lines_few (b ∷ bs) =
    by_test (eqb b 10) (λ holds. rw holds (omega (arith, lines_few bs))) (λ fails. rw fails (omega (arith, onto_few b (lines_in bs), some_first b bs fails, lines_few bs)))
  where
    some_first : (b : ℕ) (bs : List ℕ) → eqb b 10 ≡ false → length (onto_first b (lines_in bs)) ≡ length (lines_in bs)
    some_first b bs fails = same_length b (lines_in bs) (lines_some bs)
      where
        same_length : (b : ℕ) (ls : List (List ℕ)) → 0 < length ls → length (onto_first b ls) ≡ length ls
        same_length b [] some = absurd (omega (arith, some))
        same_length b (l ∷ ls) some = refl

pub ruleset cuts = (lines_more, full_more, no_cut, shorter, lines_few)
