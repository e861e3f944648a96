-- What the lines say that end within some bytes.
use Rattle.std.proofs.Common.{◌≡◌, ℕ, ◌<◌, Bool, true, false, cond, eqb, leb, List, [], ◌∷◌, ◌++◌, length, length-append, Option, Some, None, refl, sym, ap, ◌∙◌, append_assoc, option_map, arith, leb-false, subst}
use Rattle.std.proofs.lemmas.Bool.Decides.{nat_tests}
use Rattle.std.proofs.lemmas.Option.{none-some, same_Some}
use Rattle.pid_script.specs.declared.line.Line.{Line}
use Rattle.pid_script.specs.Script.{kept_line, kept_more, said_line, said_within, kept_after}
use Rattle.pid_script.specs.Reading.{cut}
use Rattle.pid_script.proofs.Cuts.{by_test, option_map_some}

kept_line-long : (line : List ℕ) → 200 < length line → kept_line line ≡ None
kept_line-long line long =
    let past : leb (length line) 200 ≡ false = grind (arith, nat_tests) in rw past

-- what is kept of a line, and then of more of it
pub kept_line-more : (line : List ℕ) (b : ℕ) (bs : List ℕ) (t : Bool) → leb (length line) 200 ≡ t → kept_more (cond t (Some line) None) (b ∷ bs) ≡ kept_line (line ++ b ∷ bs)
kept_line-more line b bs true short = refl
kept_line-more line b bs false long = sym (kept_line-long (line ++ b ∷ bs) (omega (arith, leb-false _ _ long, length-append line (b ∷ bs))))

-- more bytes, one after another
kept_more-cons : (kept : Option (List ℕ)) (b : ℕ) (more : List ℕ) → kept_more (kept_more kept (b ∷ [])) more ≡ kept_more kept (b ∷ more)
kept_more-cons None b [] = refl
kept_more-cons None b (c ∷ cs) = refl
kept_more-cons (Some line) b [] = refl
kept_more-cons (Some line) b (c ∷ cs) =
    kept_line-more (line ++ b ∷ []) c cs (leb (length (line ++ b ∷ [])) 200) refl ∙ ap kept_line (append_assoc line (b ∷ []) (c ∷ cs))

-- what a cut at a newline finds
pub record IsFirstEnd (kept : Option (List ℕ)) (bytes : List ℕ) (p : List ℕ × List ℕ) : Type 0 where
  pub said : said_within kept bytes ≡ said_line (kept_more kept p.0) ∷ said_within (Some []) p.1
  pub left : kept_after kept bytes ≡ kept_after (Some []) p.1
  pub shorter : length p.1 < length bytes

option_map_none : {A B : Type 0} (f : A → B) (o : Option A) → option_map f o ≡ None → o ≡ None
option_map_none f None is = refl
option_map_none f (Some x) is = absurd (none-some (f x) (sym is))

pub first_end : (kept : Option (List ℕ)) (bytes : List ℕ) (p : List ℕ × List ℕ) → cut 10 bytes ≡ Some p → IsFirstEnd kept bytes p
first_end kept [] p found = absurd (none-some p found)
first_end kept (b ∷ bs) p found =
    by_test (eqb b 10)
    (λ ends. subst (IsFirstEnd kept (b ∷ bs)) (same_Some ([], bs) p (rw ends at found)) (record { said = rw ends; left = rw ends; shorter = omega arith }))
    (λ goes_on. option_map_some _ (cut 10 bs) p (rw goes_on at found) (λ q later same.
    let end = first_end (kept_more kept (b ∷ [])) bs q later in
    subst (IsFirstEnd kept (b ∷ bs)) same (record {
      said = rw goes_on (end.said ∙ ap (λ k. said_line k ∷ said_within (Some []) q.1) (kept_more-cons kept b q.0));
      left = rw goes_on end.left;
      shorter = omega (arith, end.shorter);
    })))

-- where no newline comes, no line ends
pub no_end : (kept : Option (List ℕ)) (bytes : List ℕ) → cut 10 bytes ≡ None → (said_within kept bytes ≡ []) × (kept_after kept bytes ≡ kept_more kept bytes)
no_end None [] none = (refl, refl)
no_end (Some line) [] none = (refl, refl)
no_end kept (b ∷ bs) none =
    by_test (eqb b 10)
    (λ ends. absurd (none-some {A = List ℕ × List ℕ} ([], bs) (sym (rw ends at none))))
    (λ goes_on. let end = no_end (kept_more kept (b ∷ [])) bs (option_map_none _ (cut 10 bs) (rw goes_on at none)) in
    (rw goes_on end.0, rw goes_on (end.1 ∙ kept_more-cons kept b bs)))

-- one line that ended, and what the lines after it say
pub said_more : (lines : List Line) (line : Line) (kept next : Option (List ℕ)) (bytes rest : List ℕ) (end : List ℕ) (all : List Line)
    → line ≡ said_line (kept_more kept end) → next ≡ Some [] → IsFirstEnd kept bytes (end, rest)
    → lines ++ said_within kept bytes ≡ all → (lines ++ line ∷ []) ++ said_within next rest ≡ all
said_more lines line kept next bytes rest end all says begins ends is =
    append_assoc lines (line ∷ []) (said_within next rest)
    ∙ ap (λ l. lines ++ l ∷ said_within next rest) says
    ∙ ap (λ k. lines ++ said_line (kept_more kept end) ∷ said_within k rest) begins
    ∙ ap (λ ls. lines ++ ls) (sym ends.said) ∙ is

-- bytes in two pieces
pub said_within-append : (kept : Option (List ℕ)) (xs ys : List ℕ) → said_within kept (xs ++ ys) ≡ said_within kept xs ++ said_within (kept_after kept xs) ys
said_within-append kept [] ys = refl
said_within-append kept (x ∷ xs) ys =
    by_test (eqb x 10) (λ ends. (rw ends (ap (λ ls. said_line kept ∷ ls) (said_within-append (Some []) xs ys))))
    (λ goes_on. (rw goes_on (said_within-append (kept_more kept (x ∷ [])) xs ys)))

pub kept_after-append : (kept : Option (List ℕ)) (xs ys : List ℕ) → kept_after kept (xs ++ ys) ≡ kept_after (kept_after kept xs) ys
kept_after-append kept [] ys = refl
kept_after-append kept (x ∷ xs) ys =
    by_test (eqb x 10) (λ ends. (rw ends (kept_after-append (Some []) xs ys))) (λ goes_on. (rw goes_on (kept_after-append (kept_more kept (x ∷ [])) xs ys)))
