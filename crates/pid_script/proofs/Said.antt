-- The lines of a script, however its bytes come.
use Rattle.std.proofs.Common.{◌≡◌, ℕ, Bool, true, false, cond, eqb, leb, List, [], ◌∷◌, ◌++◌, length, map, Option, Some, None, refl, sym, ap, ◌∙◌, append_assoc, append-nil}
use Rattle.std.specs.List.{onto_first}
use Rattle.pid_script.specs.Reading.{parsed}
use Rattle.pid_script.specs.Script.{lines_of, onto_whole, whole_lines_of, said_of, said_whole, kept_line, kept_more, said_line, last_said, said_within, kept_after}
use Rattle.pid_script.proofs.Kept.{said_by_kept}
use Rattle.pid_script.proofs.Cuts.{by_test}
use Rattle.pid_script.proofs.Within.{kept_line-more}

-- the bytes that came before go to the front of the first line
abbrev onto_first_whole : List ℕ → List (List ℕ) → List (List ℕ)
onto_first_whole part [] = []
onto_first_whole part (line ∷ lines) = (part ++ line) ∷ lines

abbrev onto_first_line : List ℕ → List (List ℕ) → List (List ℕ)
onto_first_line [] lines = lines
onto_first_line (b ∷ bs) [] = (b ∷ bs) ∷ []
onto_first_line (b ∷ bs) (line ∷ lines) = (b ∷ bs ++ line) ∷ lines

kept_next : (part : List ℕ) (b : ℕ) → kept_more (kept_line part) (b ∷ []) ≡ kept_line (part ++ b ∷ [])
kept_next part b = kept_line-more part b [] (leb (length part) 200) refl

onto_whole-more : (part : List ℕ) (b : ℕ) (lines : List (List ℕ)) → onto_first_whole (part ++ b ∷ []) lines ≡ onto_first_whole part (onto_whole b lines)
onto_whole-more part b [] = refl
onto_whole-more part b (line ∷ lines) = ap (λ l. l ∷ lines) (append_assoc part (b ∷ []) line)

onto_line-more : (part : List ℕ) (b : ℕ) (lines : List (List ℕ)) → onto_first_line (part ++ b ∷ []) lines ≡ onto_first_line part (onto_first b lines)
onto_line-more [] b [] = refl
onto_line-more [] b (line ∷ lines) = refl
onto_line-more (p ∷ ps) b [] = refl
onto_line-more (p ∷ ps) b (line ∷ lines) = ap (λ l. (p ∷ l) ∷ lines) (append_assoc ps (b ∷ []) line)

onto_nothing : (lines : List (List ℕ)) → onto_first_whole [] lines ≡ lines
onto_nothing [] = refl
onto_nothing (line ∷ lines) = refl

whole_from : (part bs : List ℕ) → said_within (kept_line part) bs ≡ map parsed (onto_first_whole part (whole_lines_of bs))
whole_from part [] = refl
whole_from part (b ∷ bs) =
    by_test (eqb b 10)
    (λ ends. (rw ends (λ i. (said_by_kept part ∙ ap parsed (sym (append-nil part))) i ∷ (whole_from [] bs ∙ ap (map parsed) (onto_nothing (whole_lines_of bs))) i)))
    (λ goes_on. (rw goes_on (ap (λ kept. said_within kept bs) (kept_next part b) ∙ whole_from (part ++ b ∷ []) bs ∙ ap (map parsed) (onto_whole-more part b (whole_lines_of bs)))))

-- the lines that have ended
pub said_within-whole : (bytes : List ℕ) → said_within (Some []) bytes ≡ said_whole bytes
said_within-whole bytes = whole_from [] bytes ∙ ap (map parsed) (onto_nothing (whole_lines_of bytes))

last_of_part : (part : List ℕ) → last_said (kept_line part) ≡ map parsed (onto_first_line part [])
last_of_part [] = refl
last_of_part (b ∷ bs) = at (leb (length (b ∷ bs)) 200) refl
  where
    at : (t : Bool) → leb (length (b ∷ bs)) 200 ≡ t → last_said (cond t (Some (b ∷ bs)) None) ≡ parsed (b ∷ bs) ∷ []
    at true short = refl
    at false long = ap (λ l. l ∷ []) (ap (λ t. said_line (cond t (Some (b ∷ bs)) None)) (sym long) ∙ said_by_kept (b ∷ bs))

-- what a newline ends
ended : (part : List ℕ) (lines : List (List ℕ)) → parsed part ∷ map parsed lines ≡ map parsed (onto_first_line part ([] ∷ lines))
ended [] lines = refl
ended (p ∷ ps) lines = ap (λ l. parsed (p ∷ l) ∷ map parsed lines) (sym (append-nil ps))

all_from : (part bs : List ℕ) → said_within (kept_line part) bs ++ last_said (kept_after (kept_line part) bs) ≡ map parsed (onto_first_line part (lines_of bs))
all_from part [] = last_of_part part
all_from part (b ∷ bs) =
    by_test (eqb b 10) (λ ends. (rw ends ((λ i. said_by_kept part i ∷ all_from [] bs i) ∙ ended part (lines_of bs))))
    (λ goes_on. (rw goes_on (ap (λ kept. said_within kept bs ++ last_said (kept_after kept bs)) (kept_next part b) ∙ all_from (part ++ b ∷ []) bs ∙ ap (map parsed) (onto_line-more part b (lines_of bs)))))

-- all lines
pub said_within-all : (bytes : List ℕ) → said_within (Some []) bytes ++ last_said (kept_after (Some []) bytes) ≡ said_of bytes
said_within-all bytes = all_from [] bytes

-- what is said where something was kept
pub last_line : (kept : Option (List ℕ)) → (kept ≡ Some [] → ⊥) → said_line (kept_more kept []) ∷ [] ≡ last_said kept
last_line None some = refl
last_line (Some []) some = absurd (some refl)
last_line (Some (b ∷ bs)) some = refl
