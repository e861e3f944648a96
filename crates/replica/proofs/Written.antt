-- The text of an entry of calls, as it is written.
use Rattle.std.proofs.Common.{◌≡◌, ℕ, List, [], ◌∷◌, ◌++◌, length, Result, Ok, Err, OnOk, codes, decimal, sym, ap, ◌∙◌, append_assoc}
use Rattle.replica.specs.Entries.{Calls, entry_text, spaced}
use Rattle.replica.specs.Reading.{lines_in}
use Rattle.replica.proofs.Parted.{join-lines_in}

-- what follows from what is true of a result that is `Ok`
pub on_ok : {A E P Q : Type 0} (r : Result A E) → (P → Q) → OnOk r P → OnOk r Q
on_ok (Ok x) follows here = follows here
on_ok (Err e) follows here = here

pub calls_written : (new mid old lines d : List ℕ) (s n k q : ℕ) → new ≡ mid ++ 10 ∷ lines
    → mid ≡ old ++ spaced (codes "calls" ∷ decimal s ∷ decimal n ∷ decimal k ∷ decimal q ∷ d ∷ []) → k ≡ length (lines_in lines)
    → new ≡ old ++ entry_text (Calls s n q d (lines_in lines))
calls_written new mid old lines d s n k q behind head count =
    let text : ℕ → List ℕ → List ℕ = λ k body. old ++ (spaced (codes "calls" ∷ decimal s ∷ decimal n ∷ decimal k ∷ decimal q ∷ d ∷ []) ++ 10 ∷ body) in
    behind ∙ ap (λ m. m ++ 10 ∷ lines) head
    ∙ append_assoc old (spaced (codes "calls" ∷ decimal s ∷ decimal n ∷ decimal k ∷ decimal q ∷ d ∷ [])) (10 ∷ lines)
    ∙ ap (λ k. text k lines) count ∙ ap (text (length (lines_in lines))) (sym (join-lines_in lines))
