-- What is read of the front of a text, as it is written.
use Rattle.std.proofs.Common.{◌≡◌, ℕ, true, List, [], ◌∷◌, ◌++◌, Option, Some, refl, sym, ap, ◌∙◌, subst, append_assoc}
use Rattle.std.proofs.lemmas.Option.{same_Some, option_and_then_some}
use Rattle.std.proofs.lemmas.Slice.Eq.{bytes_eq-Decides}
use Rattle.pid_script.specs.Reading.{cut, is_word, before}
use Rattle.pid_script.proofs.Cuts.{Lacks, cut-append, cut-Some}
use Rattle.pid_script.proofs.Words.{Reads}
use Rattle.replica.specs.Reading.{passed}
use Rattle.replica.specs.HeadReading.{Front, ended, labelled, followed_by}
use Rattle.replica.proofs.Told.{passes, word_short}

-- what is written so is read as that, with whatever stands behind it; and nothing else is read
pub record Fronts {A : Type 0} (front : Front A) (write : A → List ℕ) (Fits : A → Type 0) : Type 0 where
  pub told : (x : A) (rest : List ℕ) → Fits x → front (write x ++ rest) ≡ Some (x, rest)
  pub says : (text : List ℕ) (p : A × List ℕ) → front text ≡ Some p → (text ≡ write p.0 ++ p.1) × Fits p.0

-- a word that a byte ends
pub ended_front : {A : Type 0} {read : List ℕ → Option A} {write : A → List ℕ} {Fits : A → Type 0} {most : ℕ} (byte : ℕ)
    → Reads read write Fits most → ((x : A) → Fits x → Lacks byte (write x)) → Fronts (ended byte read) (λ x. write x ++ byte ∷ []) Fits
ended_front {A} {read} {write} {Fits} byte reads lacks = record {
  told = λ x rest fits.
      rw (append_assoc (write x) (byte ∷ []) rest, cut-append byte (write x) rest (lacks x fits), (reads.told x fits).0) refl;
  says = λ text p is.
      option_and_then_some _ (cut byte text) p is (λ c cuts more.
      option_and_then_some _ (read c.0) p more (λ y here same.
      let a = reads.says c.0 y here in
      subst (λ q. (text ≡ (write q.0 ++ byte ∷ []) ++ q.1) × Fits q.0) (same_Some (y, c.1) p same)
      (cut-Some byte text c cuts ∙ ap (λ v. v ++ byte ∷ c.1) a.0 ∙ sym (append_assoc (write y) (byte ∷ []) c.1), a.1)));
}

-- a word and a space, and what is read behind them
same_word : (word : List ℕ) → is_word word word ≡ true
same_word word = (bytes_eq-Decides word word).1 refl

word_front : (word : List ℕ) → Lacks 32 word → Fronts (before (passed (is_word word))) (λ w. w ++ 32 ∷ []) (λ w. is_word word w ≡ true)
word_front word lacks =
    ended_front 32 (passes (is_word word) _ (word_short word)) (λ w is. subst (Lacks 32) (sym ((bytes_eq-Decides w word).0 is)) lacks)

pub labelled_front : {A : Type 0} {front : Front A} {write : A → List ℕ} {Fits : A → Type 0} (word : List ℕ) → Lacks 32 word
    → Fronts front write Fits → Fronts (labelled word front) (λ x. word ++ 32 ∷ write x) Fits
labelled_front {A} {front} {write} {Fits} word lacks fronts =
    let first = word_front word lacks in record {
      told = λ x rest fits.
          let text : (word ++ 32 ∷ write x) ++ rest ≡ (word ++ 32 ∷ []) ++ (write x ++ rest) =
          append_assoc word (32 ∷ write x) rest ∙ sym (append_assoc word (32 ∷ []) (write x ++ rest)) in
          rw (text, first.told word (write x ++ rest) (same_word word)) (fronts.told x rest fits);
      says = λ text p is.
          option_and_then_some _ (before (passed (is_word word)) text) p is (λ w here more.
          let a = first.says text w here in
          let b = fronts.says w.1 p more in (
            a.0 ∙ ap (λ v. (v ++ 32 ∷ []) ++ w.1) ((bytes_eq-Decides w.0 word).0 a.1) ∙ append_assoc word (32 ∷ []) w.1
                ∙ ap (λ v. word ++ 32 ∷ v) b.0 ∙ sym (append_assoc word (32 ∷ write p.0) p.1),
            b.1,
          ));
    }

-- one, and another behind it
pub joined_front : {A B : Type 0} {first : Front A} {second : Front B} {write : A → List ℕ} {last : B → List ℕ} {Fits : A → Type 0} {Ends : B → Type 0}
    → Fronts first write Fits → Fronts second last Ends → Fronts (followed_by first second) (λ p. write p.0 ++ last p.1) (λ p. Fits p.0 × Ends p.1)
joined_front {A} {B} {first} {second} {write} {last} {Fits} {Ends} one two = record {
  told = λ p rest fits.
      rw (append_assoc (write p.0) (last p.1) rest, one.told p.0 (last p.1 ++ rest) fits.0, two.told p.1 rest fits.1) refl;
  says = λ text p is.
      option_and_then_some _ (first text) p is (λ a here more.
      option_and_then_some _ (second a.1) p more (λ b there same.
      let x = one.says text a here in
      let y = two.says a.1 b there in
      subst (λ q. (text ≡ (write q.0.0 ++ last q.0.1) ++ q.1) × (Fits q.0.0 × Ends q.0.1)) (same_Some ((a.0, b.0), b.1) p same)
      (x.0 ∙ ap (λ v. write a.0 ++ v) y.0 ∙ sym (append_assoc (write a.0) (last b.0) b.1), (x.1, y.1))));
}

-- the same bytes may be written otherwise
pub rewritten : {A : Type 0} {front : Front A} {write other : A → List ℕ} {Fits : A → Type 0} → ((x : A) → write x ≡ other x)
    → Fronts front write Fits → Fronts front other Fits
rewritten same fronts = record {
  told = λ x rest fits. rw (← same x) (fronts.told x rest fits);
  says = λ text p is. let a = fronts.says text p is in (a.0 ∙ ap (λ v. v ++ p.1) (same p.0), a.1);
}
