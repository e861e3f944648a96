-- Lines that are made one after the other.
use Rattle.std.proofs.Common.{◌≡◌, ℕ, List, [], ◌∷◌, ◌++◌, Some, None, length, take, zero, suc, refl, sym, ap, ◌∙◌, subst, arith, append_assoc, append-nil}
use Rattle.pid_script.specs.Reading.{cut, parsed}
use Rattle.pid_script.specs.Script.{with_newline}
use Rattle.replica.specs.Reading.{lines_in}
use Rattle.replica.proofs.Parted.{cut_lines, no_cut}
use Rattle.stamped_table.specs.Stamped.{Stamped}
use Rattle.std.proofs.lemmas.List.{take_all}
use Rattle.replica.specs.Entries.{LogEntry, Settings, Opened, Ended, Calls, Wanted, Announced}
use Rattle.replica.specs.declared.outcome.Outcome.{Outcome}
use Rattle.replica.specs.declared.outcome.Outcome.TheVariants as outcome
use Rattle.replica.specs.Replicas.{MakesFront, Replica, after_line, after_lines, answer_to, answers_to, called, dialogue, entered, lines_at, outcome_at}

-- none of the lines was made
pub front_none : (lines : List (List ℕ)) (t t' : Stamped) → t' ≡ t → MakesFront lines t t'
front_none lines t t' same = (0, same)

-- the first line was made, and some of those behind it
pub front_more : (line : List ℕ) (lines : List (List ℕ)) (t t' : Stamped) → MakesFront lines (after_line t (parsed line)) t' → MakesFront (line ∷ lines) t t'
front_more line lines t t' front = (suc front.0, front.1)

-- all lines were made, or an entry has none
pub front_all : (lines : List (List ℕ)) (t t' : Stamped) → t' ≡ after_lines t lines → MakesFront lines t t'
front_all lines t t' all = (length lines, all ∙ ap (after_lines t) (sym (take_all (length lines) lines (omega arith))))

take_nil : (n : ℕ) → let none : List (List ℕ) = [] in take n none ≡ none
take_nil zero = refl
take_nil (suc n) = refl

-- some of the first line, which is none of it or all, are some of all lines
pub front_first : (line : List ℕ) (lines : List (List ℕ)) (t t' : Stamped) → MakesFront (line ∷ []) t t' → MakesFront (line ∷ lines) t t'
front_first line lines t t' (zero, same) = (0, same)
front_first line lines t t' (suc n, made) = (1, made ∙ ap (after_lines (after_line t (parsed line))) (take_nil n))

-- whatever becomes of an entry, its lines were all made, or none was
called_front : (old : Replica) (session sequence : ℕ) (lines : List (List ℕ)) (what : Outcome) (t' : Stamped) → t' ≡ (called old session sequence lines what).table → MakesFront lines old.table t'
called_front old session sequence lines outcome.Made t' is = front_all lines old.table t' is
called_front old session sequence lines outcome.Repeated t' is = (0, is)
called_front old session sequence lines outcome.Gone t' is = (0, is)
called_front old session sequence lines outcome.Gap t' is = (0, is)
called_front old session sequence lines outcome.Noted t' is = (0, is)

pub entered_front : (position : ℕ) (old : Replica) (e : LogEntry) (t' : Stamped) → t' ≡ (entered old position e).table → MakesFront (lines_at e) old.table t'
entered_front position old (Calls session sequence place digest lines) t' is = called_front old session sequence lines (outcome_at old (Calls session sequence place digest lines)) t' is
entered_front position old (Settings form pid_max model) t' is = (0, is)
entered_front position old Opened t' is = (0, is)
entered_front position old (Ended session) t' is = (0, is)
entered_front position old Wanted t' is = (0, is)
entered_front position old (Announced place digest size sum key) t' is = (0, is)

-- some of a line that has others behind it
pub front_cut : (now t : Stamped) (bs line after : List ℕ) → Some (line, after) ≡ cut 10 bs → MakesFront (line ∷ []) now t → MakesFront (lines_in bs) now t
front_cut now t bs line after cuts front = subst (λ ls. MakesFront ls now t) (sym (cut_lines bs line after cuts)) (front_first line (lines_in after) now t front)

-- a line with others behind it
module _ (now next : Stamped) (bs line after : List ℕ) (step : next ≡ after_line now (parsed line)) (cuts : Some (line, after) ≡ cut 10 bs) where
  whole : line ∷ lines_in after ≡ lines_in bs
  whole = sym (cut_lines bs line after cuts)

  pub after_more : after_lines next (lines_in after) ≡ after_lines now (lines_in bs)
  after_more = ap (λ t. after_lines t (lines_in after)) step ∙ ap (after_lines now) whole

  pub front_step : (t : Stamped) → MakesFront (lines_in after) next t → MakesFront (lines_in bs) now t
  front_step t front =
      subst (λ ls. MakesFront ls now t) whole (front_more line (lines_in after) now t (subst (λ s. MakesFront (lines_in after) s t) step front))

  pub answers_more : (told told' : List ℕ) → told' ≡ told ++ with_newline (answer_to now (parsed line))
      → told' ++ answers_to next (lines_in after) ≡ told ++ answers_to now (lines_in bs)
  answers_more told told' is =
      let answer = with_newline (answer_to now (parsed line)) in
      ap (λ a. a ++ answers_to next (lines_in after)) is ∙ append_assoc told answer (answers_to next (lines_in after))
      ∙ ap (λ t. told ++ (answer ++ answers_to t (lines_in after))) step ∙ ap (λ ls. told ++ answers_to now ls) whole

  pub dialogue_more : (k : List ℕ)
      → ((k ++ with_newline line) ++ with_newline (answer_to now (parsed line))) ++ dialogue next (lines_in after) ≡ k ++ dialogue now (lines_in bs)
  dialogue_more k =
      let asked = with_newline line in
      let answer = with_newline (answer_to now (parsed line)) in
      ap (λ l. l ++ dialogue next (lines_in after)) (append_assoc k asked answer) ∙ append_assoc k (asked ++ answer) (dialogue next (lines_in after))
      ∙ ap (λ t. k ++ ((asked ++ answer) ++ dialogue t (lines_in after))) step ∙ ap (λ ls. k ++ dialogue now ls) whole

-- the last line
module _ (now next : Stamped) (bs : List ℕ) (none : None ≡ cut 10 bs) where
  alone : bs ∷ [] ≡ lines_in bs
  alone = sym (no_cut bs none)

  pub after_last : next ≡ after_line now (parsed bs) → next ≡ after_lines now (lines_in bs)
  after_last step = step ∙ ap (after_lines now) alone

  pub front_last : MakesFront (bs ∷ []) now next → MakesFront (lines_in bs) now next
  front_last front = subst (λ ls. MakesFront ls now next) alone front

  pub answers_last : (told told' : List ℕ) → told' ≡ told ++ with_newline (answer_to now (parsed bs)) → told' ≡ told ++ answers_to now (lines_in bs)
  answers_last told told' is =
      is ∙ ap (λ l. told ++ l) (sym (append-nil (with_newline (answer_to now (parsed bs))))) ∙ ap (λ ls. told ++ answers_to now ls) alone

  pub dialogue_last : (k : List ℕ) → (k ++ with_newline bs) ++ with_newline (answer_to now (parsed bs)) ≡ k ++ dialogue now (lines_in bs)
  dialogue_last k =
      let asked = with_newline bs in
      let answer = with_newline (answer_to now (parsed bs)) in
      append_assoc k asked answer ∙ ap (λ l. k ++ l) (sym (append-nil (asked ++ answer))) ∙ ap (λ ls. k ++ dialogue now ls) alone
