-- How a script ends.
use Rattle.std.proofs.Common.{◌≡◌, ◌↔◌, ℕ, Bool, true, false, IsTrue, List, [], ◌∷◌, ◌++◌, Option, Some, sym, ap, ◌∙◌, subst, append-nil}
use Rattle.script_session.proofs.Names.{Appends, Consumes, IsAtEnd, State, Call, Reply, Event, heard, said, Line, Tally, at_start, said_of, said_within, kept_after, kept_more, last_said, progress_of, ended_at, SaysScript, Answers, Finishes}
use Rattle.pid_script.specs.Script.{said_line}
use Rattle.pid_script.proofs.Said.{said_within-all, last_line}
use Rattle.pid_script.proofs.Within.{said_within-append, kept_after-append}

module _ {may : Call → Bool} {state : State} {stamp : ℕ} {from to before after : Option (List ℕ)} where
  -- all lines were answered, and nothing waits
  pub finishes : {AreMade : List (Call × Reply) → Type 0} {state' : State} {stamp' : ℕ} (tally : Tally) {held : List ℕ} {lines : List Line} (events : List Event)
      → Answers may (at_start state stamp) (progress_of state' stamp' tally held) (λ sent. said events ≡ sent) AreMade lines → held ≡ [] → lines ≡ said_of (heard events)
      → Consumes from to (heard events) → Appends before after (said events) → IsAtEnd to
      → (text : List ℕ) × (calls : List (Call × Reply)) × AreMade calls × Finishes may (at_start state stamp) (ended_at state' stamp' tally text calls) from to before after
  finishes {state' = state'} {stamp' = stamp'} tally events answers empty are consumed appended at_end = (
    answers.sent,
    answers.calls,
    answers.made,
    record {
      read = heard events;
      script = answers.script;
      consumed = consumed;
      at_end = at_end;
      says = subst (SaysScript may answers.script) are answers.says;
      reached =
          (λ i. ended_at state' stamp' tally ((sym (append-nil answers.sent) ∙ ap (λ held. answers.sent ++ held) (sym empty)) i) (sym (append-nil answers.calls) i))
          ∙ answers.reached;
      written = subst (Appends before after) answers.appended appended;
    },
  )

-- the lines of one more piece
pub more_said : (read piece : List ℕ) (part : Option (List ℕ)) → part ≡ kept_after (Some []) read
    → said_within (Some []) read ++ said_within part piece ≡ said_within (Some []) (read ++ piece)
more_said read piece part is = ap (λ kept. said_within (Some []) read ++ said_within kept piece) is ∙ sym (said_within-append (Some []) read piece)

-- and what is kept behind it
pub more_kept : (read piece : List ℕ) (part after : Option (List ℕ)) → part ≡ kept_after (Some []) read → after ≡ kept_after part piece
    → after ≡ kept_after (Some []) (read ++ piece)
more_kept read piece part after is next = next ∙ ap (λ kept. kept_after kept piece) is ∙ sym (kept_after-append (Some []) read piece)

-- the last line
pub last_of : (read : List ℕ) (part : Option (List ℕ)) → part ≡ kept_after (Some []) read → said_within (Some []) read ++ last_said part ≡ said_of read
last_of read part is = ap (λ kept. said_within (Some []) read ++ last_said kept) is ∙ said_within-all read

-- the line of what is kept, where a test says that something is
pub last_kept : (line : Line) (kept : Option (List ℕ)) (empty : Bool) → line ≡ said_line (kept_more kept [])
    → IsTrue empty ↔ (kept ≡ Some []) → empty ≡ false → line ∷ [] ≡ last_said kept
last_kept line kept empty is tested some =
    ap (λ l. l ∷ []) is ∙ last_line kept (λ none. let z : false ≡ true = sym some ∙ tested.1 none in cc)
