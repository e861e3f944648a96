-- How far a script has come.
use Rattle.std.proofs.Common.{◌≡◌, ℕ, ◌+◌, ◌-◌, ◌^◌, Bool, true, false, cond, eqb, List, [], ◌∷◌, ◌++◌, length-append, map, Option, Result, Ok, Err, OnOk, OnErr, IfErr, is_ok, refl, sym, ap, ◌∙◌, append_assoc, append-nil, codes, arith, fold, eq-eqb}
use Rattle.std.proofs.lemmas.Bool.{ne_eqb}
use Rattle.std.proofs.lemmas.List.Sums.{fold-append}
use Rattle.std.proofs.lemmas.List.{map-append}
use Rattle.script_session.proofs.Names.{Call, CallFault, Reply, State, Line, Tally, reply_text, fault_text, answer_of, replied, Progress, HasStopped, with_newline, with_answer, with_step, found_none, MayAllStarve, SaysScript, after_asking, after_saying, after_script_line, after_script, Acts, is_starved, made_by, Leads, ended_at, progress_of, Answers, StopsShort, Event, RunScriptFault, Write, Sends, Queues, SendsPart, Responds}
use Rattle.pid_types.specs.declared.reply.CallFault.TheVariants.{NoMemory, Spent}
use Rattle.pid_script.specs.declared.line.Line.TheVariants as says
use Rattle.script_session.proofs.Sent.{Joins, Sends-more, Stalls-more}

-- two ways are as far if each of their parts is
same_progress : (s s' : State) (n n' : ℕ) (t t' : List ℕ) (c c' : List (Call × Reply)) (l l' r r' b b' f f' : ℕ) → s ≡ s' → n ≡ n' → t ≡ t' → c ≡ c' → l ≡ l' → r ≡ r' → b ≡ b' → f ≡ f'
    → ◌≡◌ {A = Progress} (record { state = s; stamp = n; text = t; calls = c; lines = l; recorded = r; bad = b; starved = f }) (record { state = s'; stamp = n'; text = t'; calls = c'; lines = l'; recorded = r'; bad = b'; starved = f' })
same_progress s s' n n' t t' c c' l l' r r' b b' f f' es en et ec el er eb ef =
    λ i. record { state = es i; stamp = en i; text = et i; calls = ec i; lines = el i; recorded = er i; bad = eb i; starved = ef i }

-- what a call of a table makes of a script
pub call_leads : (may : Call → Bool) (state : State) (stamp : ℕ) (tally : Tally) (call : Call) (made : Result Unit CallFault) (held : Option Reply) (state' : State) (stamp' : ℕ) (tally' : Tally)
    → Acts may state stamp call (replied made held) state' stamp' → tally'.lines ≡ tally.lines + 1 → tally'.recorded ≡ cond (is_ok made) (tally.recorded + 1) tally.recorded → tally'.bad ≡ tally.bad
    → tally'.starved ≡ cond (is_starved made) (tally.starved + 1) tally.starved → Leads may state stamp tally (says.Call call) (with_newline (answer_of (replied made held))) (made_by call (replied made held)) state' stamp' tally'
unfolding after_asking
call_leads may state stamp tally call (Ok done) reply state' stamp' tally' acts lines recorded bad starved = (
  false,
  tt,
  λ held. (rw (ne_eqb stamp (2 ^ 64 - 1) acts.0)
      (same_progress _ _ _ _ _ _ _ _ _ _ _ _ _ _ _ _ (sym acts.2) (sym acts.3) (ap (λ reply. held ++ with_newline (reply_text reply)) (sym acts.1))
      (ap (λ reply. (call, reply) ∷ []) (sym acts.1)) (sym lines) (sym recorded) (sym bad) (sym starved))),
)
call_leads may state stamp tally call (Err NoMemory) reply state' stamp' tally' acts lines recorded bad starved = (
  true,
  acts.3,
  λ held. (rw (ne_eqb stamp (2 ^ 64 - 1) acts.0) (same_progress _ _ _ _ _ _ _ _ _ _ _ _ _ _ _ _ (sym acts.1) (sym acts.2) refl refl (sym lines) (sym recorded) (sym bad) (sym starved))),
)
call_leads may state stamp tally call (Err Spent) reply state' stamp' tally' acts lines recorded bad starved = (
  false,
  tt,
  λ held. (rw (eq-eqb stamp (2 ^ 64 - 1) acts.0)
      (same_progress _ _ _ _ _ _ _ _ _ _ _ _ _ _ _ _ (sym acts.1) (sym acts.2) refl refl (sym lines) (sym recorded) (sym bad) (sym starved))),
)

-- an empty line, and a bad one
pub empty_leads : (may : Call → Bool) (state : State) (stamp : ℕ) (tally tally' : Tally) → tally'.lines ≡ tally.lines + 1 → tally'.recorded ≡ tally.recorded → tally'.bad ≡ tally.bad
    → tally'.starved ≡ tally.starved → Leads may state stamp tally says.Empty [] [] state stamp tally'
empty_leads may state stamp tally tally' lines recorded bad starved = (
  false,
  tt,
  λ held. same_progress _ _ _ _ _ _ _ _ _ _ _ _ _ _ _ _ refl refl (sym (append-nil held)) refl (sym lines) (sym recorded) (sym bad) (sym starved),
)

pub bad_leads : (may : Call → Bool) (state : State) (stamp : ℕ) (tally tally' : Tally) → tally'.lines ≡ tally.lines + 1 → tally'.recorded ≡ tally.recorded → tally'.bad ≡ tally.bad + 1
    → tally'.starved ≡ tally.starved → Leads may state stamp tally says.Bad (with_newline (codes "bad line")) [] state stamp tally'
bad_leads may state stamp tally tally' lines recorded bad starved = (
  false,
  tt,
  λ held. same_progress _ _ _ _ _ _ _ _ _ _ _ _ _ _ _ _ refl refl refl refl (sym lines) (sym recorded) (sym bad) (sym starved),
)

-- how a line goes whose answer is sent or waits, or could not be sent
pub responds : {T : Type 0} {may : Call → Bool} {state state' : State} {stamp stamp' : ℕ} {tally tally' : Tally} {held held' : List ℕ} {line : Line} {did : List Event → Type 0} {AreMade : List (Call × Reply) → Type 0} {failed full : Bool}
    (r : Result T RunScriptFault) (text : List ℕ) (calls : List (Call × Reply)) → Leads may state stamp tally line text calls state' stamp' tally' → AreMade calls
    → OnOk r (Queues did (held ++ text) held') → OnErr r (SendsPart did (held ++ text)) → IfErr r (λ e. e ≡ Write) → OnErr r (HasStopped failed full)
    → Responds may r (progress_of state stamp tally held) (progress_of state' stamp' tally' held') did AreMade (line ∷ []) failed full
unfolding after_script
responds {held = held} {line = line} (Ok x) text calls leads made queues stops fault stopped = record {
  ok = record {
    sent = queues.0;
    calls = calls;
    script = (line, leads.0) ∷ [];
    says = record { lines = refl; starved = (leads.1, tt) };
    appended = queues.1;
    made = made;
    reached = same_progress _ _ _ _ _ _ _ _ _ _ _ _ _ _ _ _ refl refl (sym queues.2) (append-nil calls) refl refl refl refl ∙ sym (leads.2 held);
  };
  err = tt;
  fault = tt;
  stopped = tt;
}
responds {held = held} {line = line} (Err e) text calls leads made queues stops fault stopped = record {
  ok = tt;
  err = record {
    sent = stops.0;
    left = stops.1;
    script = (line, leads.0) ∷ [];
    says = record { lines = refl; starved = (leads.1, tt) };
    appended = stops.2;
    short = ap (λ p. p.text) (leads.2 held) ∙ stops.3;
    some_left = stops.4;
  };
  fault = fault;
  stopped = stopped;
}

-- the same, with these answers and these calls in front
abbrev fronted : List ℕ → List (Call × Reply) → Progress → Progress
fronted front calls p = record p { text = front ++ p.text; calls = calls ++ p.calls }

told-fronted : (front : List ℕ) (calls : List (Call × Reply)) (p : Progress) (answer : List ℕ) → with_answer (fronted front calls p) answer ≡ fronted front calls (with_answer p answer)
told-fronted front calls p answer =
    same_progress _ _ _ _ _ _ _ _ _ _ _ _ _ _ _ _ refl refl (append_assoc front p.text (with_newline answer)) refl refl refl refl refl

after_call-fronted : (front : List ℕ) (calls : List (Call × Reply)) (p : Progress) (starved : Bool) (call : Call)
    → after_asking (fronted front calls p) starved call ≡ fronted front calls (after_asking p starved call)
unfolding after_asking
after_call-fronted front calls p starved call = at (eqb p.stamp (2 ^ 64 - 1)) starved
  where
    at : (spent starved : Bool) → cond spent (with_answer (fronted front calls p) (fault_text Spent)) (cond starved (found_none (fronted front calls p)) (with_step (fronted front calls p) call))
        ≡ fronted front calls (cond spent (with_answer p (fault_text Spent)) (cond starved (found_none p) (with_step p call)))
    at true starved = told-fronted front calls p (fault_text Spent)
    at false true = let f : Progress → Progress = λ q. record q { starved = p.starved + 1 } in ap f (told-fronted front calls p (fault_text NoMemory))
    at false false = same_progress _ _ _ _ _ _ _ _ _ _ _ _ _ _ _ _ refl refl (append_assoc front p.text _) (append_assoc calls p.calls _) refl refl refl refl

after_line-fronted : (front : List ℕ) (calls : List (Call × Reply)) (p : Progress) (line : Line) (starved : Bool)
    → after_saying (fronted front calls p) starved line ≡ fronted front calls (after_saying p starved line)
after_line-fronted front calls p says.Empty starved = refl
after_line-fronted front calls p (says.Call call) starved = after_call-fronted front calls p starved call
after_line-fronted front calls p says.Bad starved =
    same_progress _ _ _ _ _ _ _ _ _ _ _ _ _ _ _ _ refl refl (append_assoc front p.text (with_newline (codes "bad line"))) refl refl refl refl refl

-- what stands in front stays in front
after_script-fronted : (front : List ℕ) (calls : List (Call × Reply)) (p : Progress) (script : List (Line × Bool)) → after_script (fronted front calls p) script ≡ fronted front calls (after_script p script)
unfolding after_script
after_script-fronted front calls p [] = refl
after_script-fronted front calls p (l ∷ ls) =
    ap (λ q. fold after_script_line q ls) (after_line-fronted front calls p l.0 l.1) ∙ after_script-fronted front calls (after_script_line p l) ls

after_script-append : (p : Progress) (xs ys : List (Line × Bool)) → after_script p (xs ++ ys) ≡ after_script (after_script p xs) ys
unfolding after_script
after_script-append p xs ys = fold-append after_script_line p xs ys

-- lines, and then others
MayAllStarve-more : (may : Call → Bool) (xs ys : List (Line × Bool)) → MayAllStarve may xs → MayAllStarve may ys → MayAllStarve may (xs ++ ys)
MayAllStarve-more may [] ys first second = second
MayAllStarve-more may (x ∷ xs) ys first second = (first.0, MayAllStarve-more may xs ys first.1 second)

Says-more : {may : Call → Bool} {script script' : List (Line × Bool)} {xs ys : List Line} → SaysScript may script xs → SaysScript may script' ys → SaysScript may (script ++ script') (xs ++ ys)
Says-more {may} {script} {script'} first second = record {
  lines = map-append (λ l. l.0) script script' ∙ (λ i. first.lines i ++ second.lines i);
  starved = MayAllStarve-more may script script' first.starved second.starved;
}

-- no line leads nowhere
pub Answers-nothing : {may : Call → Bool} (p : Progress) (IsSent : List ℕ → Type 0) (AreMade : List (Call × Reply) → Type 0) → IsSent [] → AreMade [] → Answers may p p IsSent AreMade []
unfolding after_script
Answers-nothing p IsSent AreMade nothing none = record { sent = []; calls = []; script = []; says = record { lines = refl; starved = tt }; appended = nothing; made = none; reached = refl }

-- some lines, and then others
pub Answers-more : {may : Call → Bool} {a b c : List ℕ → Type 0} {k l m : List (Call × Reply) → Type 0} → ((xs ys : List ℕ) → a xs → b ys → c (xs ++ ys)) → ((xs ys : List (Call × Reply)) → k xs → l ys → m (xs ++ ys))
    → (p q r : Progress) (xs ys : List Line) → Answers may p q a k xs → Answers may q r b l ys → Answers may p r c m (xs ++ ys)
Answers-more more after p q r xs ys first second = record {
  sent = first.sent ++ second.sent;
  calls = first.calls ++ second.calls;
  script = first.script ++ second.script;
  says = Says-more first.says second.says;
  appended = more first.sent second.sent first.appended second.appended;
  made = after first.calls second.calls first.made second.made;
  reached =
      same_progress _ _ _ _ _ _ _ _ _ _ _ _ _ _ _ _ refl refl (append_assoc first.sent second.sent r.text) (append_assoc first.calls second.calls r.calls) refl refl refl refl
      ∙ ap (fronted first.sent first.calls) second.reached
      ∙ sym (after_script-fronted first.sent first.calls q second.script)
      ∙ ap (λ s. after_script s second.script) first.reached
      ∙ sym (after_script-append p first.script second.script);
}

-- some lines, and then others whose answers could not all be sent
pub StopsShort-more : {may : Call → Bool} {a b c : List ℕ → Type 0} {k : List (Call × Reply) → Type 0} → ((xs ys : List ℕ) → a xs → b ys → c (xs ++ ys)) → (p q : Progress) (xs ys : List Line) → Answers may p q a k xs → StopsShort may q b ys → StopsShort may p c (xs ++ ys)
StopsShort-more more p q xs ys first second = record {
  sent = first.sent ++ second.sent;
  left = second.left;
  script = first.script ++ second.script;
  says = Says-more first.says second.says;
  appended = more first.sent second.sent first.appended second.appended;
  short =
      ap (λ s. s.text) (after_script-append p first.script second.script ∙ ap (λ s. after_script s second.script) (sym first.reached) ∙ after_script-fronted first.sent first.calls q second.script)
      ∙ ap (λ text. first.sent ++ text) second.short
      ∙ sym (append_assoc first.sent second.sent second.left);
  some_left = second.some_left;
}

-- the lines, none of which finds no memory
with_memory : List Line → List (Line × Bool)
with_memory lines = map (λ l. (l, false)) lines

said-with_memory : (may : Call → Bool) (lines : List Line) → SaysScript may (with_memory lines) lines
unfolding with_memory
said-with_memory may [] = record { lines = refl; starved = tt }
said-with_memory may (l ∷ ls) =
    let rest = said-with_memory may ls in
    record { lines = ap (λ lines. l ∷ lines) rest.lines; starved = (tt, rest.starved) }

-- lines only add to the answers
text-grows : (p : Progress) (script : List (Line × Bool)) → (more : List ℕ) × ((after_script p script).text ≡ p.text ++ more)
text-grows p script =
    let bare : Progress = record p { text = [] } in
    let same : p ≡ fronted p.text [] bare = same_progress _ _ _ _ _ _ _ _ _ _ _ _ _ _ _ _ refl refl (sym (append-nil p.text)) refl refl refl refl refl in
    ((after_script bare script).text, ap (λ q. (after_script q script).text) same ∙ ap (λ q. q.text) (after_script-fronted p.text [] bare script))

-- where sending stopped, it stopped before the answers to later lines
pub StopsShort-later : {may : Call → Bool} (p : Progress) (IsSent : List ℕ → Type 0) (xs ys : List Line) → StopsShort may p IsSent xs → StopsShort may p IsSent (xs ++ ys)
StopsShort-later {may} p IsSent xs ys stops =
    let more = text-grows (after_script p stops.script) (with_memory ys) in
    record {
      sent = stops.sent;
      left = stops.left ++ more.0;
      script = stops.script ++ with_memory ys;
      says = Says-more stops.says (said-with_memory may ys);
      appended = stops.appended;
      short = ap (λ q. q.text) (after_script-append p stops.script (with_memory ys)) ∙ more.1 ∙ ap (λ text. text ++ more.0) stops.short
          ∙ append_assoc stops.sent stops.left more.0;
      some_left = omega (arith, stops.some_left, length-append stops.left more.0);
    }

-- some lines, and then what waits is sent: all of it, or not
pub flushes : {T : Type 0} {may : Call → Bool} {p : Progress} {state : State} {stamp : ℕ} {tally : Tally} {held held' : List ℕ} {lines : List Line} {first second all : List Event → Type 0} {AreMade : List (Call × Reply) → Type 0} {failed full : Bool}
    (r : Result T RunScriptFault) → Joins first second all → Answers may p (progress_of state stamp tally held) (Sends first) AreMade lines
    → OnOk r (Sends second held) → OnOk r (held' ≡ []) → OnErr r (SendsPart second held) → IfErr r (λ e. e ≡ Write) → OnErr r (HasStopped failed full)
    → Responds may r p (progress_of state stamp tally held') all AreMade lines failed full
flushes {state = state} {stamp = stamp} {tally = tally} {held = held} (Ok x) joins answers sends empty stops fault stopped = record {
  ok = record {
    sent = answers.sent ++ held;
    calls = answers.calls;
    script = answers.script;
    says = answers.says;
    appended = Sends-more joins answers.sent held answers.appended sends;
    made = answers.made;
    reached = ap (λ text. ended_at state stamp tally text (answers.calls ++ [])) (ap (λ text. (answers.sent ++ held) ++ text) empty ∙ append-nil (answers.sent ++ held)) ∙ answers.reached;
  };
  err = tt;
  fault = tt;
  stopped = tt;
}
flushes (Err e) joins answers sends empty stops fault stopped = record {
  ok = tt;
  err = record {
    sent = answers.sent ++ stops.0;
    left = stops.1;
    script = answers.script;
    says = answers.says;
    appended = Stalls-more joins answers.sent stops.0 answers.appended stops.2;
    short = ap (λ q. q.text) (sym answers.reached) ∙ ap (λ text. answers.sent ++ text) stops.3 ∙ sym (append_assoc answers.sent stops.0 stops.1);
    some_left = stops.4;
  };
  fault = fault;
  stopped = stopped;
}
