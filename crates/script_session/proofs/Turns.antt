-- What a script does with its devices, turn by turn.
use Rattle.std.proofs.Common.{◌≡◌, ℕ, ◌+◌, ◌<◌, ◌≤◌, Bool, false, true, List, [], ◌∷◌, ◌++◌, length, length-append, Option, Some, None, Err, refl, sym, ap, ◌∙◌, subst, append_assoc, append-nil, arith, if◌then◌else◌, ◌||◌, zero, suc, lt-ltb, inl, inr, ◌⊎◌, ◌↔◌}
use Rattle.std.specs.List.{list_any}
use Rattle.std.proofs.lemmas.List.Folds.{list_any-append}
use Rattle.std.proofs.lemmas.List.Concat.{flat_map-append}
use Rattle.script_session.proofs.Names.{Appends, Consumes, IsAtEnd, Event, Reading, Writing, heard_by, heard, said_by, said, readings, IsWell, AreWell, some_is_none, AreWell-more, readings-more, no_readings, Call, Reply, Line, Progress, SaysScript, said_of, said_whole, said_within, kept_after, said_next, Answers, StopsShort, Halts, Breaks, Sends, Stalls, is_end, lines_heard, IsAnswered, IsCutShort, Follows, EachAfter, Converses, Write}
use Rattle.pid_script.proofs.Said.{said_within-whole}
use Rattle.script_session.proofs.Progress.{Answers-more, StopsShort-more}
pub use Rattle.script_session.proofs.Ends.{finishes, more_kept, more_said, last_of}

-- each event of some, and then each of others
pub Each-more : (P : List Event → Event → Type 0) (before xs ys : List Event) → EachAfter P before xs → EachAfter P (before ++ xs) ys → EachAfter P before (xs ++ ys)
Each-more P before [] ys front back = subst (λ b. EachAfter P b ys) (append-nil before) back
Each-more P before (x ∷ xs) ys front back =
    (front.0, Each-more P (before ++ x ∷ []) xs ys front.1 (subst (λ b. EachAfter P b ys) (sym (append_assoc before (x ∷ []) xs)) back))

or_false : (b : Bool) → (b || false) ≡ b
or_false true = refl
or_false false = refl

-- events among which there is no read hear nothing, and find no end
hears_nothing : (es : List Event) → readings es ≡ [] → (heard es ≡ []) × (list_any is_end es ≡ false)
hears_nothing [] none = (refl, refl)
hears_nothing (Reading asked given ∷ es) none = absurd (some_is_none _ _ none)
hears_nothing (Writing offered taken ∷ es) none = hears_nothing es none

-- writes that took some may follow where no device has failed
pub writes_follow : (may : Call → Bool) (start : Progress) (before es : List Event) → AreWell before → AreWell es → readings es ≡ [] → EachAfter (Follows may start) before es
writes_follow may start before [] well all none = tt
writes_follow may start before (Reading asked given ∷ es) well all none = absurd (some_is_none _ _ none)
writes_follow may start before (Writing offered taken ∷ es) well all none =
    (well, writes_follow may start (before ++ Writing offered taken ∷ []) es (AreWell-more before (Writing offered taken ∷ []) well (all.0, tt)) all.1 none)

-- events of which none is a fault, and in which each read came once all before it was answered; and whether they found the end
pub record GoesOn (may : Call → Bool) (start p : Progress) (AreMade : List (Call × Reply) → Type 0) (lines : List Line) (events : List Event) (ended : Bool) : Type 0 where
  pub each : EachAfter (Follows may start) [] events
  pub well : AreWell events
  pub ends : list_any is_end events ≡ ended
  pub answered : Answers may start p (λ sent. said events ≡ sent) AreMade lines

-- the lines that a turn comes to: those that its piece ends, and at the end of the source what is left
abbrev pub lines_of_turn : List ℕ → ℕ → List ℕ → List Line
lines_of_turn read asked piece = if is_end (Reading asked (Some piece)) then said_of (read ++ piece) else said_whole (read ++ piece)

pub lines_next : (read piece : List ℕ) (part : Option (List ℕ)) (asked : ℕ) → part ≡ kept_after (Some []) read → 0 < asked
    → said_within (Some []) read ++ said_next part piece ≡ lines_of_turn read asked piece
lines_next read [] part asked is some = rw (lt-ltb 0 asked some) (last_of read part is ∙ ap said_of (sym (append-nil read)))
lines_next read (b ∷ bs) part asked is some = more_said read (b ∷ bs) part is ∙ said_within-whole (read ++ b ∷ bs)

pub next_within : (part : Option (List ℕ)) (piece : List ℕ) → 0 < length piece → said_next part piece ≡ said_within part piece
next_within part [] some = absurd (omega arith)
next_within part (b ∷ bs) some = refl

-- lines whose answers were all written are answered, where they are those that were read
pub all_answered : {may : Call → Bool} {AreMade : List (Call × Reply) → Type 0} (start p : Progress) (events : List Event) (lines : List Line) → Answers may start p (λ sent. said events ≡ sent) AreMade lines → p.text ≡ [] → lines ≡ lines_heard events
    → IsAnswered may start events
all_answered {may} start p events lines answers empty are = record {
  script = answers.script;
  says = subst (SaysScript may answers.script) are answers.says;
  text = answers.appended ∙ sym (append-nil answers.sent) ∙ ap (λ text. answers.sent ++ text) (sym empty) ∙ ap (λ q. q.text) answers.reached;
}

by_end : (P : List Line → Type 0) (to : Option (List ℕ)) (read : List ℕ) (ended : Bool) → (ended ≡ true → IsAtEnd to) → P (if ended then said_of read else said_whole read)
    → P (said_whole read) ⊎ (IsAtEnd to × P (said_of read))
by_end P to read true at_end are = inr (at_end refl, are)
by_end P to read false at_end are = inl are

-- what a source and a sink tell of events whose answers were all written
pub halts : {may : Call → Bool} {from to before after : Option (List ℕ)} (start : Progress) (least : ℕ) (events : List Event) → IsAnswered may start events → list_any is_end events ≡ false
    → least ≤ length (heard events) → Consumes from to (heard events) → Appends before after (said events) → Halts may least start from to before after
halts {may = may} {before = before} {after = after} start least events answered endless long consumed appended = record {
  read = heard events;
  script = answered.script;
  consumed = consumed;
  long = long;
  says = subst (SaysScript may answered.script) (ap (λ ended. if ended then said_of (heard events) else said_whole (heard events)) endless) answered.says;
  written = subst (Appends before after) answered.text appended;
}

-- a write that took none says nothing
pub stopped_says : (offered : List ℕ) (taken : Option ℕ) → ¬ IsWell (Writing offered taken) → said_by (Writing offered taken) ≡ []
stopped_says offered None stopped = refl
stopped_says offered (Some zero) stopped = refl
stopped_says offered (Some (suc n)) stopped = absurd (stopped (omega arith))

-- a read after events, and what follows it
abbrev pub turn : List Event → ℕ → Option (List ℕ) → List Event → List Event
turn events asked given es = events ++ Reading asked given ∷ es

pub turn_heard : (events : List Event) (asked : ℕ) (given : Option (List ℕ)) (es : List Event) → readings es ≡ []
    → heard (turn events asked given es) ≡ heard events ++ heard_by (Reading asked given)
turn_heard events asked given es none =
    flat_map-append heard_by events (Reading asked given ∷ es) ∙ ap (λ rest. heard events ++ (heard_by (Reading asked given) ++ rest)) (hears_nothing es none).0
    ∙ ap (λ rest. heard events ++ rest) (append-nil (heard_by (Reading asked given)))

pub turn_said : (events : List Event) (asked : ℕ) (given : Option (List ℕ)) (es : List Event) → said (turn events asked given es) ≡ said events ++ said es
turn_said events asked given es = flat_map-append said_by events (Reading asked given ∷ es)

pub turn_end : (events : List Event) (asked : ℕ) (given : Option (List ℕ)) (es : List Event) → readings es ≡ [] → list_any is_end events ≡ false
    → list_any is_end (turn events asked given es) ≡ is_end (Reading asked given)
turn_end events asked given es none endless =
    list_any-append is_end events (Reading asked given ∷ es)
    ∙ (λ i. endless i || (is_end (Reading asked given) || (hears_nothing es none).1 i))
    ∙ or_false (is_end (Reading asked given))

pub turn_reads : (events : List Event) (asked : ℕ) (given : Option (List ℕ)) (es : List Event) → readings es ≡ []
    → length (readings (turn events asked given es)) ≡ length (readings events) + 1
turn_reads events asked given es none =
    ap length (sym (readings-more events (Reading asked given ∷ es))) ∙ ap (λ rest. length (readings events ++ Reading asked given ∷ rest)) none
    ∙ length-append (readings events) (Reading asked given ∷ [])

-- a read that gave bytes did not find the end
pub goes_on : (asked : ℕ) (piece : List ℕ) → 0 < length piece → is_end (Reading asked (Some piece)) ≡ false
goes_on asked [] some = absurd (omega (arith, some))
goes_on asked (b ∷ bs) some = refl

pub gave_none : (asked : ℕ) (piece : List ℕ) → is_end (Reading asked (Some piece)) ≡ true → length piece ≡ 0
gave_none asked [] ends = refl
gave_none asked (b ∷ bs) ends = cc

-- a read, and then what was written, are done after what was done before
pub turn_done : {S : Type 0} {did wrote : S → S → List Event → Type 0} → ((a b c : S) (xs ys : List Event) → did a b xs → did b c ys → did a c (xs ++ ys))
    → ((a b : S) (xs : List Event) → did a b xs ↔ wrote a b xs) → {a b c d : S} (events : List Event) (asked : ℕ) (given : Option (List ℕ)) (es : List Event)
    → did a b events → did b c (Reading asked given ∷ []) → wrote c d es → did a d (turn events asked given es)
turn_done more one {a} {b} {c} {d} events asked given es before event written =
    more a b d events (Reading asked given ∷ es) before (more b c d (Reading asked given ∷ []) es event ((one c d es).1 written))

-- where a write took none
abbrev pub stalled : {may : Call → Bool} {p : Progress} {did : List Event → Type 0} {lines : List Line} → StopsShort may p (Stalls did) lines → List Event
stalled stops = stops.appended.events ++ Writing stops.appended.offered stops.appended.taken ∷ []

-- where a script goes on and nothing waits
module _ {may : Call → Bool} {start p : Progress} {AreMade : List (Call × Reply) → Type 0} {events : List Event} (on : GoesOn may start p AreMade (said_within (Some []) (heard events)) events false)
    (empty : p.text ≡ []) where
  -- all that was read is answered
  pub is_answered : IsAnswered may start events
  is_answered =
      all_answered start p events (said_within (Some []) (heard events)) on.answered empty
      (said_within-whole (heard events) ∙ ap (λ ended. if ended then said_of (heard events) else said_whole (heard events)) (sym on.ends))

module _ {may : Call → Bool} {start p : Progress} {AreMade : List (Call × Reply) → Type 0} {events : List Event} (on : GoesOn may start p AreMade (said_within (Some []) (heard events)) events false)
    (empty : p.text ≡ []) {asked : ℕ} (size : asked ≡ 4096) where
  -- a read may follow, and then what follows it
  pub read_follows : (given : Option (List ℕ)) (es : List Event) → EachAfter (Follows may start) (events ++ Reading asked given ∷ []) es → EachAfter (Follows may start) [] (turn events asked given es)
  read_follows given es rest = Each-more (Follows may start) [] events (Reading asked given ∷ es) on.each ((on.well, on.ends, omega (arith, size), is_answered on empty), rest)

  module _ (piece : List ℕ) where
    read_well : AreWell (events ++ Reading asked (Some piece) ∷ [])
    read_well = AreWell-more events (Reading asked (Some piece) ∷ []) on.well (tt, tt)

    pub turn_lines : (es : List Event) → readings es ≡ [] → lines_heard (turn events asked (Some piece) es) ≡ lines_of_turn (heard events) asked piece
    turn_lines es none =
        let all = turn events asked (Some piece) es in
        ap (λ ended. if ended then said_of (heard all) else said_whole (heard all)) (turn_end events asked (Some piece) es none on.ends)
        ∙ ap (λ bytes. if is_end (Reading asked (Some piece)) then said_of bytes else said_whole bytes) (turn_heard events asked (Some piece) es none)

  module _ (piece : List ℕ) {did : List Event → Type 0} where
    -- where the lines of what it gave are answered
    pub turned : {IsNext IsAll : List (Call × Reply) → Type 0} → ((xs ys : List (Call × Reply)) → AreMade xs → IsNext ys → IsAll (xs ++ ys)) → (q : Progress) (lines : List Line) → (more : Answers may p q (Sends did) IsNext lines)
        → GoesOn may start q IsAll (said_within (Some []) (heard events) ++ lines) (turn events asked (Some piece) more.appended.events) (is_end (Reading asked (Some piece)))
    turned {IsAll = IsAll} after q lines more =
        let sends = more.appended in
        record {
          each = read_follows (Some piece) sends.events (writes_follow may start (events ++ Reading asked (Some piece) ∷ []) sends.events (read_well piece) sends.well sends.writes);
          well = AreWell-more events (Reading asked (Some piece) ∷ sends.events) on.well (tt, sends.well);
          ends = turn_end events asked (Some piece) sends.events sends.writes on.ends;
          answered = Answers-more {a = λ sent. said events ≡ sent} {b = λ sent. said sends.events ≡ sent} {c = λ sent. said (turn events asked (Some piece) sends.events) ≡ sent} {m = IsAll}
              (λ xs ys front back. turn_said events asked (Some piece) sends.events ∙ (λ i. front i ++ back i)) after
              start p q (said_within (Some []) (heard events)) lines on.answered
              (record { sent = more.sent; calls = more.calls; script = more.script; says = more.says; appended = sends.sent; made = more.made; reached = more.reached });
        }

    module _ (lines : List Line) (stops : StopsShort may p (Stalls did) lines) (are : said_within (Some []) (heard events) ++ lines ≡ lines_of_turn (heard events) asked piece) where
      stalled_writes : readings (stalled stops) ≡ []
      stalled_writes = no_readings stops.appended.events (Writing stops.appended.offered stops.appended.taken ∷ []) stops.appended.writes refl

      -- where a write took none, not all of the answers were written
      stalled_short : IsCutShort may start (turn events asked (Some piece) (stalled stops))
      stalled_short =
          let stalls = stops.appended in
          let last = Writing stalls.offered stalls.taken ∷ [] in
          let silent : said last ≡ [] = append-nil (said_by (Writing stalls.offered stalls.taken)) ∙ stopped_says stalls.offered stalls.taken stalls.stopped in
          let is_said : said (stalled stops) ≡ said stalls.events =
          flat_map-append said_by stalls.events last ∙ ap (λ rest. said stalls.events ++ rest) silent ∙ append-nil (said stalls.events) in
          let short = StopsShort-more {a = λ sent. said events ≡ sent} {b = λ sent. said (stalled stops) ≡ sent} {c = λ sent. said (turn events asked (Some piece) (stalled stops)) ≡ sent}
          (λ xs ys front back. turn_said events asked (Some piece) (stalled stops) ∙ (λ i. front i ++ back i))
          start p (said_within (Some []) (heard events)) lines on.answered
          (record { sent = stops.sent; left = stops.left; script = stops.script; says = stops.says; appended = is_said ∙ stalls.sent; short = stops.short; some_left = stops.some_left }) in
          record {
            script = short.script;
            left = short.left;
            says = subst (SaysScript may short.script) (are ∙ sym (turn_lines piece (stalled stops) stalled_writes)) short.says;
            text = short.short ∙ ap (λ sent. sent ++ short.left) (sym short.appended);
            some_left = short.some_left;
          }

      pub stalled_breaks : {from to before after : Option (List ℕ)} → (is_end (Reading asked (Some piece)) ≡ true → readings (stalled stops) ≡ [] → IsAtEnd to)
          → Consumes from to (heard (turn events asked (Some piece) (stalled stops))) → Appends before after (said (turn events asked (Some piece) (stalled stops)))
          → Breaks may start from to before after
      stalled_breaks {to = to} at_end consumed appended =
          let all = turn events asked (Some piece) (stalled stops) in
          let ends = turn_end events asked (Some piece) (stalled stops) stalled_writes on.ends in
          record {
            read = heard all;
            script = stalled_short.script;
            sent = said all;
            left = stalled_short.left;
            consumed = consumed;
            says = by_end (SaysScript may stalled_short.script) to (heard all) (list_any is_end all) (λ ended. at_end (sym ends ∙ ended) stalled_writes) stalled_short.says;
            text = stalled_short.text;
            some_left = stalled_short.some_left;
            written = appended;
          }

      pub stalled_talk : {T : Type 0} {all : List Event → Type 0} (turns : ℕ) → length (readings events) + 1 ≤ turns → all (turn events asked (Some piece) (stalled stops))
          → Converses {T = T} may turns start all (Err Write)
      stalled_talk turns within done =
          let stalls = stops.appended in
          let last = Writing stalls.offered stalls.taken ∷ [] in
          let before = events ++ Reading asked (Some piece) ∷ [] in
          record {
            events = turn events asked (Some piece) (stalled stops);
            done = done;
            each = read_follows (Some piece) (stalled stops)
                (Each-more (Follows may start) before stalls.events last (writes_follow may start before stalls.events (read_well piece) stalls.well stalls.writes)
                (AreWell-more before stalls.events (read_well piece) stalls.well, tt));
            few = omega (arith, turn_reads events asked (Some piece) (stalled stops) stalled_writes, within);
            ended = (
              turn events asked (Some piece) stalls.events,
              stalls.offered,
              stalls.taken,
              sym (append_assoc events (Reading asked (Some piece) ∷ stalls.events) last),
              stalls.stopped,
              stalled_short,
            );
          }
