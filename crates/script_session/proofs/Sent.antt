-- Bytes that are sent one after another.
use Rattle.std.proofs.Common.{◌≡◌, ℕ, List, [], ◌∷◌, ◌++◌, Option, Some, refl, sym, ap, ◌∙◌, subst, append_assoc, append-nil, Result, Ok, Err, OnErr, length, length-append, ◌<◌, take, drop, take-append-drop, ◌-◌, ◌≤◌, arith}
use Rattle.std.proofs.lemmas.Slice.{between_to_end}
use Rattle.std.proofs.lemmas.List.Concat.{flat_map-append}
use Rattle.std.specs.Prelude.{Bool}
use Rattle.std.specs.Result.{IsErrAnd}
use Rattle.script_session.proofs.Names.{Event, Writing, RunScriptFault, said_by, IsWell, AreWell-more, no_readings, with_newline}
use Rattle.script_session.specs.Dialogue.{Sends, Stalls, Queues, SendsPart, Writes, Holds}

-- what is done one after another
abbrev pub Joins : (List Event → Type 0) → (List Event → Type 0) → (List Event → Type 0) → Type 0
Joins first second all = (xs ys : List Event) → first xs → second ys → all (xs ++ ys)

-- nothing is sent
pub Sends-nothing : (did : List Event → Type 0) → did [] → Sends did []
Sends-nothing did nothing = record { events = []; done = nothing; well = tt; writes = refl; sent = refl }

-- one write more
pub Sends-write : (did : List Event → Type 0) (offered : List ℕ) (n : ℕ) → did (Writing offered (Some n) ∷ []) → 0 < n → Sends did (take n offered)
Sends-write did offered n done some = record {
  events = Writing offered (Some n) ∷ [];
  done = done;
  well = (some, tt);
  writes = refl;
  sent = append-nil (take n offered);
}

-- what is sent, one after another
pub Sends-more : {first second all : List Event → Type 0} → Joins first second all → (xs ys : List ℕ) → Sends first xs → Sends second ys → Sends all (xs ++ ys)
Sends-more joins xs ys front back = record {
  events = front.events ++ back.events;
  done = joins front.events back.events front.done back.done;
  well = AreWell-more front.events back.events front.well back.well;
  writes = no_readings front.events back.events front.writes back.writes;
  sent = flat_map-append said_by front.events back.events ∙ (λ i. front.sent i ++ back.sent i);
}

-- a write that took none
pub Stalls-write : (did : List Event → Type 0) (offered : List ℕ) (taken : Option ℕ) → did (Writing offered taken ∷ []) → ¬ IsWell (Writing offered taken) → Stalls did []
Stalls-write did offered taken done stopped = record { events = []; offered = offered; taken = taken; done = done; well = tt; writes = refl; stopped = stopped; sent = refl }

-- what is sent, and then a write that took none
pub Stalls-more : {first second all : List Event → Type 0} → Joins first second all → (xs ys : List ℕ) → Sends first xs → Stalls second ys → Stalls all (xs ++ ys)
Stalls-more {all = all} joins xs ys front back =
    let last = Writing back.offered back.taken ∷ [] in
    record {
      events = front.events ++ back.events;
      offered = back.offered;
      taken = back.taken;
      done = subst all (sym (append_assoc front.events back.events last)) (joins front.events (back.events ++ last) front.done back.done);
      well = AreWell-more front.events back.events front.well back.well;
      writes = no_readings front.events back.events front.writes back.writes;
      stopped = back.stopped;
      sent = flat_map-append said_by front.events back.events ∙ (λ i. front.sent i ++ back.sent i);
    }

-- bytes of which the first n are sent, and the others are left
pub sent_more : (bytes sent left : List ℕ) (n : ℕ) → n ≤ length left → bytes ≡ sent ++ left → bytes ≡ (sent ++ take n left) ++ take (length left - n) (drop n left)
sent_more bytes sent left n within is =
    is ∙ ap (λ rest. sent ++ rest) (sym (take-append-drop n left))
    ∙ ap (λ rest. sent ++ (take n left ++ rest)) (sym (between_to_end left n (length left) (omega arith)))
    ∙ sym (append_assoc sent (take n left) (take (length left - n) (drop n left)))

-- what holds at all holds at an error
pub OnErr-always : (T E : Type 0) (r : Result T E) (P : Type 0) → P → OnErr r P
OnErr-always T E (Ok x) P p = tt
OnErr-always T E (Err e) P p = p

-- where sending stopped in the front, it stopped before what follows it
pub stops_before : (did : List Event → Type 0) (bytes more : List ℕ) → SendsPart did bytes → SendsPart did (bytes ++ more)
stops_before did bytes more at = (
  at.0,
  at.1 ++ more,
  at.2,
  ap (λ text. text ++ more) at.3 ∙ append_assoc at.0 at.1 more,
  omega (arith, at.4, length-append at.1 more),
)

-- where not all of the bytes were sent, the error is passed on
pub writes_short : (result : Result Unit RunScriptFault) (e : RunScriptFault) (did : List Event → Type 0) (bytes waiting : List ℕ)
    (failed full : Bool) → IsErrAnd result (λ f. f ≡ e) → bytes ≡ waiting → Writes {T = Unit} (Err e) did bytes failed full
    → Writes result did waiting failed full
writes_short (Ok x) e did bytes waiting failed full is same told = absurd is
writes_short (Err f) e did bytes waiting failed full is same told = record {
  ok = tt;
  err = subst (SendsPart did) same told.err;
  fault = is ∙ told.fault;
  stopped = told.stopped;
}

-- where what waited was not all sent, neither is what follows it
pub holds_short : (result : Result Unit RunScriptFault) (e : RunScriptFault) (did : List Event → Type 0) (before more held : List ℕ)
    (failed full : Bool) → IsErrAnd result (λ f. f ≡ e) → Writes {T = Unit} (Err e) did before failed full
    → Holds result did (before ++ more) held failed full
holds_short (Ok x) e did before more held failed full is told = absurd is
holds_short (Err f) e did before more held failed full is told = record {
  ok = tt;
  err = stops_before did before more told.err;
  fault = is ∙ told.fault;
  stopped = told.stopped;
}

-- what waited is sent, or it still waits
pub queue_sent : (did : List Event → Type 0) (before kept : List ℕ) → Sends did before → kept ≡ [] → Queues did before kept
queue_sent did before kept sent none = (before, sent, sym (append-nil before) ∙ ap (λ rest. before ++ rest) (sym none))

pub queue_kept : (did : List Event → Type 0) (before kept : List ℕ) → did [] → kept ≡ before → Queues did before kept
queue_kept did before kept nothing is = ([], Sends-nothing did nothing, sym is)

-- a line that waits behind what waited
pub holds_more : (did : List Event → Type 0) (before kept line now text held : List ℕ) (failed full : Bool) → Queues did before kept
    → now ≡ kept → text ≡ now ++ line → held ≡ text ++ 10 ∷ []
    → Holds {T = Unit} (Ok tt) did (before ++ with_newline line) held failed full
holds_more did before kept line now text held failed full queue same longer ended = record {
  ok = (
    queue.0,
    queue.1,
    ap (λ front. front ++ with_newline line) queue.2 ∙ append_assoc queue.0 kept (with_newline line)
        ∙ ap (λ rest. queue.0 ++ rest)
        (sym (ended ∙ ap (λ front. front ++ 10 ∷ []) (longer ∙ ap (λ front. front ++ line) same) ∙ append_assoc kept line (10 ∷ []))),
  );
  err = tt;
  fault = tt;
  stopped = tt;
}

-- where the next write took none, the bytes that are left were not sent
pub stops_after : {first second all : List Event → Type 0} → Joins first second all → (bytes sent left : List ℕ) → Sends first sent → Stalls second [] → bytes ≡ sent ++ left
    → 0 < length left → SendsPart all bytes
stops_after joins bytes sent left front back is some_left =
    (sent ++ [], left, Stalls-more joins sent [] front back, is ∙ ap (λ front. front ++ left) (sym (append-nil sent)), some_left)

pub ruleset stops = (OnErr-always, stops_before)
