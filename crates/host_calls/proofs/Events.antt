-- What comes keeps all sound: what the calls do and are told.
use Rattle.std.proofs.Common.{◌≡◌, ℕ, ◌<◌, ◌≤◌, Bool, true, false, ◌&&◌, refl, sym, ap, ◌∙◌, subst, arith, inl, inr}
use Rattle.std.specs.Prelude.{nat_lt}
use Rattle.std.proofs.lemmas.Bool.Decides.{nat_tests}
use Rattle.host_calls.specs.declared.call.CallState.{CallState}
use Rattle.host_calls.specs.declared.call.CallState.TheVariants as call
use Rattle.host_calls.specs.declared.call.HostCall.{HostCall}
use Rattle.host_calls.specs.declared.host.HostCalls.{HostCalls}
use Rattle.host_calls.specs.declared.step.Telling.{Telling}
use Rattle.host_calls.specs.declared.step.Telling.TheVariants as telling
use Rattle.host_calls.specs.declared.step.Taken.{Taken}
use Rattle.host_calls.specs.declared.step.Taken.TheVariants as taken
use Rattle.host_calls.specs.declared.step.Told.{Told}
use Rattle.host_calls.specs.declared.step.Told.TheVariants as told
use Rattle.host_calls.specs.Calls.{is_over, is_queued, cancelled_state, given_up_state}
use Rattle.host_calls.specs.Puts.{MayTake}
use Rattle.host_calls.specs.Reads.{tells_some, is_telling}
use Rattle.host_calls.specs.Tells.{IsDueBy, IsInSession, words_for, MayTell}
use Rattle.host_calls.specs.HostWorld.{HostWorld, comes, with_call}
use Rattle.host_calls.specs.HostWorld.CallEvent.{Takes, Tells, Cancels, Gives_up}
use Rattle.host_calls.proofs.SoundCalls.{is_unput, IsCurrent, IsMatchedBy, IsAnswerOf, IsSoundRest, call_case}
use Rattle.host_calls.proofs.Changes.{with_state, restated, goes_on, stays, tells_one, passes_one}
use Rattle.host_calls.proofs.Taking.{takes_begins, takes_joins, fills_one}

-- the call at a place is the one that was put there
here : (P : HostCall → Type 0) (t : ℕ) (c : HostCall) (calls : ℕ → HostCall) → P c → P (with_call t c calls t)
here P t c calls p = call_case P t t c calls (λ is. p) (λ other. absurd (other refl))

pub takes : (w : HostWorld) (what : Taken) → IsSoundRest w → MayTake w.host (w.calls w.host.taken) what → IsSoundRest (comes w (Takes what))
takes w taken.Refused g m = stays w w.host.taken g
takes w taken.Passes g m =
    passes_one (restated w w.host.taken (w.calls w.host.taken).state) (stays w w.host.taken g) m.0.goes m.0.waits
    (here (λ c. is_over c.state ≡ true) w.host.taken (w.calls w.host.taken) w.calls m.1)
takes w taken.Begins g m = takes_begins w g m.0 m.1
takes w taken.Joins g m = takes_joins w g m.0 m.1
takes w taken.Fills g m = fills_one (restated w w.host.taken (w.calls w.host.taken).state) (stays w w.host.taken g) m.0.next.goes

-- cancels, and calls that nobody waits for
pub cancels : (w : HostWorld) (t : ℕ) → IsSoundRest w → IsSoundRest (comes w (Cancels t))
cancels w t g =
    goes_on w t (cancelled_state (w.calls t).state) g (entered (w.calls t).state)
    (λ k. record {
      unput = unput (w.calls t).state;
      queued = queued (w.calls t).state;
      entered = entered (w.calls t).state;
      over = over (w.calls t).state;
      answered = λ q. (g.calls t k).answered (answered (w.calls t).state q);
    })
  where
    unput : (s : CallState) → is_unput (cancelled_state s) ≡ is_unput s
    unput call.Queued = refl
    unput call.Entered = refl
    unput call.Answered = refl
    unput call.NotKnown = refl
    unput call.NotMade = refl
    unput call.Cancelled = refl

    queued : (s : CallState) → cancelled_state s ≡ call.Queued → s ≡ call.Queued
    queued call.Queued h = refl
    queued call.Entered h = h
    queued call.Answered h = h
    queued call.NotKnown h = h
    queued call.NotMade h = h
    queued call.Cancelled h = h

    entered : (s : CallState) → cancelled_state s ≡ call.Entered → s ≡ call.Entered
    entered call.Queued h = cc
    entered call.Entered h = h
    entered call.Answered h = h
    entered call.NotKnown h = h
    entered call.NotMade h = h
    entered call.Cancelled h = h

    answered : (s : CallState) → cancelled_state s ≡ call.Answered → s ≡ call.Answered
    answered call.Queued h = cc
    answered call.Entered h = h
    answered call.Answered h = h
    answered call.NotKnown h = h
    answered call.NotMade h = h
    answered call.Cancelled h = h

    over : (s : CallState) → is_over s ≡ true → is_over (cancelled_state s) ≡ true
    over call.Queued h = refl
    over call.Entered h = h
    over call.Answered h = h
    over call.NotKnown h = h
    over call.NotMade h = h
    over call.Cancelled h = h

pub gives_up : (w : HostWorld) (t : ℕ) → IsSoundRest w → IsSoundRest (comes w (Gives_up t))
gives_up w t g =
    goes_on w t (given_up_state (w.calls t).state) g (entered (w.calls t).state)
    (λ k. record {
      unput = unput (w.calls t).state;
      queued = queued (w.calls t).state;
      entered = entered (w.calls t).state;
      over = over (w.calls t).state;
      answered = λ q. (g.calls t k).answered (answered (w.calls t).state q);
    })
  where
    unput : (s : CallState) → is_unput (given_up_state s) ≡ is_unput s
    unput call.Queued = refl
    unput call.Entered = refl
    unput call.Answered = refl
    unput call.NotKnown = refl
    unput call.NotMade = refl
    unput call.Cancelled = refl

    queued : (s : CallState) → given_up_state s ≡ call.Queued → s ≡ call.Queued
    queued call.Queued h = refl
    queued call.Entered h = cc
    queued call.Answered h = h
    queued call.NotKnown h = h
    queued call.NotMade h = h
    queued call.Cancelled h = h

    entered : (s : CallState) → given_up_state s ≡ call.Entered → s ≡ call.Entered
    entered call.Queued h = cc
    entered call.Entered h = refl
    entered call.Answered h = h
    entered call.NotKnown h = h
    entered call.NotMade h = h
    entered call.Cancelled h = h

    answered : (s : CallState) → given_up_state s ≡ call.Answered → s ≡ call.Answered
    answered call.Queued h = cc
    answered call.Entered h = cc
    answered call.Answered h = h
    answered call.NotKnown h = h
    answered call.NotMade h = h
    answered call.Cancelled h = h

    over : (s : CallState) → is_over s ≡ true → is_over (given_up_state s) ≡ true
    over call.Queued h = refl
    over call.Entered h = refl
    over call.Answered h = h
    over call.NotKnown h = h
    over call.NotMade h = h
    over call.Cancelled h = h

-- a call is to be told, so there is one
pub telling_below : (h : HostCalls) → (tells_some h.telling ≡ true → h.told_to ≤ h.taken) → is_telling h ≡ true → h.told < h.taken
telling_below h due e = by (tells_some h.telling) (nat_lt h.told h.told_to) e (λ t b. let low = below h.told h.told_to b in omega (arith, due t))
  where
    by : {P : Type 0} → (a b : Bool) → (a && b) ≡ true → (a ≡ true → b ≡ true → P) → P
    by true true e f = f refl refl
    by true false e f = cc
    by false b e f = cc

    below : (a b : ℕ) → nat_lt a b ≡ true → a < b
    below a b h = grind (arith, nat_tests)

-- what is told by what words
words_answers : (t : Telling) (s : CallState) → told.Answers ≡ words_for t s → t ≡ telling.Answers
words_answers telling.Nothing s h = cc
words_answers telling.Answers s h = refl
words_answers telling.Losses s h = cc
words_answers telling.Stops call.Queued h = cc
words_answers telling.Stops call.Entered h = cc
words_answers telling.Stops call.Answered h = cc
words_answers telling.Stops call.NotKnown h = cc
words_answers telling.Stops call.NotMade h = cc
words_answers telling.Stops call.Cancelled h = cc

words_drops : (t : Telling) (s : CallState) → told.Drops ≡ words_for t s → s ≡ call.Queued
words_drops telling.Nothing s h = cc
words_drops telling.Answers s h = cc
words_drops telling.Losses s h = cc
words_drops telling.Stops call.Queued h = refl
words_drops telling.Stops call.Entered h = cc
words_drops telling.Stops call.Answered h = cc
words_drops telling.Stops call.NotKnown h = cc
words_drops telling.Stops call.NotMade h = cc
words_drops telling.Stops call.Cancelled h = cc

-- a loss is for a call in an entry
words_loses : (t : Telling) (h : HostCalls) (c : HostCall) → told.Loses ≡ words_for t c.state → IsDueBy t h c → is_queued c.state ≡ false
words_loses telling.Nothing h c w d = absurd d
words_loses telling.Answers h c w d = cc
words_loses telling.Losses h c w d = d.0.entered
words_loses telling.Stops h c w d = by c.state w
  where
    by : (s : CallState) → told.Loses ≡ words_for telling.Stops s → is_queued s ≡ false
    by call.Queued w = cc
    by call.Entered w = refl
    by call.Answered w = refl
    by call.NotKnown w = refl
    by call.NotMade w = refl
    by call.Cancelled w = refl

entered_if : (s : CallState) → is_over s ≡ false → is_queued s ≡ false → s ≡ call.Entered
entered_if call.Queued a b = cc
entered_if call.Entered a b = refl
entered_if call.Answered a b = cc
entered_if call.NotKnown a b = cc
entered_if call.NotMade a b = cc
entered_if call.Cancelled a b = cc

-- a call in an entry, or one that waits, becomes one that is over
becomes : (w : HostWorld) (t : ℕ) (s : CallState) → (s ≡ call.Entered → ⊥) → (s ≡ call.Queued → ⊥) → IsSoundRest w → is_unput s ≡ is_unput (w.calls t).state
    → is_over s ≡ true → (s ≡ call.Answered → IsAnswerOf w.seen t (w.calls t).session (w.calls t).sequence (w.calls t).place) → IsSoundRest (restated w t s)
becomes w t s not_entered not_queued g unput over answered =
    goes_on w t s g (λ e. absurd (not_entered e))
    (λ k. record { unput = unput; queued = λ q. absurd (not_queued q); entered = λ q. absurd (not_entered q); over = λ q. over; answered = answered })

-- nothing is told any more
abbrev quiet_one : HostCalls → HostCalls
quiet_one h = record h { telling = telling.Nothing }

ends : (w : HostWorld) → IsSoundRest w → MayTell w.host (w.calls w.host.told) told.Ends → IsSoundRest (record w { host = quiet_one w.host })
ends w g m =
    record {
      host = record {
        told = g.host.told;
        taken = g.host.taken;
        none = g.host.none;
        sealed = g.host.sealed;
        lines = g.host.lines;
        tickets = g.host.tickets;
        stopped = λ s. absurd (not_stopped s);
        stops = λ (no : telling.Nothing ≡ telling.Stops). cc;
        due = λ (no : false ≡ true). cc;
      };
      log = record { opened = g.log.opened; there = g.log.there; tells = λ (no : telling.Nothing ≡ telling.Answers). cc; late = g.log.late; put = g.log.put };
      puts = λ e put. let old = g.puts e put in record { some = old.some; opened = old.opened; number = old.number; tickets = old.tickets };
      calls = λ j k. let s = g.calls j k in
          record {
            ticket = s.ticket;
            opened = s.opened;
            begun = s.begun;
            told = s.told;
            entries = s.entries;
            filled = s.filled;
            waits = s.waits;
            again = s.again;
            turn = λ q n t b. inl (current j k q n t b);
            content = s.content;
            in_filling = s.in_filling;
            answered = s.answered;
          };
      order = g.order;
    }
  where
    below : w.host.told < w.host.taken
    below = telling_below w.host g.host.due m.0.telling

    there : w.host.told < w.host.submitted
    there = omega (arith, below, g.host.taken)

    -- what is told at the end of a host is for each call
    not_stopped : w.host.is_stopped ≡ true → ⊥
    not_stopped s = m.2 (subst (λ t. IsDueBy t w.host (w.calls w.host.told)) (sym (g.host.stopped s).tells) tt)

    not_queued : w.host.is_stopped ≡ false → is_queued (w.calls w.host.told).state ≡ false
    not_queued n = by (w.calls w.host.told).state refl
      where
        by : (s : CallState) → (w.calls w.host.told).state ≡ s → is_queued s ≡ false
        by call.Queued is = absurd (omega (arith, (g.calls w.host.told there).waits is n, below))
        by call.Entered is = refl
        by call.Answered is = refl
        by call.NotKnown is = refl
        by call.NotMade is = refl
        by call.Cancelled is = refl

    due : (t : Telling) (c : HostCall) → is_queued c.state ≡ false → IsMatchedBy t w.host.told_session w.host.told_sequence c.session c.sequence → IsDueBy t w.host c
    due telling.Nothing c e x = x
    due telling.Answers c e x = (record { entered = e; session = x.0 }, x.1)
    due telling.Losses c e x = (record { entered = e; session = x.0 }, x.1)
    due telling.Stops c e x = tt

    first : w.host.is_stopped ≡ false → IsCurrent w.host.session w.host.made w.host.sequence (w.calls w.host.told).session (w.calls w.host.told).sequence
    first n =
        elim ((g.calls w.host.told there).turn (entered_if _ m.1 (not_queued n)) n (omega arith) below) [
          | inl a ↦ a
          | inr x ↦ absurd (m.2 (due w.host.telling (w.calls w.host.told) (not_queued n) x.1))
        ]

    current : (j : ℕ) → j < w.host.submitted → (w.calls j).state ≡ call.Entered → w.host.is_stopped ≡ false → w.host.told ≤ j → j < w.host.taken
        → IsCurrent w.host.session w.host.made w.host.sequence (w.calls j).session (w.calls j).sequence
    current j k q n t b =
        (g.order n w.host.told j (omega arith) t b (entered_if _ m.1 (not_queued n)) q (first n)).current

pub tells : (w : HostWorld) (what : Told) → IsSoundRest w → MayTell w.host (w.calls w.host.told) what → IsSoundRest (comes w (Tells what))
tells w told.Refused g m = stays w w.host.told g
tells w told.Passes g m =
    tells_one (restated w w.host.told (w.calls w.host.told).state) (stays w w.host.told g) (telling_below w.host g.host.due m.0.telling)
    (here (λ c. is_over c.state ≡ true) w.host.told (w.calls w.host.told) w.calls m.1)
tells w told.Ends g m = stays (record w { host = quiet_one w.host }) w.host.told (ends w g m)
tells w told.Answers g m =
    let c = w.calls w.host.told in
    let is : w.host.telling ≡ telling.Answers = words_answers w.host.telling c.state m.words in
    let due : IsInSession w.host c × (c.sequence ≡ w.host.told_sequence) = subst (λ t. IsDueBy t w.host c) is m.due in
    let entered : c.state ≡ call.Entered = entered_if c.state m.live due.0.entered in
    let of = g.log.tells is in
    let below = telling_below w.host g.host.due m.next.telling in
    let there : w.host.told < w.host.submitted = omega (arith, below, g.host.taken) in
    let session : of.entry.session ≡ c.session = of.session ∙ sym due.0.session in
    let sequence : of.entry.sequence ≡ c.sequence = of.sequence ∙ sym due.1 in
    let answer : IsAnswerOf w.seen w.host.told c.session c.sequence c.place =
    record {
      at = of.at;
      entry = of.entry;
      made = of.made;
      session = session;
      sequence = sequence;
      stands = (g.calls w.host.told there).content entered of.entry of.put session sequence;
    } in
    tells_one (restated w w.host.told call.Answered)
    (becomes w w.host.told call.Answered (λ (no : call.Answered ≡ call.Entered). cc) (λ (no : call.Answered ≡ call.Queued). cc) g (sym (ap is_unput entered)) refl (λ q. answer))
    below (here (λ c. is_over c.state ≡ true) w.host.told (with_state call.Answered c) w.calls refl)
tells w told.Loses g m =
    let c = w.calls w.host.told in
    let entered : c.state ≡ call.Entered = entered_if c.state m.live (words_loses w.host.telling w.host c m.words m.due) in
    tells_one (restated w w.host.told call.NotKnown)
    (becomes w w.host.told call.NotKnown (λ (no : call.NotKnown ≡ call.Entered). cc) (λ (no : call.NotKnown ≡ call.Queued). cc) g (sym (ap is_unput entered)) refl (λ (no : call.NotKnown ≡ call.Answered). cc))
    (telling_below w.host g.host.due m.next.telling) (here (λ c. is_over c.state ≡ true) w.host.told (with_state call.NotKnown c) w.calls refl)
tells w told.Drops g m =
    let c = w.calls w.host.told in
    let queued : c.state ≡ call.Queued = words_drops w.host.telling c.state m.words in
    tells_one (restated w w.host.told call.NotMade)
    (becomes w w.host.told call.NotMade (λ (no : call.NotMade ≡ call.Entered). cc) (λ (no : call.NotMade ≡ call.Queued). cc) g (sym (ap is_unput queued)) refl (λ (no : call.NotMade ≡ call.Answered). cc))
    (telling_below w.host g.host.due m.next.telling) (here (λ c. is_over c.state ≡ true) w.host.told (with_state call.NotMade c) w.calls refl)
