-- What changes the state of one call, or how far the host is.
use Rattle.std.proofs.Common.{◌≡◌, ℕ, ◌+◌, ◌<◌, ◌≤◌, true, false, List, refl, sym, ap, ◌∙◌, subst, arith, inl, inr}
use Rattle.std.specs.Prelude.{◌⊎◌}
use Rattle.host_calls.specs.declared.call.CallState.{CallState}
use Rattle.host_calls.specs.declared.call.CallState.TheVariants as call
use Rattle.host_calls.specs.declared.call.HostCall.{HostCall}
use Rattle.host_calls.specs.declared.host.HostCalls.{HostCalls}
use Rattle.host_calls.specs.Calls.{is_over}
use Rattle.host_calls.specs.LogRule.{LogItem}
use Rattle.host_calls.specs.HostWorld.{HostWorld, with_call}
use Rattle.host_calls.proofs.SoundCalls.{is_unput, IsAnswerOf, IsSoundCall, IsSoundIn, IsSoundRest, IsCurrent, IsOrdered, AreInOrderOf, call_case}

-- a call goes from one state to another: no entry has it still or it is in one still, and it goes back to none
pub record GoesOn (seen : List LogItem) (j : ℕ) (c : HostCall) (s : CallState) : Type 0 where
  pub unput : is_unput s ≡ is_unput c.state
  pub queued : s ≡ call.Queued → c.state ≡ call.Queued
  pub entered : s ≡ call.Entered → c.state ≡ call.Entered
  pub over : is_over c.state ≡ true → is_over s ≡ true
  pub answered : s ≡ call.Answered → IsAnswerOf seen j c.session c.sequence c.place

abbrev pub with_state : CallState → HostCall → HostCall
with_state s c = record c { state = s }

abbrev pub restated : HostWorld → ℕ → CallState → HostWorld
restated w t s = record w { calls = with_call t (with_state s (w.calls t)) w.calls }

call_goes_on : (w : HostWorld) (j : ℕ) (c : HostCall) (s : CallState) → IsSoundIn w j c → GoesOn w.seen j c s → IsSoundIn w j (with_state s c)
call_goes_on w j c s g h =
    record {
      ticket = g.ticket;
      opened = g.opened;
      begun = g.begun;
      told = λ t. h.over (g.told t);
      entries = λ e p put at. let old = g.entries e p put at in (h.unput ∙ old.0, old.1);
      filled = λ p f at. let old = g.filled p f at in (h.unput ∙ old.0, old.1);
      waits = λ q n. g.waits (h.queued q) n;
      again = λ q t e p put at. g.again (h.entered q) t e p put at;
      turn = λ q n t k. g.turn (h.entered q) n t k;
      content = λ q e put a b. g.content (h.entered q) e put a b;
      in_filling = λ q f a b. g.in_filling (h.entered q) f a b;
      answered = h.answered;
    }

-- the calls that are in entries are those that were, as they were
pub entered_same : (t : ℕ) (s : CallState) (calls : ℕ → HostCall) → (s ≡ call.Entered → (calls t).state ≡ call.Entered) → (j : ℕ)
    → (with_call t (with_state s (calls t)) calls j).state ≡ call.Entered → with_call t (with_state s (calls t)) calls j ≡ calls j
entered_same t s calls h j =
    call_case (λ c. c.state ≡ call.Entered → c ≡ calls j) t j (with_state s (calls t)) calls
    (λ is entered. subst (λ i. with_state s (calls t) ≡ calls i) (sym is) (ap (λ x. record (calls t) { state = x }) (entered ∙ sym (h entered))))
    (λ other entered. refl)

pub order_stays : (h : HostCalls) (calls now : ℕ → HostCall) → ((j : ℕ) → (now j).state ≡ call.Entered → now j ≡ calls j) → AreInOrderOf h calls → AreInOrderOf h now
order_stays h calls now same g goes i j ti ij jt ei ej =
    let is = same i ei in
    let js = same j ej in
    let P : HostCall → HostCall → Type 0 =
    λ c d. c.state ≡ call.Entered → d.state ≡ call.Entered → IsCurrent h.session h.made h.sequence c.session c.sequence → IsOrdered h.session h.made h.sequence c d in
    subst (λ c. P c (now j)) (sym is) (subst (λ d. P (calls i) d) (sym js) (g goes i j ti ij jt)) ei ej

pub goes_on : (w : HostWorld) (t : ℕ) (s : CallState) → IsSoundRest w → (s ≡ call.Entered → (w.calls t).state ≡ call.Entered)
    → (t < w.host.submitted → GoesOn w.seen t (w.calls t) s) → IsSoundRest (restated w t s)
goes_on w t s g entered h =
    record {
      host = g.host;
      log = g.log;
      puts = g.puts;
      calls = λ j k.
          call_case (IsSoundIn w j) t j (with_state s (w.calls t)) w.calls
          (λ is.
          subst (λ i. IsSoundIn w i (with_state s (w.calls t))) (sym is)
          (let there = subst (λ i. i < w.host.submitted) is k in call_goes_on w t (w.calls t) s (g.calls t there) (h there)))
          (λ other. g.calls j k);
      order = order_stays w.host w.calls (restated w t s).calls (entered_same t s w.calls entered) g.order;
    }

-- a call that stays as it is
pub stays : (w : HostWorld) (t : ℕ) → IsSoundRest w → IsSoundRest (restated w t (w.calls t).state)
stays w t g =
    goes_on w t (w.calls t).state g (λ e. e)
    (λ k. record { unput = refl; queued = λ q. q; entered = λ q. q; over = λ q. q; answered = (g.calls t k).answered })

-- the call that was to be told is over
abbrev pub told_one : HostCalls → HostCalls
told_one h = record h { told = h.told + 1 }

pub tells_one : (w : HostWorld) → IsSoundRest w → w.host.told < w.host.taken → is_over (w.calls w.host.told).state ≡ true → IsSoundRest (record w { host = told_one w.host })
tells_one w g below over =
    record {
      host = record {
        told = omega arith;
        taken = g.host.taken;
        none = g.host.none;
        sealed = g.host.sealed;
        lines = g.host.lines;
        tickets = g.host.tickets;
        stopped = λ s. let old = g.host.stopped s in record { tells = old.tells; not_filling = old.not_filling; not_putting = old.not_putting; all = old.all; to = old.to };
        stops = g.host.stops;
        due = g.host.due;
      };
      log = record { opened = g.log.opened; there = g.log.there; tells = g.log.tells; late = g.log.late; put = g.log.put };
      puts = λ e put. let old = g.puts e put in record { some = old.some; opened = old.opened; number = old.number; tickets = old.tickets };
      calls = λ j k. call j (w.calls j) (g.calls j k) (λ is. subst (λ i. is_over (w.calls i).state ≡ true) (sym is) over);
      order = λ n i j ti. g.order n i j (omega arith);
    }
  where
    call : (j : ℕ) (c : HostCall) → IsSoundIn w j c → (j ≡ w.host.told → is_over c.state ≡ true) → IsSoundCall (told_one w.host) w.opened w.puts w.filling w.seen j c
    call j c s is = record {
      ticket = s.ticket;
      opened = s.opened;
      begun = s.begun;
      told = λ t. elim (by_order j w.host.told t) [ inl a ↦ s.told a | inr b ↦ is b ];
      entries = s.entries;
      filled = s.filled;
      waits = s.waits;
      again = s.again;
      turn = λ q n t k. s.turn q n (omega arith) k;
      content = s.content;
      in_filling = s.in_filling;
      answered = s.answered;
    }
      where
        by_order : (j t : ℕ) → j < t + 1 → (j < t) ⊎ (j ≡ t)
        by_order j t h = grind arith

-- the call that had its turn is over, and is passed
abbrev pub passed_one : HostCalls → HostCalls
passed_one h = record h { taken = h.taken + 1 }

pub passes_one : (w : HostWorld) → IsSoundRest w → w.host.is_stopped ≡ false → w.host.taken < w.host.submitted → is_over (w.calls w.host.taken).state ≡ true
    → IsSoundRest (record w { host = passed_one w.host })
passes_one w g goes below over =
    record {
      host = record {
        told = omega (arith, g.host.told);
        taken = omega arith;
        none = g.host.none;
        sealed = g.host.sealed;
        lines = g.host.lines;
        tickets = λ j p f at. omega (arith, g.host.tickets j p f at);
        stopped = λ s. let no : true ≡ false = sym s ∙ goes in cc;
        stops = g.host.stops;
        due = λ t. omega (arith, g.host.due t);
      };
      log = record { opened = g.log.opened; there = g.log.there; tells = g.log.tells; late = g.log.late; put = g.log.put };
      puts = λ e put. let old = g.puts e put in record { some = old.some; opened = old.opened; number = old.number; tickets = old.tickets };
      calls = λ j k. call j (w.calls j) (g.calls j k) (λ is. subst (λ i. is_over (w.calls i).state ≡ true) (sym is) over);
      order = λ n i j ti ij jt ei ej. elim (by_order j w.host.taken jt) [
        | inl a ↦ g.order n i j ti ij a ei ej
        | inr b ↦ let no : is_over (w.calls j).state ≡ true = subst (λ i. is_over (w.calls i).state ≡ true) (sym b) over in
            absurd (not_over (w.calls j).state ej no)
      ];
    }
  where
    by_order : (j t : ℕ) → j < t + 1 → (j < t) ⊎ (j ≡ t)
    by_order j t h = grind arith

    not_over : (s : CallState) → s ≡ call.Entered → is_over s ≡ true → ⊥
    not_over s e o = let no : false ≡ true = subst (λ x. is_over x ≡ true) e o in cc

    queued_not_over : (s : CallState) → s ≡ call.Queued → is_over s ≡ true → ⊥
    queued_not_over s e o = let no : false ≡ true = subst (λ x. is_over x ≡ true) e o in cc

    call : (j : ℕ) (c : HostCall) → IsSoundIn w j c → (j ≡ w.host.taken → is_over c.state ≡ true) → IsSoundCall (passed_one w.host) w.opened w.puts w.filling w.seen j c
    call j c s is = record {
      ticket = s.ticket;
      opened = s.opened;
      begun = s.begun;
      told = s.told;
      entries = s.entries;
      filled = λ p f at. let old = s.filled p f at in
          (old.0, record { session = old.1.session; sequence = old.1.sequence; place = old.1.place; before = omega (arith, old.1.before) });
      waits = λ q n. behind j w.host.taken (s.waits q n) (λ here. queued_not_over c.state q (is here));
      again = λ q t e p put at. s.again q (omega arith) e p put at;
      turn = λ q n t k. elim (by_order j w.host.taken k) [ inl a ↦ s.turn q n t a | inr b ↦ absurd (not_over c.state q (is b)) ];
      content = s.content;
      in_filling = s.in_filling;
      answered = s.answered;
    }
      where
        behind : (j t : ℕ) → t ≤ j → (j ≡ t → ⊥) → t + 1 ≤ j
        behind j t h n = elim (cases j t h) [ inl a ↦ a | inr b ↦ absurd (n b) ]
          where
            cases : (j t : ℕ) → t ≤ j → (t + 1 ≤ j) ⊎ (j ≡ t)
            cases j t h = grind arith
