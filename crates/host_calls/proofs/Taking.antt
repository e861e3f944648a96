-- What is put: calls that are submitted, taken into entries, and sealed; and what the log answers.
use Rattle.std.proofs.Common.{◌≡◌, ℕ, ◌+◌, ◌<◌, ◌≤◌, Bool, true, false, List, [], ◌∷◌, length, refl, sym, ap, ◌∙◌, subst, arith, inl, inr}
use Rattle.std.specs.Prelude.{◌⊎◌, MatchBool}
use Rattle.host_calls.specs.declared.call.CallState.{CallState}
use Rattle.host_calls.specs.declared.call.CallState.TheVariants as call
use Rattle.host_calls.specs.declared.call.HostCall.{HostCall}
use Rattle.host_calls.specs.declared.host.HostCalls.{HostCalls}
use Rattle.host_calls.specs.declared.step.Taken.TheVariants.{Begins, Joins}
use Rattle.host_calls.specs.Calls.{is_over}
use Rattle.host_calls.specs.Puts.{MaySubmit, submitted_to, submitted_as, MayOpen, opened_as, IsNextLive, took_in, took_call, MaySeal, sealed_of, acknowledged}
use Rattle.host_calls.specs.Reads.{IsSealed}
use Rattle.host_calls.specs.LogRule.{PutEntry, StandsAt, IsPut}
use Rattle.host_calls.specs.HostWorld.{HostWorld, comes, with_call, sealed_entry, whole_log}
use Rattle.host_calls.specs.HostWorld.CallEvent.{Submits, Takes, Seals, Answers_open}
use Rattle.host_calls.proofs.Logs.{IsVoid, last_none, has_back}
use Rattle.host_calls.proofs.SoundCalls.{is_unput, IsHome, IsFilled, IsSoundCall, IsSoundPut, IsSoundIn, IsSoundRest, IsCurrent, IsOrdered, AreInOrderOf, IsToldOf, IsAtLast, call_case}
use Rattle.host_calls.proofs.Changes.{order_stays}

differ : true ≡ false → ⊥
differ h = cc

-- a stopped host has no such state
pub goes_yet : (h : HostCalls) → h.is_stopped ≡ false → h.is_stopped ≡ true → ⊥
goes_yet h n s = differ (sym s ∙ n)

submitted_call : (w : HostWorld) (j : ℕ) (c : HostCall) → IsSoundIn w j c → IsSoundCall (submitted_to w.host) w.opened w.puts w.filling w.seen j c
submitted_call w j c s =
    record {
      ticket = s.ticket;
      opened = s.opened;
      begun = s.begun;
      told = s.told;
      entries = s.entries;
      filled = s.filled;
      waits = s.waits;
      again = s.again;
      turn = s.turn;
      content = s.content;
      in_filling = s.in_filling;
      answered = s.answered;
    }

pub submits : (w : HostWorld) (lines size deadline : ℕ) → IsSoundRest w → MaySubmit lines w.host → IsSoundRest (comes w (Submits lines size deadline))
submits w lines size deadline g m =
    let new : HostCall = submitted_as lines size deadline w.host in
    record {
      host = record {
        told = g.host.told;
        taken = omega (arith, g.host.taken);
        none = g.host.none;
        sealed = g.host.sealed;
        lines = g.host.lines;
        tickets = g.host.tickets;
        stopped = λ s. absurd (goes_yet w.host m.goes s);
        stops = g.host.stops;
        due = g.host.due;
      };
      log = record { opened = g.log.opened; there = g.log.there; tells = g.log.tells; late = g.log.late; put = g.log.put };
      puts = λ e put. let old = g.puts e put in
          record { some = old.some; opened = old.opened; number = old.number; tickets = λ j p at. omega (arith, old.tickets j p at) };
      calls = λ j k.
          call_case (IsSoundCall (submitted_to w.host) w.opened w.puts w.filling w.seen j) w.host.submitted j new w.calls
          (λ is. subst (λ i. IsSoundCall (submitted_to w.host) w.opened w.puts w.filling w.seen i new) (sym is) first)
          (λ other. submitted_call w j (w.calls j) (g.calls j (below j w.host.submitted k other)));
      order = λ n i j ti ij jt ei ej.
          order_stays w.host w.calls (comes w (Submits lines size deadline)).calls
          (λ i. call_case (λ c. c.state ≡ call.Entered → c ≡ w.calls i) w.host.submitted i new w.calls
          (λ is (no : call.Queued ≡ call.Entered). cc) (λ other e. refl)) g.order n i j ti ij jt ei ej;
    }
  where
    below : (j t : ℕ) → j < t + 1 → (j ≡ t → ⊥) → j < t
    below j t h n = elim (cases j t h) [ inl a ↦ a | inr b ↦ absurd (n b) ]
      where
        cases : (j t : ℕ) → j < t + 1 → (j < t) ⊎ (j ≡ t)
        cases j t h = grind arith

    first : IsSoundCall (submitted_to w.host) w.opened w.puts w.filling w.seen w.host.submitted (submitted_as lines size deadline w.host)
    first = record {
      ticket = refl;
      opened = omega arith;
      begun = λ some is. omega arith;
      told = λ t. absurd (omega (arith, t, g.host.told, g.host.taken));
      entries = λ e p put at. absurd (omega (arith, (g.puts e put).tickets w.host.submitted p at));
      filled = λ p f at. absurd (omega (arith, g.host.tickets w.host.submitted p f at, g.host.taken));
      waits = λ q n. g.host.taken;
      again = λ (no : call.Queued ≡ call.Entered). cc;
      turn = λ (no : call.Queued ≡ call.Entered). cc;
      content = λ (no : call.Queued ≡ call.Entered). cc;
      in_filling = λ (no : call.Queued ≡ call.Entered). cc;
      answered = λ (no : call.Queued ≡ call.Answered). cc;
    }

-- a sealed number, by whether an entry is made up
sealed_free : (h : HostCalls) (n : ℕ) → h.is_filling ≡ false → IsSealed n h → n ≤ h.sequence
sealed_free h n e s = subst (λ b. MatchBool b (n < h.sequence) (n ≤ h.sequence)) e s

sealed_filling : (h : HostCalls) (n : ℕ) → h.is_filling ≡ true → IsSealed n h → n < h.sequence
sealed_filling h n e s = subst (λ b. MatchBool b (n < h.sequence) (n ≤ h.sequence)) e s

pub sealed_most : (h : HostCalls) (n : ℕ) → IsSealed n h → n ≤ h.sequence
sealed_most h n s = by h.is_filling s
  where
    by : (b : Bool) → MatchBool b (n < h.sequence) (n ≤ h.sequence) → n ≤ h.sequence
    by true s = omega arith
    by false s = s

module _ (w : HostWorld) (g : IsSoundRest w) (m : IsNextLive w.host (w.calls w.host.taken)) where
  own : IsSoundIn w w.host.taken (w.calls w.host.taken)
  own = g.calls w.host.taken m.next.waits

  -- the call that has its turn is in no entry that may yet be made
  fresh : (e : PutEntry) (p : ℕ) → IsPut e w.puts → StandsAt w.host.taken p e.parts → IsVoid e w.seen
  fresh e p put at = by (w.calls w.host.taken).state refl
    where
      by : (s : CallState) → (w.calls w.host.taken).state ≡ s → IsVoid e w.seen
      by call.Queued is = let no : true ≡ false = subst (λ s. is_unput s ≡ false) is (own.entries e p put at).0 in absurd (differ no)
      by call.Entered is = own.again is (omega arith) e p put at
      by call.Answered is = let no : true ≡ false = subst (λ s. is_over s ≡ false) is m.live in absurd (differ no)
      by call.NotKnown is = let no : true ≡ false = subst (λ s. is_over s ≡ false) is m.live in absurd (differ no)
      by call.NotMade is = let no : true ≡ false = subst (λ s. is_over s ≡ false) is m.live in absurd (differ no)
      by call.Cancelled is = let no : true ≡ false = subst (λ s. is_over s ≡ false) is m.live in absurd (differ no)

  some_open : w.host.session ≡ 0 → ⊥
  some_open z = omega (arith, m.next.session)

  split : (j t : ℕ) → j < t + 1 → (j < t) ⊎ (j ≡ t)
  split j t h = grind arith

  behind : (j t : ℕ) → t ≤ j → (j ≡ t → ⊥) → t + 1 ≤ j
  behind j t h n = elim (cases j t h) [ inl a ↦ a | inr b ↦ absurd (n b) ]
    where
      cases : (j t : ℕ) → t ≤ j → (t + 1 ≤ j) ⊎ (j ≡ t)
      cases j t h = grind arith

  module _ (free : w.host.is_filling ≡ false) where
    abbrev begun_h : HostCalls
    begun_h = took_in Begins w.host (w.calls w.host.taken)

    abbrev begun_c : HostCall
    begun_c = took_call Begins w.host (w.calls w.host.taken)

    abbrev begun_parts : List (ℕ × ℕ)
    begun_parts = (w.host.taken, (w.calls w.host.taken).lines) ∷ []

    not_made : w.host.made < w.host.sequence + 1
    not_made = omega (arith, sealed_free w.host w.host.made free g.host.sealed)

    mine_current : IsCurrent w.host.session w.host.made (w.host.sequence + 1) w.host.session (w.host.sequence + 1)
    mine_current = record { some = m.next.session; session = refl; unmade = not_made; begun = omega arith }

    begins_mine : IsSoundCall begun_h w.opened w.puts begun_parts w.seen w.host.taken begun_c
    begins_mine = record {
      ticket = own.ticket;
      opened = g.log.opened;
      begun = λ some is. omega arith;
      told = λ t. absurd (omega (arith, t, g.host.told));
      entries = λ e p put at. (refl, inr (fresh e p put at));
      filled = λ p f at. (refl, place p at);
      waits = λ (no : call.Entered ≡ call.Queued). cc;
      again = λ q t. absurd (omega arith);
      turn = λ q n t k. inl mine_current;
      content = λ q e put a b. absurd (omega (arith, b, sealed_free w.host e.sequence free ((g.puts e put).number a)));
      in_filling = λ q f a b. inl (refl, refl);
      answered = λ (no : call.Entered ≡ call.Answered). cc;
    }
      where
        place : (p : ℕ) → StandsAt w.host.taken p begun_parts
            → IsFilled w.host.session (w.host.sequence + 1) (w.host.taken + 1) w.host.session (w.host.sequence + 1) 0 w.host.taken p
        place p (inl at) = record { session = refl; sequence = refl; place = at.1; before = omega arith }
        place p (inr z) = absurd z

    begins_other : (j : ℕ) (c : HostCall) → (j ≡ w.host.taken → ⊥) → IsSoundIn w j c → IsSoundCall begun_h w.opened w.puts begun_parts w.seen j c
    begins_other j c other s = record {
      ticket = s.ticket;
      opened = s.opened;
      begun = λ some is. omega (arith, s.begun some is);
      told = s.told;
      entries = s.entries;
      filled = λ p f at. absurd (not_there p at);
      waits = λ q n. behind j w.host.taken (s.waits q n) other;
      again = λ q t e p put at. s.again q (omega arith) e p put at;
      turn = λ q n t k. elim (split j w.host.taken k) [ inl a ↦ current (s.turn q n t a) | inr b ↦ absurd (other b) ];
      content = s.content;
      in_filling = λ q f a b. absurd (omega (arith, b, s.begun m.next.session a));
      answered = s.answered;
    }
      where
        not_there : (p : ℕ) → StandsAt j p begun_parts → ⊥
        not_there p (inl at) = other at.0
        not_there p (inr z) = z

        current : {V : Type 0} → IsCurrent w.host.session w.host.made w.host.sequence c.session c.sequence ⊎ V
            → IsCurrent w.host.session w.host.made (w.host.sequence + 1) c.session c.sequence ⊎ V
        current (inl a) = inl (record { some = a.some; session = a.session; unmade = a.unmade; begun = omega (arith, a.begun) })
        current (inr v) = inr v

    abbrev Cur : HostCall → Type 0
    Cur c = IsCurrent w.host.session w.host.made (w.host.sequence + 1) c.session c.sequence

    abbrev Ord : HostCall → HostCall → Type 0
    Ord c d = IsOrdered w.host.session w.host.made (w.host.sequence + 1) c d

    begins_order : AreInOrderOf begun_h (with_call w.host.taken begun_c w.calls)
    begins_order n i j ti ij jt =
        call_case (λ d. (with_call w.host.taken begun_c w.calls i).state ≡ call.Entered → d.state ≡ call.Entered → Cur (with_call w.host.taken begun_c w.calls i) → Ord (with_call w.host.taken begun_c w.calls i) d)
        w.host.taken j begun_c w.calls
        (λ is ei ej cur. record { current = mine_current; order = cur.begun })
        (λ other. call_case (λ c. c.state ≡ call.Entered → (w.calls j).state ≡ call.Entered → Cur c → Ord c (w.calls j)) w.host.taken i begun_c w.calls
        (λ is. absurd (before j (split j w.host.taken jt) other (subst (λ k. k ≤ j) is ij)))
        (λ ne ei ej cur. old (elim (split j w.host.taken jt) [ inl a ↦ a | inr b ↦ absurd (other b) ]) ei ej cur))
      where
        before : (j : ℕ) → (j < w.host.taken) ⊎ (j ≡ w.host.taken) → (j ≡ w.host.taken → ⊥) → w.host.taken ≤ j → ⊥
        before j (inl a) other b = omega arith
        before j (inr a) other b = other a

        old : j < w.host.taken → (w.calls i).state ≡ call.Entered → (w.calls j).state ≡ call.Entered → Cur (w.calls i) → Ord (w.calls i) (w.calls j)
        old jt ei ej cur =
            let there : i < w.host.submitted = omega (arith, ij, jt, m.next.waits) in
            let was = g.order n i j ti ij jt ei ej
            (record { some = cur.some; session = cur.session; unmade = cur.unmade; begun = (g.calls i there).begun cur.some cur.session }) in
            record {
              current = record { some = was.current.some; session = was.current.session; unmade = was.current.unmade; begun = omega (arith, was.current.begun) };
              order = was.order;
            }

    pub takes_begins : IsSoundRest (comes w (Takes Begins))
    takes_begins = record {
      host = record {
        told = omega (arith, g.host.told);
        taken = omega (arith, m.next.waits);
        none = λ z. absurd (some_open z);
        sealed = not_made;
        lines = λ f. omega arith;
        tickets = λ j p f at. there j p at;
        stopped = λ s. absurd (goes_yet w.host m.next.goes s);
        stops = g.host.stops;
        due = λ t. omega (arith, g.host.due t);
      };
      log = record { opened = g.log.opened; there = g.log.there; tells = g.log.tells; late = g.log.late; put = g.log.put };
      puts = λ e put. let old = g.puts e put in
          record { some = old.some; opened = old.opened; number = λ is. omega (arith, sealed_free w.host e.sequence free (old.number is)); tickets = old.tickets };
      calls = λ j k.
          call_case (IsSoundCall begun_h w.opened w.puts begun_parts w.seen j) w.host.taken j begun_c w.calls
          (λ is. subst (λ i. IsSoundCall begun_h w.opened w.puts begun_parts w.seen i begun_c) (sym is) begins_mine)
          (λ other. begins_other j (w.calls j) other (g.calls j k));
      order = begins_order;
    }
      where
        there : (j p : ℕ) → StandsAt j p begun_parts → j < w.host.taken + 1
        there j p (inl at) = omega (arith, at.0)
        there j p (inr z) = absurd z

  module _ (filling : w.host.is_filling ≡ true) where
    abbrev joined_h : HostCalls
    joined_h = took_in Joins w.host (w.calls w.host.taken)

    abbrev joined_c : HostCall
    joined_c = took_call Joins w.host (w.calls w.host.taken)

    abbrev joined_parts : List (ℕ × ℕ)
    joined_parts = (w.host.taken, (w.calls w.host.taken).lines) ∷ w.filling

    before_it : w.host.made < w.host.sequence
    before_it = sealed_filling w.host w.host.made filling g.host.sealed

    joined_current : IsCurrent w.host.session w.host.made w.host.sequence w.host.session w.host.sequence
    joined_current = record { some = m.next.session; session = refl; unmade = before_it; begun = omega arith }

    joins_mine : IsSoundCall joined_h w.opened w.puts joined_parts w.seen w.host.taken joined_c
    joins_mine = record {
      ticket = own.ticket;
      opened = g.log.opened;
      begun = λ some is. omega arith;
      told = λ t. absurd (omega (arith, t, g.host.told));
      entries = λ e p put at. (refl, inr (fresh e p put at));
      filled = λ p f at. (refl, place p at);
      waits = λ (no : call.Entered ≡ call.Queued). cc;
      again = λ q t. absurd (omega arith);
      turn = λ q n t k. inl joined_current;
      content = λ q e put a b. absurd (omega (arith, b, sealed_filling w.host e.sequence filling ((g.puts e put).number a)));
      in_filling = λ q f a b. inl (refl, sym (g.host.lines filling));
      answered = λ (no : call.Entered ≡ call.Answered). cc;
    }
      where
        place : (p : ℕ) → StandsAt w.host.taken p joined_parts
            → IsFilled w.host.session w.host.sequence (w.host.taken + 1) w.host.session w.host.sequence w.host.lines w.host.taken p
        place p (inl at) = record { session = refl; sequence = refl; place = at.1 ∙ g.host.lines filling; before = omega arith }
        place p (inr at) = absurd (omega (arith, g.host.tickets w.host.taken p filling at))

    joins_other : (j : ℕ) (c : HostCall) → (j ≡ w.host.taken → ⊥) → IsSoundIn w j c → IsSoundCall joined_h w.opened w.puts joined_parts w.seen j c
    joins_other j c other s = record {
      ticket = s.ticket;
      opened = s.opened;
      begun = s.begun;
      told = s.told;
      entries = s.entries;
      filled = λ p f at. let old = s.filled p f (rest p at) in
          (old.0, record { session = old.1.session; sequence = old.1.sequence; place = old.1.place; before = omega (arith, old.1.before) });
      waits = λ q n. behind j w.host.taken (s.waits q n) other;
      again = λ q t e p put at. s.again q (omega arith) e p put at;
      turn = λ q n t k. elim (split j w.host.taken k) [ inl a ↦ s.turn q n t a | inr b ↦ absurd (other b) ];
      content = s.content;
      in_filling = λ q f a b. inr (s.in_filling q f a b);
      answered = s.answered;
    }
      where
        rest : (p : ℕ) → StandsAt j p joined_parts → StandsAt j p w.filling
        rest p (inl at) = absurd (other at.0)
        rest p (inr at) = at

    abbrev CurJ : HostCall → Type 0
    CurJ c = IsCurrent w.host.session w.host.made w.host.sequence c.session c.sequence

    abbrev OrdJ : HostCall → HostCall → Type 0
    OrdJ c d = IsOrdered w.host.session w.host.made w.host.sequence c d

    joins_order : AreInOrderOf joined_h (with_call w.host.taken joined_c w.calls)
    joins_order n i j ti ij jt =
        call_case (λ d. (with_call w.host.taken joined_c w.calls i).state ≡ call.Entered → d.state ≡ call.Entered → CurJ (with_call w.host.taken joined_c w.calls i) → OrdJ (with_call w.host.taken joined_c w.calls i) d)
        w.host.taken j joined_c w.calls
        (λ is ei ej cur. record { current = joined_current; order = cur.begun })
        (λ other. call_case (λ c. c.state ≡ call.Entered → (w.calls j).state ≡ call.Entered → CurJ c → OrdJ c (w.calls j)) w.host.taken i joined_c w.calls
        (λ is. absurd (before j (split j w.host.taken jt) other (subst (λ k. k ≤ j) is ij)))
        (λ ne ei ej cur. g.order n i j ti ij (elim (split j w.host.taken jt) [ inl a ↦ a | inr b ↦ absurd (other b) ]) ei ej cur))
      where
        before : (j : ℕ) → (j < w.host.taken) ⊎ (j ≡ w.host.taken) → (j ≡ w.host.taken → ⊥) → w.host.taken ≤ j → ⊥
        before j (inl a) other b = omega arith
        before j (inr a) other b = other a

    pub takes_joins : IsSoundRest (comes w (Takes Joins))
    takes_joins = record {
      host = record {
        told = omega (arith, g.host.told);
        taken = omega (arith, m.next.waits);
        none = λ z. absurd (some_open z);
        sealed = g.host.sealed;
        lines = λ f. omega (arith, g.host.lines filling);
        tickets = λ j p f at. there j p at;
        stopped = λ s. absurd (goes_yet w.host m.next.goes s);
        stops = g.host.stops;
        due = λ t. omega (arith, g.host.due t);
      };
      log = record { opened = g.log.opened; there = g.log.there; tells = g.log.tells; late = g.log.late; put = g.log.put };
      puts = λ e put. let old = g.puts e put in record { some = old.some; opened = old.opened; number = old.number; tickets = old.tickets };
      calls = λ j k.
          call_case (IsSoundCall joined_h w.opened w.puts joined_parts w.seen j) w.host.taken j joined_c w.calls
          (λ is. subst (λ i. IsSoundCall joined_h w.opened w.puts joined_parts w.seen i joined_c) (sym is) joins_mine)
          (λ other. joins_other j (w.calls j) other (g.calls j k));
      order = joins_order;
    }
      where
        there : (j p : ℕ) → StandsAt j p joined_parts → j < w.host.taken + 1
        there j p (inl at) = omega (arith, at.0)
        there j p (inr at) = omega (arith, g.host.tickets j p filling at)

-- the entry takes no more calls
abbrev pub full_one : HostCalls → HostCalls
full_one h = record h { is_full = true }

pub fills_one : (w : HostWorld) → IsSoundRest w → w.host.is_stopped ≡ false → IsSoundRest (record w { host = full_one w.host })
fills_one w g goes =
    record {
      host = record {
        told = g.host.told;
        taken = g.host.taken;
        none = g.host.none;
        sealed = g.host.sealed;
        lines = g.host.lines;
        tickets = g.host.tickets;
        stopped = λ s. absurd (goes_yet w.host goes s);
        stops = g.host.stops;
        due = g.host.due;
      };
      log = record { opened = g.log.opened; there = g.log.there; tells = g.log.tells; late = g.log.late; put = g.log.put };
      puts = λ e put. let old = g.puts e put in record { some = old.some; opened = old.opened; number = old.number; tickets = old.tickets };
      calls = λ j k. let s = g.calls j k in
          record {
            ticket = s.ticket;
            opened = s.opened;
            begun = s.begun;
            told = s.told;
            entries = s.entries;
            filled = s.filled;
            waits = s.waits;
            again = s.again;
            turn = s.turn;
            content = s.content;
            in_filling = s.in_filling;
            answered = s.answered;
          };
      order = g.order;
    }

-- the log has answered that it has the entry
pub acknowledges : (w : HostWorld) → IsSoundRest w → IsSoundRest (record w { host = acknowledged w.host })
acknowledges w g =
    record {
      host = record {
        told = g.host.told;
        taken = g.host.taken;
        none = λ z. ((g.host.none z).0, refl);
        sealed = g.host.sealed;
        lines = g.host.lines;
        tickets = g.host.tickets;
        stopped = λ s. let old = g.host.stopped s in record { tells = old.tells; not_filling = old.not_filling; not_putting = refl; all = old.all; to = old.to };
        stops = g.host.stops;
        due = g.host.due;
      };
      log = record { opened = g.log.opened; there = g.log.there; tells = g.log.tells; late = g.log.late; put = g.log.put };
      puts = λ e put. let old = g.puts e put in record { some = old.some; opened = old.opened; number = old.number; tickets = old.tickets };
      calls = λ j k. let s = g.calls j k in
          record {
            ticket = s.ticket;
            opened = s.opened;
            begun = s.begun;
            told = s.told;
            entries = s.entries;
            filled = s.filled;
            waits = s.waits;
            again = s.again;
            turn = s.turn;
            content = s.content;
            in_filling = s.in_filling;
            answered = s.answered;
          };
      order = g.order;
    }

pub seals : (w : HostWorld) → IsSoundRest w → MaySeal w.host → IsSoundRest (comes w Seals)
seals w g m =
    record {
      host = record {
        told = g.host.told;
        taken = g.host.taken;
        none = λ z. absurd (is_open z);
        sealed = sealed_most w.host w.host.made g.host.sealed;
        lines = λ (no : false ≡ true). cc;
        tickets = λ j p (no : false ≡ true). cc;
        stopped = λ s. absurd (goes_yet w.host m.goes s);
        stops = g.host.stops;
        due = g.host.due;
      };
      log = record { opened = g.log.opened; there = g.log.there; tells = λ t. tells (g.log.tells t); late = g.log.late; put = λ e has. inr (g.log.put e has) };
      puts = puts;
      calls = λ j k. one_call j (w.calls j) (g.calls j k);
      order = g.order;
    }
  where
    is_open : w.host.session ≡ 0 → ⊥
    is_open z = differ (sym m.some ∙ (g.host.none z).0)

    tells : IsToldOf w.puts w.seen w.host.told_session w.host.told_sequence → IsToldOf (sealed_entry w ∷ w.puts) w.seen w.host.told_session w.host.told_sequence
    tells t = record { at = t.at; entry = t.entry; made = t.made; put = inr t.put; session = t.session; sequence = t.sequence }

    is_some : (n : ℕ) → (n ≡ 0 → ⊥) → 0 < n
    is_some n h = elim (cases n) [ inl a ↦ absurd (h a) | inr b ↦ b ]
      where
        cases : (n : ℕ) → (n ≡ 0) ⊎ (0 < n)
        cases n = grind arith

    new : IsSoundPut (sealed_of w.host) w.opened (sealed_entry w)
    new = record {
      some = is_some w.host.session is_open;
      opened = g.log.opened;
      number = λ is. omega arith;
      tickets = λ j p at. omega (arith, g.host.tickets j p m.some at, g.host.taken);
    }

    puts : (e : PutEntry) → IsPut e (sealed_entry w ∷ w.puts) → IsSoundPut (sealed_of w.host) w.opened e
    puts e (inl is) = subst (IsSoundPut (sealed_of w.host) w.opened) (sym is) new
    puts e (inr put) = let old = g.puts e put in
        record { some = old.some; opened = old.opened; number = λ is. sealed_most w.host e.sequence (old.number is); tickets = old.tickets }

    one_call : (j : ℕ) (c : HostCall) → IsSoundIn w j c → IsSoundCall (sealed_of w.host) w.opened (sealed_entry w ∷ w.puts) w.filling w.seen j c
    one_call j c s = record {
      ticket = s.ticket;
      opened = s.opened;
      begun = s.begun;
      told = s.told;
      entries = entries;
      filled = λ p (no : false ≡ true). cc;
      waits = s.waits;
      again = again;
      turn = s.turn;
      content = content;
      in_filling = λ q (no : false ≡ true). cc;
      answered = s.answered;
    }
      where
        entries : (e : PutEntry) (p : ℕ) → IsPut e (sealed_entry w ∷ w.puts) → StandsAt j p e.parts
            → (is_unput c.state ≡ false) × (IsHome c.session c.sequence c.place e p ⊎ IsVoid e w.seen)
        entries e p (inl is) at =
            let old = s.filled p m.some (subst (λ x. StandsAt j p x.parts) is at) in (
              old.0,
              inl (record {
                session = ap (λ x. x.session) is ∙ sym old.1.session;
                sequence = ap (λ x. x.sequence) is ∙ sym old.1.sequence;
                place = old.1.place;
              }),
            )
        entries e p (inr put) at = s.entries e p put at

        again : c.state ≡ call.Entered → w.host.taken ≤ j → (e : PutEntry) (p : ℕ) → IsPut e (sealed_entry w ∷ w.puts) → StandsAt j p e.parts → IsVoid e w.seen
        again q t e p (inl is) at = absurd (omega (arith, t, g.host.tickets j p m.some (subst (λ x. StandsAt j p x.parts) is at)))
        again q t e p (inr put) at = s.again q t e p put at

        content : c.state ≡ call.Entered → (e : PutEntry) → IsPut e (sealed_entry w ∷ w.puts) → e.session ≡ c.session → e.sequence ≡ c.sequence
            → StandsAt j c.place e.parts
        content q e (inl is) a b =
            subst (λ x. StandsAt j c.place x.parts) (sym is)
            (s.in_filling q m.some (sym a ∙ ap (λ x. x.session) is) (sym b ∙ ap (λ x. x.sequence) is))
        content q e (inr put) a b = s.content q e put a b

pub opens : (w : HostWorld) (session : ℕ) → IsSoundRest w → MayOpen session w.host → w.opened < session → session ≤ length (whole_log w)
    → IsSoundRest (comes w (Answers_open session))
opens w session g m later there =
    record {
      host = record {
        told = g.host.told;
        taken = g.host.taken;
        none = λ z. absurd (omega (arith, m.some));
        sealed = subst (λ b. MatchBool b (0 < 0) (0 ≤ 0)) (sym free) (omega arith);
        lines = g.host.lines;
        tickets = g.host.tickets;
        stopped = λ s. absurd (goes_yet w.host m.goes s);
        stops = g.host.stops;
        due = g.host.due;
      };
      log = record {
        opened = omega arith;
        there = there;
        tells = g.log.tells;
        late = g.log.late;
        put = g.log.put;
      };
      puts = λ e put. let old = g.puts e put in
          record { some = old.some; opened = omega (arith, old.opened); number = λ is. absurd (later_than e put is); tickets = old.tickets };
      calls = λ j k. one_call j (w.calls j) (g.calls j k);
      order = λ n i j ti ij jt ei ej cur. absurd (omega (arith, cur.session, (g.calls i (omega (arith, ij, jt, g.host.taken))).opened));
    }
  where
    free : w.host.is_filling ≡ false
    free = (g.host.none m.none).0

    later_than : (e : PutEntry) → IsPut e w.puts → e.session ≡ session → ⊥
    later_than e put is = omega (arith, (g.puts e put).opened, is)

    one_call : (j : ℕ) (c : HostCall) → IsSoundIn w j c → IsSoundCall (opened_as session w.host) session w.puts w.filling w.seen j c
    one_call j c s = record {
      ticket = s.ticket;
      opened = omega (arith, s.opened);
      begun = λ some is. absurd (omega (arith, is, s.opened));
      told = s.told;
      entries = s.entries;
      filled = λ p f at. absurd (differ (sym f ∙ free));
      waits = s.waits;
      again = s.again;
      turn = λ q n t k. turn (s.turn q n t k);
      content = s.content;
      in_filling = λ q f. absurd (differ (sym f ∙ free));
      answered = s.answered;
    }
      where
        turn : {V : Type 0} → IsCurrent w.host.session w.host.made w.host.sequence c.session c.sequence ⊎ V → IsCurrent session 0 0 c.session c.sequence ⊎ V
        turn (inl a) = absurd (omega (arith, a.some, m.none))
        turn (inr v) = inr v

pub opens_last : (w : HostWorld) (session : ℕ) → IsSoundRest w → w.opened < session → IsAtLast (opened_as session w.host) w.seen
opens_last w session g later n s =
    last_none session w.seen (λ e has is. omega (arith, (g.puts e (g.log.put e (has_back w.ahead w.seen e has))).opened, is))
