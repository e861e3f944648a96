-- What follows from what was read: answers and losses are to be told, or the session is given up.
use Rattle.std.proofs.Common.{◌≡◌, ℕ, ◌<◌, ◌≤◌, Bool, true, false, ◌&&◌, length, refl, sym, ◌∙◌, subst, arith, inl, inr}
use Rattle.std.specs.Prelude.{◌⊎◌, nat_lt}
use Rattle.std.proofs.lemmas.Bool.Decides.{nat_tests}
use Rattle.host_calls.specs.declared.call.CallState.TheVariants as call
use Rattle.host_calls.specs.declared.host.HostCalls.{HostCalls}
use Rattle.host_calls.specs.declared.step.Telling.{Telling}
use Rattle.host_calls.specs.declared.step.Telling.TheVariants as telling
use Rattle.host_calls.specs.Reads.{tells_some, is_telling, IsSealed, IsNextMade, told_answers, renewed, lost_to, lost_session}
use Rattle.host_calls.specs.Tells.{stopped_of}
use Rattle.host_calls.specs.LogRule.{PutEntry, IsPut, is_open_in, last_made}
use Rattle.host_calls.specs.HostWorld.{HostWorld}
use Rattle.host_calls.proofs.Logs.{IsVoid}
use Rattle.host_calls.proofs.SoundCalls.{IsHome, IsCurrent, IsMatchedBy, IsSoundRest, IsToldOf, IsOrdered}
use Rattle.host_calls.proofs.Taking.{goes_yet, sealed_most}

-- where nothing is told, a call that has had its turn is in an entry that was not made
pub all_current : (w : HostWorld) → IsSoundRest w → is_telling w.host ≡ false → w.host.is_stopped ≡ false → (j : ℕ) → j < w.host.submitted → w.host.told ≤ j → j < w.host.taken
    → (w.calls j).state ≡ call.Entered → IsCurrent w.host.session w.host.made w.host.sequence (w.calls j).session (w.calls j).sequence
all_current w g quiet goes j k t b q =
    elim ((g.calls j k).turn q goes t b) [ inl a ↦ a | inr m ↦ absurd (unmatched w.host.telling _ _ _ _ (nothing m.0) m.1) ]
  where
    nothing : j < w.host.told_to → tells_some w.host.telling ≡ false
    nothing d = by (tells_some w.host.telling) (nat_lt w.host.told w.host.told_to) quiet (below w.host.told w.host.told_to (omega arith))
      where
        by : (a b : Bool) → (a && b) ≡ false → b ≡ true → a ≡ false
        by true true e f = cc
        by true false e f = cc
        by false b e f = refl

        below : (a b : ℕ) → a < b → nat_lt a b ≡ true
        below a b h = grind (arith, nat_tests)

    unmatched : (t : Telling) (S N s n : ℕ) → tells_some t ≡ false → IsMatchedBy t S N s n → ⊥
    unmatched telling.Nothing S N s n e m = m
    unmatched telling.Answers S N s n e m = cc
    unmatched telling.Losses S N s n e m = cc
    unmatched telling.Stops S N s n e m = cc

-- what is told, up to which number, leaves the calls behind the number
module _ (w : HostWorld) (g : IsSoundRest w) (quiet : is_telling w.host ≡ false) (goes : w.host.is_stopped ≡ false) where
  by_number : (a b : ℕ) → (a ≤ b) ⊎ (b < a)
  by_number a b = grind arith

  -- the answers of the next number, or the losses up to a number: the session goes on
  module _ (h : HostCalls) (M : ℕ) (more : w.host.made < M) where
    turns : (j : ℕ) → j < w.host.submitted → w.host.told ≤ j → j < w.host.taken → (w.calls j).state ≡ call.Entered → (T : Telling)
        → ((w.calls j).session ≡ w.host.session → (w.calls j).sequence ≤ M → w.host.made < (w.calls j).sequence → IsMatchedBy T w.host.session M (w.calls j).session (w.calls j).sequence)
        → IsCurrent w.host.session M w.host.sequence (w.calls j).session (w.calls j).sequence ⊎ ((j < w.host.taken) × IsMatchedBy T w.host.session M (w.calls j).session (w.calls j).sequence)
    turns j k t b q T matched =
        let old = all_current w g quiet goes j k t b q in
        elim (by_number (w.calls j).sequence M) [
          | inl low ↦ inr (b, matched old.session low old.unmade)
          | inr high ↦ inl (record { some = old.some; session = old.session; unmade = high; begun = old.begun })
        ]

    orders : (i j : ℕ) → w.host.told ≤ i → i ≤ j → j < w.host.taken → (w.calls i).state ≡ call.Entered → (w.calls j).state ≡ call.Entered
        → IsCurrent w.host.session M w.host.sequence (w.calls i).session (w.calls i).sequence → IsOrdered w.host.session M w.host.sequence (w.calls i) (w.calls j)
    orders i j ti ij jt ei ej cur =
        let was = g.order goes i j ti ij jt ei ej
        (record { some = cur.some; session = cur.session; unmade = omega (arith, cur.unmade); begun = cur.begun }) in
        record {
          current = record { some = was.current.some; session = was.current.session; unmade = omega (arith, was.order, cur.unmade); begun = was.current.begun };
          order = was.order;
        }

  pub answers : (S N : ℕ) → IsNextMade S N w.host → IsToldOf w.puts w.seen S N → IsSoundRest (record w { host = told_answers S N w.host })
  answers S N m told =
      record {
        host = record {
          told = g.host.told;
          taken = g.host.taken;
          none = λ z. absurd (omega (arith, m.own.some, m.own.own));
          sealed = m.sealed;
          lines = g.host.lines;
          tickets = g.host.tickets;
          stopped = λ s. absurd (goes_yet w.host goes s);
          stops = λ (no : telling.Answers ≡ telling.Stops). cc;
          due = λ t. omega arith;
        };
        log = record { opened = g.log.opened; there = g.log.there; tells = λ t. told; late = g.log.late; put = g.log.put };
        puts = λ e put. let old = g.puts e put in record { some = old.some; opened = old.opened; number = old.number; tickets = old.tickets };
        calls = λ j k. let s = g.calls j k in
            record {
              ticket = s.ticket;
              opened = s.opened;
              begun = s.begun;
              told = s.told;
              entries = s.entries;
              filled = s.filled;
              waits = s.waits;
              again = s.again;
              turn = λ q n t b.
                  subst (λ X. IsCurrent w.host.session N w.host.sequence (w.calls j).session (w.calls j).sequence ⊎ ((j < w.host.taken) × IsMatchedBy telling.Answers X N (w.calls j).session (w.calls j).sequence)) (sym m.own.own)
                  (turns w.host N (omega (arith, m.next)) j k t b q telling.Answers (λ is low high. (is, omega (arith, m.next))));
              content = s.content;
              in_filling = s.in_filling;
              answered = s.answered;
            };
        order = λ n. orders w.host N (omega (arith, m.next));
      }

  pub loses : (M : ℕ) → 0 < w.host.session → w.host.made < M → IsSealed M w.host → IsSoundRest (record w { host = lost_to M w.host })
  loses M some high sealed =
      record {
        host = record {
          told = g.host.told;
          taken = g.host.taken;
          none = λ z. absurd (omega arith);
          sealed = sealed;
          lines = g.host.lines;
          tickets = g.host.tickets;
          stopped = λ s. absurd (goes_yet w.host goes s);
          stops = λ (no : telling.Losses ≡ telling.Stops). cc;
          due = λ t. omega arith;
        };
        log = record { opened = g.log.opened; there = g.log.there; tells = λ (no : telling.Losses ≡ telling.Answers). cc; late = g.log.late; put = g.log.put };
        puts = λ e put. let old = g.puts e put in record { some = old.some; opened = old.opened; number = old.number; tickets = old.tickets };
        calls = λ j k. let s = g.calls j k in
            record {
              ticket = s.ticket;
              opened = s.opened;
              begun = s.begun;
              told = s.told;
              entries = s.entries;
              filled = s.filled;
              waits = s.waits;
              again = s.again;
              turn = λ q n t b. turns w.host M high j k t b q telling.Losses (λ is low above. (is, low));
              content = s.content;
              in_filling = s.in_filling;
              answered = s.answered;
            };
        order = λ n. orders w.host M high;
      }

  pub loses_session : IsSoundRest (record w { host = lost_session w.host })
  loses_session =
      record {
        host = record {
          told = g.host.told;
          taken = g.host.taken;
          none = λ z. (refl, refl);
          sealed = omega arith;
          lines = λ (no : false ≡ true). cc;
          tickets = λ j p (no : false ≡ true). cc;
          stopped = λ s. absurd (goes_yet w.host goes s);
          stops = λ (no : telling.Losses ≡ telling.Stops). cc;
          due = λ t. omega arith;
        };
        log = record {
          opened = omega arith;
          there = g.log.there;
          tells = λ (no : telling.Losses ≡ telling.Answers). cc;
          late = g.log.late;
          put = g.log.put;
        };
        puts = λ e put. let old = g.puts e put in
            record { some = old.some; opened = old.opened; number = λ is. absurd (omega (arith, old.some, is)); tickets = old.tickets };
        calls = λ j k. let s = g.calls j k in
            record {
              ticket = s.ticket;
              opened = s.opened;
              begun = λ some. absurd (omega (arith, some));
              told = s.told;
              entries = s.entries;
              filled = λ p (no : false ≡ true). cc;
              waits = s.waits;
              again = s.again;
              turn = λ q n t b. let old = all_current w g quiet goes j k t b q in inr (b, (old.session, old.begun));
              content = s.content;
              in_filling = λ q (no : false ≡ true). cc;
              answered = s.answered;
            };
        order = λ n i j ti ij jt ei ej cur. absurd (omega (arith, cur.some));
      }

  -- the session has ended in the log as it was read, so what it has not made is never made
  pub renews : w.host.session ≤ length w.seen → is_open_in w.host.session w.seen ≡ false → last_made w.host.session w.seen ≡ w.host.made
      → IsSoundRest (record w { host = renewed w.host })
  renews there gone last =
      record {
        host = record {
          told = omega arith;
          taken = omega (arith, g.host.told, g.host.taken);
          none = λ z. (refl, refl);
          sealed = omega arith;
          lines = λ (no : false ≡ true). cc;
          tickets = λ j p (no : false ≡ true). cc;
          stopped = λ s. absurd (goes_yet w.host goes s);
          stops = g.host.stops;
          due = λ t. at_end t;
        };
        log = record { opened = omega arith; there = g.log.there; tells = g.log.tells; late = g.log.late; put = g.log.put };
        puts = λ e put. let old = g.puts e put in
            record { some = old.some; opened = old.opened; number = λ is. absurd (omega (arith, old.some, is)); tickets = old.tickets };
        calls = λ j k. let s = g.calls j k in
            record {
              ticket = s.ticket;
              opened = s.opened;
              begun = λ some. absurd (omega (arith, some));
              told = s.told;
              entries = s.entries;
              filled = λ p (no : false ≡ true). cc;
              waits = λ q n. omega (arith, s.waits q n, g.host.told);
              again = λ q t e p put at. again j k q t e put (s.entries e p put at).1 (λ high. s.again q high e p put at);
              turn = λ q n t b. absurd (omega arith);
              content = s.content;
              in_filling = λ q (no : false ≡ true). cc;
              answered = s.answered;
            };
        order = λ n i j ti ij jt. absurd (omega arith);
      }
    where
      at_end : tells_some w.host.telling ≡ true → w.host.told_to ≤ w.host.told
      at_end t = behind w.host.told w.host.told_to (by (tells_some w.host.telling) (nat_lt w.host.told w.host.told_to) t quiet)
        where
          by : (a b : Bool) → a ≡ true → (a && b) ≡ false → b ≡ false
          by true true t e = cc
          by true false t e = refl
          by false b t e = cc

          behind : (a b : ℕ) → nat_lt a b ≡ false → b ≤ a
          behind a b h = grind (arith, nat_tests)

      again : (j : ℕ) → j < w.host.submitted → (w.calls j).state ≡ call.Entered → w.host.told ≤ j → (e : PutEntry) → {p : ℕ} → IsPut e w.puts
          → IsHome (w.calls j).session (w.calls j).sequence (w.calls j).place e p ⊎ IsVoid e w.seen → (w.host.taken ≤ j → IsVoid e w.seen) → IsVoid e w.seen
      again j k q t e put (inr v) late = v
      again j k q t e put (inl home) late = elim (by_number w.host.taken j) [
        | inl high ↦ late high
        | inr low ↦
            let old = all_current w g quiet goes j k t low q in
            let S : e.session ≡ w.host.session = home.session ∙ old.session in
            record {
              there = omega arith;
              gone = subst (λ s. is_open_in s w.seen ≡ false) (sym S) gone;
              unmade = subst (λ s. last_made s w.seen < e.sequence) (sym S) (omega (arith, last, old.unmade, home.sequence));
            }
      ]

-- the host has stopped, and tells all that is left
pub stops : (w : HostWorld) → IsSoundRest w → IsSoundRest (record w { host = stopped_of w.host })
stops w g =
    record {
      host = record {
        told = omega (arith, g.host.told, g.host.taken);
        taken = omega arith;
        none = λ z. (refl, refl);
        sealed = sealed_most w.host w.host.made g.host.sealed;
        lines = λ (no : false ≡ true). cc;
        tickets = λ j p (no : false ≡ true). cc;
        stopped = λ s. record { tells = refl; not_filling = refl; not_putting = refl; all = refl; to = refl };
        stops = λ s. refl;
        due = λ t. omega arith;
      };
      log = record { opened = g.log.opened; there = g.log.there; tells = λ (no : telling.Stops ≡ telling.Answers). cc; late = g.log.late; put = g.log.put };
      puts = λ e put. let old = g.puts e put in
          record { some = old.some; opened = old.opened; number = λ is. sealed_most w.host e.sequence (old.number is); tickets = old.tickets };
      calls = λ j k. let s = g.calls j k in
          record {
            ticket = s.ticket;
            opened = s.opened;
            begun = s.begun;
            told = s.told;
            entries = s.entries;
            filled = λ p (no : false ≡ true). cc;
            waits = λ q (no : true ≡ false). cc;
            again = λ q t. absurd (omega (arith, t, k));
            turn = λ q (no : true ≡ false). cc;
            content = s.content;
            in_filling = λ q (no : false ≡ true). cc;
            answered = s.answered;
          };
      order = λ (no : true ≡ false). cc;
    }
