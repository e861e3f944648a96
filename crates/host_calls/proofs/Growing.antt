-- The log grows, and is read on.
use Rattle.std.proofs.Common.{◌≡◌, ℕ, ◌≤◌, ◌++◌, List, ◌∷◌, length, sym, ap, ◌∙◌, subst, arith, inl, inr, append_assoc}
use Rattle.std.specs.Prelude.{◌⊎◌}
use Rattle.host_calls.specs.declared.call.HostCall.{HostCall}
use Rattle.host_calls.specs.declared.host.HostCalls.{HostCalls}
use Rattle.host_calls.specs.LogRule.{PutEntry, LogItem, IsPut, HasEntry}
use Rattle.host_calls.specs.LogRule.LogItem.{Opens, Ends, Holds, Other}
use Rattle.host_calls.specs.HostWorld.{HostWorld, whole_log, IsOthers}
use Rattle.host_calls.proofs.Logs.{IsVoid, void_more, made_more}
use Rattle.host_calls.proofs.SoundCalls.{IsHome, IsSoundCall, IsSoundRest, AllLate}

-- an item that may come is late enough, and was put if it is of this host
pub record MayLand (w : HostWorld) (item : LogItem) : Type 0 where
  pub late : AllLate (item ∷ whole_log w)
  pub put : (e : PutEntry) → item ≡ Holds e → IsPut e w.puts

pub lands : (w : HostWorld) (item : LogItem) → IsSoundRest w → MayLand w item → IsSoundRest (record w { ahead = item ∷ w.ahead })
lands w item g m =
    record {
      host = g.host;
      log = record {
        opened = g.log.opened;
        there = omega (arith, g.log.there);
        tells = g.log.tells;
        late = m.late;
        put = put;
      };
      puts = g.puts;
      calls = g.calls;
      order = g.order;
    }
  where
    put : (e : PutEntry) → HasEntry e (item ∷ whole_log w) → IsPut e w.puts
    put e (inl is) = m.put e is
    put e (inr has) = g.log.put e has

pub may_land_entry : (w : HostWorld) (e : PutEntry) → IsSoundRest w → IsPut e w.puts → MayLand w (Holds e)
may_land_entry w e g put =
    record {
      late = (omega (arith, (g.puts e put).opened, g.log.there), g.log.late);
      put = λ o is. subst (λ x. IsPut x w.puts) (same e o is) put;
    }
  where
    same : (e o : PutEntry) → Holds e ≡ Holds o → e ≡ o
    same e o is = cc

pub may_land_others : (w : HostWorld) (item : LogItem) → IsSoundRest w → IsOthers item → MayLand w item
may_land_others w Opens g m = record { late = g.log.late; put = λ e (h : Opens ≡ Holds e). cc }
may_land_others w (Ends s) g m = record { late = g.log.late; put = λ e (h : Ends s ≡ Holds e). cc }
may_land_others w (Holds o) g m = absurd m
may_land_others w Other g m = record { late = g.log.late; put = λ e (h : Other ≡ Holds e). cc }

-- what was read stays so
pub seen_call : (h : HostCalls) (o : ℕ) (puts : List PutEntry) (filling : List (ℕ × ℕ)) (more seen : List LogItem) (j : ℕ) (c : HostCall)
    → IsSoundCall h o puts filling seen j c → IsSoundCall h o puts filling (more ++ seen) j c
seen_call h o puts filling more seen j c s =
    record {
      ticket = s.ticket;
      opened = s.opened;
      begun = s.begun;
      told = s.told;
      entries = λ e p put at. let old = s.entries e p put at in
          (old.0, elim old.1 as (λ _. IsHome c.session c.sequence c.place e p ⊎ IsVoid e (more ++ seen)) [ inl x ↦ inl x | inr v ↦ inr (void_more e more seen v) ]);
      filled = s.filled;
      waits = s.waits;
      again = λ q t e p put at. void_more e more seen (s.again q t e p put at);
      turn = s.turn;
      content = s.content;
      in_filling = s.in_filling;
      answered = λ q. let old = s.answered q in
          record {
            at = old.at;
            entry = old.entry;
            made = made_more more seen old.at old.entry old.made;
            session = old.session;
            sequence = old.sequence;
            stands = old.stands;
          };
    }

-- the log is read on, and what the host makes of it comes then
abbrev pub read_on : HostWorld → List LogItem → List LogItem → HostWorld
read_on w rest more = record w { ahead = rest; seen = more ++ w.seen }

pub same_whole : (w : HostWorld) (rest more : List LogItem) → w.ahead ≡ rest ++ more → whole_log (read_on w rest more) ≡ whole_log w
same_whole w rest more is = sym (append_assoc rest more w.seen) ∙ ap (λ a. a ++ w.seen) (sym is)

pub reads_on : (w : HostWorld) (rest more : List LogItem) → IsSoundRest w → w.ahead ≡ rest ++ more → IsSoundRest (read_on w rest more)
reads_on w rest more g is =
    record {
      host = g.host;
      log = record {
        opened = g.log.opened;
        there = subst (λ l. w.opened ≤ length l) (sym whole) g.log.there;
        tells = λ t. let old = g.log.tells t in
            record {
              at = old.at;
              entry = old.entry;
              made = made_more more w.seen old.at old.entry old.made;
              put = old.put;
              session = old.session;
              sequence = old.sequence;
            };
        late = subst AllLate (sym whole) g.log.late;
        put = λ e has. g.log.put e (subst (HasEntry e) whole has);
      };
      puts = g.puts;
      calls = λ j k. seen_call w.host w.opened w.puts w.filling more w.seen j (w.calls j) (g.calls j k);
      order = g.order;
    }
  where
    whole : whole_log (read_on w rest more) ≡ whole_log w
    whole = same_whole w rest more is
