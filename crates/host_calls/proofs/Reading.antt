-- What comes keeps all sound: what is read in the log.
use Rattle.std.proofs.Common.{◌≡◌, ℕ, ◌+◌, ◌<◌, ◌≤◌, ◌++◌, Bool, true, false, List, [], ◌∷◌, length, refl, sym, ap, ◌∙◌, subst, arith, inl, inr, length-append}
use Rattle.std.specs.Prelude.{◌⊎◌}
use Rattle.host_calls.specs.declared.step.LogOutcome.TheVariants as outcome
use Rattle.host_calls.specs.declared.step.Reading.{Reading}
use Rattle.host_calls.specs.declared.step.Reading.TheVariants as reading
use Rattle.host_calls.specs.Reads.{is_telling, IsOwnSession, IsSealed, IsNextMade, SaysNothing, IsReading, IsOfOwn, loaded_as}
use Rattle.host_calls.specs.LogRule.{PutEntry, LogItem, IsPut, HasEntry, IsMadeAt, is_open_in, last_made, is_next_in, outcome_in}
use Rattle.host_calls.specs.LogRule.LogItem.{Opens, Ends, Holds, Other}
use Rattle.host_calls.specs.HostWorld.{HostWorld, comes, IsOthers, IsLoadingOf}
use Rattle.host_calls.specs.HostWorld.CallEvent.{Reads, Passes, Reads_again, Loads, Loads_again}
use Rattle.host_calls.proofs.Logs.{next_is, made_is, gone_is, last_same, last_next, next_made, last_others, last_has, last_more, last_none, made_last, made_more, gone_more, has_back}
use Rattle.host_calls.proofs.SoundCalls.{AllLate, IsSoundRest, IsSoundWorld, IsAtLast}
use Rattle.host_calls.proofs.Growing.{read_on, reads_on}
use Rattle.host_calls.proofs.Telling.{answers, loses, loses_session, renews}

-- where entries stand
pub late_back : (newer older : List LogItem) → AllLate (newer ++ older) → AllLate older
late_back [] older h = h
late_back (Opens ∷ newer) older h = late_back newer older h
late_back (Ends s ∷ newer) older h = late_back newer older h
late_back (Other ∷ newer) older h = late_back newer older h
late_back (Holds e ∷ newer) older h = late_back newer older h.1

pub late_has : (log : List LogItem) (e : PutEntry) → AllLate log → HasEntry e log → e.session < length log
late_has [] e h has = absurd has
late_has (item ∷ log) e h (inl is) = let now : AllLate (Holds e ∷ log) = subst (λ i. AllLate (i ∷ log)) is h in omega (arith, now.0)
late_has (item ∷ log) e h (inr has) = omega (arith, late_has log e (late_back (item ∷ []) log h) has)

pub has_at : (newer older : List LogItem) (e : PutEntry) → HasEntry e (newer ++ Holds e ∷ older)
has_at [] older e = inl refl
has_at (item ∷ newer) older e = inr (has_at newer older e)

-- a session that is told to have none is no session
differs : true ≡ false → ⊥
differs h = cc

module _ (w : HostWorld) (g : IsSoundWorld w) (rest : List LogItem) (e : PutEntry) (ahead : w.ahead ≡ rest ++ Holds e ∷ []) where
  abbrev pub after_it : HostWorld
  after_it = read_on w rest (Holds e ∷ [])

  pub rests : IsSoundRest after_it
  rests = reads_on w rest (Holds e ∷ []) g.rest ahead

  put : IsPut e w.puts
  put = rests.log.put e (has_at rest w.seen e)

  late : e.session ≤ length w.seen
  late = (late_back rest (Holds e ∷ w.seen) rests.log.late).0

  -- the next entry is the next of this host's
  pub is_next : w.host.is_stopped ≡ false → e.session ≡ w.host.session → is_next_in e w.seen ≡ true → IsNextMade e.session e.sequence w.host
  is_next goes own next =
      let some = (g.rest.puts e put).some in
      let last : last_made e.session w.seen ≡ w.host.made = subst (λ s. last_made s w.seen ≡ w.host.made) (sym own) (g.last goes (omega arith)) in
      record {
        own = record { goes = goes; some = some; own = own };
        next = omega (arith, (next_is e w.seen next).1);
        sealed = (g.rest.puts e put).number own;
      }

  -- where the host stays as it is, it was not the next
  same_last : (w.host.is_stopped ≡ false → w.host.session ≡ e.session → is_next_in e w.seen ≡ true → ⊥) → IsAtLast w.host (Holds e ∷ w.seen)
  same_last h goes some = last_same w.host.session e w.seen (h goes) ∙ g.last goes some

  pub reads : (what : Reading) → is_telling w.host ≡ false → IsReading (outcome_in e w.seen) e.session e.sequence w.host what → IsSoundWorld (comes w (Reads rest e what))
  reads reading.Busy quiet m = absurd (differs (sym m ∙ quiet))
  reads reading.Ignores quiet m =
      record {
        rest = rests;
        last = same_last (λ goes own next.
            subst (λ o. SaysNothing o e.session e.sequence w.host) (next_made e w.seen next) m.1 (is_next goes (sym own) next));
      }
  reads reading.Misses quiet m =
      record {
        rest = rests;
        last = same_last (λ goes own next. let no : outcome.Made ≡ outcome.Gap = sym (next_made e w.seen next) ∙ m.1 in cc);
      }
  reads reading.Tells quiet m =
      let next = made_is e w.seen m.1 in
      record {
        rest = answers after_it rests quiet m.2.own.goes e.session e.sequence m.2
            (record { at = length w.seen; entry = e; made = inl (refl, refl, next); put = put; session = refl; sequence = refl });
        last = λ goes some. last_next w.host.session e w.seen m.2.own.own next;
      }
  reads reading.Renews quiet m =
      let gone : is_open_in e.session w.seen ≡ false = gone_is e w.seen m.1 in
      let own : e.session ≡ w.host.session = m.2.own in
      let some : 0 < w.host.session = omega (arith, m.2.some) in
      record {
        rest = renews after_it rests quiet m.2.goes (omega (arith, late))
            (subst (λ s. is_open_in s w.seen ≡ false) own gone)
            (same_last (λ goes is next. differs (sym (next_is e w.seen next).0 ∙ gone)) m.2.goes some);
        last = λ goes no_session. absurd (omega (arith, no_session));
      }

pub passes : (w : HostWorld) (rest : List LogItem) (item : LogItem) → IsSoundWorld w → w.ahead ≡ rest ++ item ∷ [] → IsOthers item → IsSoundWorld (comes w (Passes rest item))
passes w rest item g ahead others =
    record {
      rest = reads_on w rest (item ∷ []) g.rest ahead;
      last = λ goes some. last_others w.host.session item w.seen (not_own item others) ∙ g.last goes some;
    }
  where
    not_own : (item : LogItem) → IsOthers item → (e : PutEntry) → item ≡ Holds e → ⊥
    not_own item h e is = subst IsOthers is h

-- what was read before is not the next
pub not_again : (w : HostWorld) (newer : List LogItem) (e : PutEntry) (older : List LogItem) → IsSoundWorld w → w.seen ≡ newer ++ Holds e ∷ older
    → outcome_in e older ≡ outcome.Made → IsNextMade e.session e.sequence w.host → ⊥
not_again w newer e older g is o m =
    let made : IsMadeAt w.seen (length older) e =
    subst (λ l. IsMadeAt l (length older) e) (sym is) (made_more newer (Holds e ∷ older) (length older) e (inl (refl, refl, made_is e older o))) in
    let last : last_made e.session w.seen ≡ w.host.made =
    subst (λ s. last_made s w.seen ≡ w.host.made) (sym m.own.own) (g.last m.own.goes (omega (arith, m.own.some, m.own.own))) in
    omega (arith, made_last w.seen (length older) e made, m.next)

pub reads_again : (w : HostWorld) (newer : List LogItem) (e : PutEntry) (older : List LogItem) (what : Reading) → IsSoundWorld w
    → w.seen ≡ newer ++ Holds e ∷ older → is_telling w.host ≡ false → IsReading (outcome_in e older) e.session e.sequence w.host what
    → IsSoundWorld (comes w (Reads_again newer e older what))
reads_again w newer e older reading.Busy g is quiet m = g
reads_again w newer e older reading.Ignores g is quiet m = g
reads_again w newer e older reading.Misses g is quiet m = g
reads_again w newer e older reading.Tells g is quiet m = absurd (not_again w newer e older g is m.1 m.2)
reads_again w newer e older reading.Renews g is quiet m =
    let late : AllLate (newer ++ Holds e ∷ older) = subst AllLate is (late_back w.ahead w.seen g.rest.log.late) in
    let there : e.session ≤ length older = (late_back newer (Holds e ∷ older) late).0 in
    let long : length w.seen ≡ length newer + (length older + 1) = ap length is ∙ (length-append newer (Holds e ∷ older) ∙ omega arith) in
    let gone : is_open_in e.session w.seen ≡ false =
    subst (λ l. is_open_in e.session l ≡ false) (sym is) (gone_more e.session newer (Holds e ∷ older) (omega arith) (gone_is e older m.1)) in
    record {
      rest = renews w g.rest quiet m.2.goes (omega (arith, m.2.own)) (subst (λ s. is_open_in s w.seen ≡ false) m.2.own gone)
          (g.last m.2.goes (omega (arith, m.2.some, m.2.own)));
      last = λ goes no_session. absurd (omega (arith, no_session));
    }

module _ (w : HostWorld) (g : IsSoundWorld w) (rest more : List LogItem) (ahead : w.ahead ≡ rest ++ more) where
  abbrev pub with_it : HostWorld
  with_it = read_on w rest more

  pub loaded : IsSoundRest with_it
  loaded = reads_on w rest more g.rest ahead

  by_place : (a b : ℕ) → (a ≤ b) ⊎ (b < a)
  by_place a b = grind arith

  -- a session that was opened behind the snapshot has nothing there
  pub nothing_yet : length (more ++ w.seen) < w.host.session → last_made w.host.session (more ++ w.seen) ≡ 0
  nothing_yet high =
      last_none w.host.session (more ++ w.seen) (λ e has is.
      omega (arith, late_has (more ++ w.seen) e (late_back rest (more ++ w.seen) loaded.log.late) has, is))

  ignores_last : (IsOfOwn (length (more ++ w.seen)) w.host → last_made w.host.session (more ++ w.seen) ≤ w.host.made) → IsAtLast w.host (more ++ w.seen)
  ignores_last h goes some =
      let before : last_made w.host.session w.seen ≡ w.host.made = g.last goes some in
      let rises = last_more w.host.session more w.seen in
      elim (by_place w.host.session (length (more ++ w.seen))) [
        | inl low ↦ let most = h (record { own = record { goes = goes; some = some; own = refl }; there = low }) in omega arith
        | inr high ↦ let zero_now = nothing_yet high in omega arith
      ]

  loads_as : (found : Bool) → is_telling w.host ≡ false → IsOfOwn (length (more ++ w.seen)) w.host
      → (found ≡ true → (w.host.made < last_made w.host.session (more ++ w.seen)) × IsSealed (last_made w.host.session (more ++ w.seen)) w.host)
      → IsSoundWorld (record with_it { host = loaded_as reading.Tells found (last_made w.host.session (more ++ w.seen)) w.host })
  loads_as true quiet of m =
      record {
        rest = loses with_it loaded quiet of.own.goes (last_made w.host.session (more ++ w.seen)) of.own.some (m refl).0 (m refl).1;
        last = λ goes some. refl;
      }
  loads_as false quiet of m =
      record { rest = loses_session with_it loaded quiet of.own.goes; last = λ goes no_session. absurd (omega (arith, no_session)) }

  -- what a snapshot has was sealed here
  pub not_missed : w.host.made < last_made w.host.session (more ++ w.seen) → (IsSealed (last_made w.host.session (more ++ w.seen)) w.host → ⊥) → ⊥
  not_missed high unsealed =
      let it = last_has w.host.session (more ++ w.seen) (omega (arith, high)) in
      let put = loaded.log.put it.0 (has_back rest (more ++ w.seen) it.0 it.1) in
      unsealed (subst (λ n. IsSealed n w.host) it.3 ((g.rest.puts it.0 put).number it.2))

  pub loads : (what : Reading) → is_telling w.host ≡ false → IsLoadingOf (more ++ w.seen) w.host what → IsSoundWorld (comes w (Loads rest more what))
  loads reading.Busy quiet m = absurd (differs (sym m ∙ quiet))
  loads reading.Renews quiet m = absurd m
  loads reading.Ignores quiet m = record { rest = loaded; last = ignores_last (λ of. (m.1 of).1) }
  loads reading.Misses quiet m = absurd (not_missed m.3 m.4)
  loads reading.Tells quiet m = loads_as (is_open_in w.host.session (more ++ w.seen)) quiet m.1 m.2

-- a snapshot of what was read has nothing more
pub not_less : (w : HostWorld) (newer older : List LogItem) → IsSoundWorld w → w.seen ≡ newer ++ older → IsOwnSession w.host.session w.host
    → w.host.made < last_made w.host.session older → ⊥
not_less w newer older g is own high =
    let before : last_made w.host.session w.seen ≡ w.host.made = g.last own.goes own.some in
    let rises : last_made w.host.session older ≤ last_made w.host.session w.seen =
    subst (λ l. last_made w.host.session older ≤ last_made w.host.session l) (sym is) (last_more w.host.session newer older) in
    omega arith

pub loads_again : (w : HostWorld) (newer older : List LogItem) (what : Reading) → IsSoundWorld w → w.seen ≡ newer ++ older → is_telling w.host ≡ false
    → IsLoadingOf older w.host what → IsSoundWorld (comes w (Loads_again newer older what))
loads_again w newer older reading.Busy g is quiet m = g
loads_again w newer older reading.Renews g is quiet m = absurd m
loads_again w newer older reading.Ignores g is quiet m = g
loads_again w newer older reading.Misses g is quiet m = g
loads_again w newer older reading.Tells g is quiet m = by_found (is_open_in w.host.session older) m.2
  where
    by_found : (found : Bool) → (found ≡ true → (w.host.made < last_made w.host.session older) × IsSealed (last_made w.host.session older) w.host)
        → IsSoundWorld (record w { host = loaded_as reading.Tells found (last_made w.host.session older) w.host })
    by_found true k = absurd (not_less w newer older g is m.1.own (k refl).0)
    by_found false k = record { rest = loses_session w g.rest quiet m.1.own.goes; last = λ goes no_session. absurd (omega (arith, no_session)) }
