-- What comes loses no call.
use Rattle.std.proofs.Common.{◌≡◌, ℕ, ◌+◌, ◌<◌, ◌≤◌, ◌++◌, Bool, true, false, eqb, List, [], ◌∷◌, length, refl, sym, ap, ◌∙◌, subst, arith, inl, inr, zero, suc}
use Rattle.std.specs.Prelude.{◌⊎◌, if◌then◌else◌}
use Rattle.std.proofs.lemmas.Bool.Decides.{nat_tests}
use Rattle.host_calls.specs.declared.call.CallState.{CallState}
use Rattle.host_calls.specs.declared.call.CallState.TheVariants as call
use Rattle.host_calls.specs.declared.call.HostCall.{HostCall}
use Rattle.host_calls.specs.declared.host.HostCalls.{HostCalls}
use Rattle.host_calls.specs.declared.step.LogOutcome.{LogOutcome}
use Rattle.host_calls.specs.declared.step.LogOutcome.TheVariants as outcome
use Rattle.host_calls.specs.declared.step.Telling.{Telling}
use Rattle.host_calls.specs.declared.step.Telling.TheVariants as telling
use Rattle.host_calls.specs.declared.step.Reading.{Reading}
use Rattle.host_calls.specs.declared.step.Reading.TheVariants as reading
use Rattle.host_calls.specs.declared.step.Taken.{Taken}
use Rattle.host_calls.specs.declared.step.Taken.TheVariants as taken
use Rattle.host_calls.specs.declared.step.Told.{Told}
use Rattle.host_calls.specs.declared.step.Told.TheVariants as told
use Rattle.host_calls.specs.Calls.{is_over, cancelled_state, given_up_state}
use Rattle.host_calls.specs.Puts.{submitted_as, MayTake, took_in, took_call}
use Rattle.host_calls.specs.Reads.{is_telling, still_putting, IsSealed, SaysNothing, IsReading, loaded_as}
use Rattle.host_calls.specs.Tells.{told_as}
use Rattle.host_calls.specs.LogRule.{PutEntry, LogItem, HasEntry, IsPut, is_open_in, last_made, outcome_in}
use Rattle.host_calls.specs.LogRule.LogItem.{Opens, Ends, Holds, Other}
use Rattle.host_calls.specs.HostWorld.{HostWorld, CallEvent, MayCome, HasEntryNumbered, IsOthers, IsLoadingOf, comes, whole_log, with_call, sealed_entry}
use Rattle.host_calls.specs.HostWorld.CallEvent.{Submits, Takes, Cancels, Gives_up, Tells, Seals, Lands, Comes, Answers_open, Answers_put, Reads, Passes, Reads_again, Loads, Loads_again, Stops}
use Rattle.host_calls.proofs.Logs.{by_test, same, made_is, last_has, has_back, has_front, repeated_is, gap_is}
use Rattle.host_calls.proofs.SoundCalls.{IsCurrent, IsSoundWorld, call_case}
use Rattle.host_calls.proofs.Changes.{restated, entered_same}
use Rattle.host_calls.proofs.Growing.{same_whole}
use Rattle.host_calls.proofs.Reading.{late_back, late_has, not_again, not_missed, not_less, loaded, is_next}
use Rattle.host_calls.proofs.Held.{IsFollowing, AllFollowing, following_back, all_made, IsHeldIn, IsBegunBehind, IsThereIfPut, IsReadUp, IsKeptWorld, number_back, number_split, held_same}

differs : true ≡ false → ⊥
differs h = cc

-- a call changes its state, and none comes into an entry by that
restates : (w : HostWorld) (t : ℕ) (s : CallState) → IsKeptWorld w → (s ≡ call.Entered → (w.calls t).state ≡ call.Entered) → IsKeptWorld (restated w t s)
restates w t s g h =
    record {
      chain = g.chain;
      puts = g.puts;
      begun = g.begun;
      there = g.there;
      read = g.read;
      held = held_same w.host w.calls (restated w t s).calls w.ahead (entered_same t s w.calls h) g.held;
    }

submits : (w : HostWorld) (lines size deadline : ℕ) → IsSoundWorld w → IsKeptWorld w → IsKeptWorld (comes w (Submits lines size deadline))
submits w lines size deadline s g =
    record {
      chain = g.chain;
      puts = g.puts;
      begun = g.begun;
      there = g.there;
      read = g.read;
      held = held_same w.host w.calls (comes w (Submits lines size deadline)).calls w.ahead
          (λ i. call_case (λ c. c.state ≡ call.Entered → c ≡ w.calls i) w.host.submitted i (submitted_as lines size deadline w.host) w.calls
          (λ is (no : call.Queued ≡ call.Entered). cc) (λ other e. refl)) g.held;
    }

-- the call that has its turn is in the entry that is made up
filled_held : (w : HostWorld) (h : HostCalls) (c : HostCall) → h.is_filling ≡ true → c.sequence ≡ h.sequence → (j : ℕ)
    → (j < w.host.taken → (w.calls j).state ≡ call.Entered → IsCurrent h.session h.made h.sequence (w.calls j).session (w.calls j).sequence
    → IsHeldIn h w.ahead (w.calls j).session (w.calls j).sequence)
    → (with_call w.host.taken c w.calls j).state ≡ call.Entered → j < w.host.taken + 1
    → IsCurrent h.session h.made h.sequence (with_call w.host.taken c w.calls j).session (with_call w.host.taken c w.calls j).sequence
    → IsHeldIn h w.ahead (with_call w.host.taken c w.calls j).session (with_call w.host.taken c w.calls j).sequence
filled_held w h c filling last j old =
    call_case (λ d. d.state ≡ call.Entered → j < w.host.taken + 1 → IsCurrent h.session h.made h.sequence d.session d.sequence → IsHeldIn h w.ahead d.session d.sequence)
    w.host.taken j c w.calls
    (λ is e k cur. inl (inl filling, last))
    (λ other e k cur. old (below j w.host.taken k other) e cur)
  where
    below : (j t : ℕ) → j < t + 1 → (j ≡ t → ⊥) → j < t
    below j t h n = elim (cases j t h) [ inl a ↦ a | inr b ↦ absurd (n b) ]
      where
        cases : (j t : ℕ) → j < t + 1 → (j < t) ⊎ (j ≡ t)
        cases j t h = grind arith

takes : (w : HostWorld) (what : Taken) → IsSoundWorld w → IsKeptWorld w → MayTake w.host (w.calls w.host.taken) what → IsKeptWorld (comes w (Takes what))
takes w taken.Refused s g m = restates w w.host.taken (w.calls w.host.taken).state g (λ e. e)
takes w taken.Passes s g m =
    let old = restates w w.host.taken (w.calls w.host.taken).state g (λ e. e) in
    record {
      chain = old.chain;
      puts = old.puts;
      begun = old.begun;
      there = old.there;
      read = old.read;
      held = λ j e n t b. elim (split j w.host.taken b) [
        | inl low ↦ old.held j e n t low
        | inr here ↦ absurd (not_over j here e)
      ];
    }
  where
    split : (j t : ℕ) → j < t + 1 → (j < t) ⊎ (j ≡ t)
    split j t h = grind arith

    not_over : (j : ℕ) → j ≡ w.host.taken → (with_call w.host.taken (w.calls w.host.taken) w.calls j).state ≡ call.Entered → ⊥
    not_over j is =
        call_case (λ c. c.state ≡ call.Entered → ⊥) w.host.taken j (w.calls w.host.taken) w.calls
        (λ same e. over (w.calls w.host.taken).state e m.1) (λ other. absurd (other is))
      where
        over : (s : CallState) → s ≡ call.Entered → is_over s ≡ true → ⊥
        over s e o = let no : false ≡ true = subst (λ x. is_over x ≡ true) e o in cc
takes w taken.Begins s g m =
    record {
      chain = g.chain;
      puts = g.puts;
      begun = λ f n is some.
          subst (λ k. HasEntryNumbered w.host.session k (whole_log w)) (same n w.host.sequence is)
          (g.there m.0.next.goes m.1 m.0.next.not_putting m.0.next.session (omega arith));
      there = λ n (no : true ≡ false). cc;
      read = g.read;
      held = λ j e n t b cur.
          filled_held w (took_in taken.Begins w.host (w.calls w.host.taken)) (took_call taken.Begins w.host (w.calls w.host.taken)) refl refl j
          (λ low q now. old j low q n t now) e b cur;
    }
  where
    same : (n k : ℕ) → k + 1 ≡ n + 1 → k ≡ n
    same n k h = omega arith

    old : (j : ℕ) → j < w.host.taken → (w.calls j).state ≡ call.Entered → w.host.is_stopped ≡ false → w.host.told ≤ j
        → IsCurrent w.host.session w.host.made (w.host.sequence + 1) (w.calls j).session (w.calls j).sequence
        → IsHeldIn (took_in taken.Begins w.host (w.calls w.host.taken)) w.ahead (w.calls j).session (w.calls j).sequence
    old j low q n t cur =
        let k : j < w.host.submitted = omega (arith, low, s.rest.host.taken) in
        let before = (s.rest.calls j k).begun cur.some cur.session in
        elim (g.held j q n t low (record { some = cur.some; session = cur.session; unmade = cur.unmade; begun = before })) [
          | inl here ↦ elim here.0 [ inl f ↦ absurd (differs (sym f ∙ m.1)) | inr p ↦ absurd (differs (sym p ∙ m.0.next.not_putting)) ]
          | inr there ↦ inr there
        ]
takes w taken.Joins s g m =
    record {
      chain = g.chain;
      puts = g.puts;
      begun = g.begun;
      there = g.there;
      read = g.read;
      held = λ j e n t b cur.
          filled_held w (took_in taken.Joins w.host (w.calls w.host.taken)) (took_call taken.Joins w.host (w.calls w.host.taken)) m.1 refl j
          (λ low q now. g.held j q n t low now) e b cur;
    }
takes w taken.Fills s g m =
    let old = restates w w.host.taken (w.calls w.host.taken).state g (λ e. e) in
    record { chain = old.chain; puts = old.puts; begun = old.begun; there = old.there; read = old.read; held = old.held }

tells : (w : HostWorld) (what : Told) → IsKeptWorld w → IsKeptWorld (comes w (Tells what))
tells w what g = by what
  where
    -- a call more is told
    one : (s : CallState) → (s ≡ call.Entered → (w.calls w.host.told).state ≡ call.Entered) → IsKeptWorld (record (restated w w.host.told s) { host = told_as told.Passes w.host })
    one s h =
        let old = restates w w.host.told s g h in
        record {
          chain = old.chain;
          puts = old.puts;
          begun = old.begun;
          there = old.there;
          read = old.read;
          held = λ j e n t b cur. old.held j e n (omega (arith, t)) b cur;
        }

    by : (what : Told) → IsKeptWorld (comes w (Tells what))
    by told.Refused = restates w w.host.told (w.calls w.host.told).state g (λ e. e)
    by told.Passes = one (w.calls w.host.told).state (λ e. e)
    by told.Answers = one call.Answered (λ (no : call.Answered ≡ call.Entered). cc)
    by told.Loses = one call.NotKnown (λ (no : call.NotKnown ≡ call.Entered). cc)
    by told.Drops = one call.NotMade (λ (no : call.NotMade ≡ call.Entered). cc)
    by told.Ends =
        let old = restates w w.host.told (w.calls w.host.told).state g (λ e. e) in
        record { chain = old.chain; puts = old.puts; begun = old.begun; there = old.there; read = old.read; held = old.held }

seals : (w : HostWorld) → IsKeptWorld w → w.host.is_filling ≡ true → IsKeptWorld (comes w Seals)
seals w g filling =
    record {
      chain = g.chain;
      puts = puts;
      begun = λ (no : false ≡ true). cc;
      there = λ n f (no : true ≡ false). cc;
      read = g.read;
      held = λ j e n t b cur. elim (g.held j e n t b cur) [ inl here ↦ inl (inr refl, here.1) | inr there ↦ inr there ];
    }
  where
    puts : (e : PutEntry) → IsPut e (sealed_entry w ∷ w.puts) → IsFollowing e (whole_log w)
    puts e (inl is) = subst (λ x. IsFollowing x (whole_log w)) (sym is) (g.begun filling)
    puts e (inr put) = g.puts e put

lands : (w : HostWorld) (item : LogItem) → IsKeptWorld w → AllFollowing (item ∷ whole_log w) → IsKeptWorld (record w { ahead = item ∷ w.ahead })
lands w item g chain =
    record {
      chain = chain;
      puts = λ e put n is some. number_back (item ∷ []) (whole_log w) e.session n (g.puts e put n is some);
      begun = λ f n is some. number_back (item ∷ []) (whole_log w) w.host.session n (g.begun f n is some);
      there = λ n f p some one. number_back (item ∷ []) (whole_log w) w.host.session w.host.sequence (g.there n f p some one);
      read = g.read;
      held = λ j e n t b cur. elim (g.held j e n t b cur) [
        | inl here ↦ inl here
        | inr there ↦ inr (number_back (item ∷ []) w.ahead (w.calls j).session (w.calls j).sequence there)
      ];
    }

others_follow : (w : HostWorld) (item : LogItem) → IsKeptWorld w → IsOthers item → AllFollowing (item ∷ whole_log w)
others_follow w Opens g m = g.chain
others_follow w (Ends s) g m = g.chain
others_follow w (Holds e) g m = absurd m
others_follow w Other g m = g.chain

opens : (w : HostWorld) (session : ℕ) → IsSoundWorld w → IsKeptWorld w → w.host.session ≡ 0 → w.opened < session → IsKeptWorld (comes w (Answers_open session))
opens w session s g closed later =
    record {
      chain = g.chain;
      puts = g.puts;
      begun = λ f. absurd (differs (sym f ∙ (s.rest.host.none closed).0));
      there = λ n f p some one. absurd (omega (arith, one));
      read = λ n some e has is.
          absurd (omega (arith, (s.rest.puts e (s.rest.log.put e (has_back w.ahead w.seen e has))).opened, is));
      held = λ j e n t b cur. absurd (omega (arith, cur.session, (s.rest.calls j (omega (arith, b, s.rest.host.taken))).opened));
    }

acknowledges : (w : HostWorld) → IsKeptWorld w → HasEntryNumbered w.host.session w.host.sequence (whole_log w) → IsKeptWorld (comes w Answers_put)
acknowledges w g has =
    record {
      chain = g.chain;
      puts = g.puts;
      begun = g.begun;
      there = λ n f p some one. has;
      read = g.read;
      held = λ j e n t b cur. elim (g.held j e n t b cur) [
        | inr there ↦ inr there
        | inl here ↦ elim here.0 [ inl f ↦ inl (inl f, here.1) | inr p ↦ inr (unread j n cur here.1) ]
      ];
    }
  where
    unread : (j : ℕ) → w.host.is_stopped ≡ false → IsCurrent w.host.session w.host.made w.host.sequence (w.calls j).session (w.calls j).sequence
        → (w.calls j).sequence ≡ w.host.sequence → HasEntryNumbered (w.calls j).session (w.calls j).sequence w.ahead
    unread j n cur is = elim (number_split w.ahead w.seen w.host.session w.host.sequence has) [
      | inl it ↦ (it.0, it.1, it.2 ∙ sym cur.session, it.3 ∙ sym is)
      | inr it ↦ absurd (omega (arith, g.read n cur.some it.0 it.1 it.2, it.3, is, cur.unmade))
    ]

-- a host whose session is none has nothing in entries
gone_now : (w : HostWorld) (h : HostCalls) → IsKeptWorld w → h.session ≡ 0 → h.is_filling ≡ false → IsKeptWorld (record w { host = h })
gone_now w h g closed free =
    record {
      chain = g.chain;
      puts = g.puts;
      begun = λ f. absurd (differs (sym f ∙ free));
      there = λ n f p some one. absurd (omega (arith, some, closed));
      read = λ n some. absurd (omega (arith, some, closed));
      held = λ j e n t b cur. absurd (omega (arith, cur.some, closed));
    }

-- what is said of the whole log stays where it is read on
module _ (w : HostWorld) (g : IsKeptWorld w) (rest more : List LogItem) (ahead : w.ahead ≡ rest ++ more) where
  whole : whole_log w ≡ rest ++ (more ++ w.seen)
  whole = sym (same_whole w rest more ahead)

  chain_on : AllFollowing (rest ++ (more ++ w.seen))
  chain_on = subst AllFollowing whole g.chain

  puts_on : (e : PutEntry) → IsPut e w.puts → IsFollowing e (rest ++ (more ++ w.seen))
  puts_on e put = subst (IsFollowing e) whole (g.puts e put)

  begun_on : IsBegunBehind w.host (rest ++ (more ++ w.seen))
  begun_on = subst (IsBegunBehind w.host) whole g.begun

  there_on : IsThereIfPut w.host (rest ++ (more ++ w.seen))
  there_on = subst (IsThereIfPut w.host) whole g.there

  -- an entry that was not read is not read now, if what was read was made
  unread : (M : ℕ) → ((e : PutEntry) → HasEntry e (more ++ w.seen) → e.session ≡ w.host.session → e.sequence ≤ M) → (j : ℕ)
      → IsCurrent w.host.session M w.host.sequence (w.calls j).session (w.calls j).sequence → HasEntryNumbered (w.calls j).session (w.calls j).sequence w.ahead
      → HasEntryNumbered (w.calls j).session (w.calls j).sequence rest
  unread M read j cur there =
      elim (number_split rest more (w.calls j).session (w.calls j).sequence (subst (λ l. HasEntryNumbered (w.calls j).session (w.calls j).sequence l) ahead there)) [
        | inl it ↦ it
        | inr it ↦
            let has = has_front more w.seen it.0 it.1 in
            absurd (omega (arith, read it.0 has (it.2 ∙ cur.session), it.3, cur.unmade))
      ]

  -- where the host stays as it is, what was read of its session was made
  stays_on : IsReadUp w.host (more ++ w.seen) → IsKeptWorld (record w { ahead = rest; seen = more ++ w.seen })
  stays_on read =
      record {
        chain = chain_on;
        puts = puts_on;
        begun = begun_on;
        there = there_on;
        read = read;
        held = λ j e n t b cur. elim (g.held j e n t b cur) [
          | inl here ↦ inl here
          | inr there ↦ inr (unread w.host.made (read n cur.some) j cur there)
        ];
      }

  -- the host goes on to a number that was made there, up to which it has read
  goes_to : (T : Telling) (S N : ℕ) → w.host.made < N → HasEntryNumbered w.host.session N (more ++ w.seen)
      → ((e : PutEntry) → HasEntry e (more ++ w.seen) → e.session ≡ w.host.session → e.sequence ≤ N)
      → IsKeptWorld (record w {
        host = record w.host { made = N; telling = T; told_session = S; told_sequence = N; told_to = w.host.taken; is_putting = still_putting N w.host };
        ahead = rest;
        seen = more ++ w.seen;
      })
  goes_to T S N high has read =
      record {
        chain = chain_on;
        puts = puts_on;
        begun = begun_on;
        there = λ n f p some one.
            by_test (eqb N w.host.sequence)
            (λ is. number_back rest (more ++ w.seen) w.host.session w.host.sequence (subst (λ k. HasEntryNumbered w.host.session k (more ++ w.seen)) (same N w.host.sequence is) has))
            (λ other. there_on n f (subst (λ t. (if t then false else w.host.is_putting) ≡ false) other p) some one);
        read = λ n some. read;
        held = λ j e n t b cur.
            elim (g.held j e n t b (record { some = cur.some; session = cur.session; unmade = omega (arith, cur.unmade); begun = cur.begun })) [
              | inr there ↦ inr (unread N read j cur there)
              | inl here ↦ elim here.0 [
                | inl f ↦ inl (inl f, here.1)
                | inr p ↦
                    let other : eqb N w.host.sequence ≡ false = differ N w.host.sequence (omega (arith, cur.unmade, here.1)) in
                    inl (inr (subst (λ t. (if t then false else w.host.is_putting) ≡ true) (sym other) p), here.1)
              ]
            ];
      }
    where
      differ : (a b : ℕ) → a < b → eqb a b ≡ false
      differ a b h = grind (arith, nat_tests)

  -- its session is none any more
  goes_none : (h : HostCalls) → h.session ≡ 0 → h.is_filling ≡ false → IsKeptWorld (record w { host = h; ahead = rest; seen = more ++ w.seen })
  goes_none h closed free =
      record {
        chain = chain_on;
        puts = puts_on;
        begun = λ f. absurd (differs (sym f ∙ free));
        there = λ n f p some one. absurd (omega (arith, some, closed));
        read = λ n some. absurd (omega (arith, some, closed));
        held = λ j e n t b cur. absurd (omega (arith, cur.some, closed));
      }

held_entry : (e o : PutEntry) → Holds e ≡ Holds o → e ≡ o
held_entry e o h = cc

reads : (w : HostWorld) (rest : List LogItem) (e : PutEntry) (what : Reading) → IsSoundWorld w → IsKeptWorld w → (ahead : w.ahead ≡ rest ++ Holds e ∷ [])
    → is_telling w.host ≡ false → IsReading (outcome_in e w.seen) e.session e.sequence w.host what → IsKeptWorld (comes w (Reads rest e what))
reads w rest e reading.Busy s g ahead quiet m = absurd (differs (sym m ∙ quiet))
reads w rest e reading.Ignores s g ahead quiet m =
    stays_on w g rest (Holds e ∷ []) ahead (λ n some. up n some)
  where
    last : w.host.is_stopped ≡ false → 0 < w.host.session → e.session ≡ w.host.session → last_made e.session w.seen ≡ w.host.made
    last n some own = subst (λ x. last_made x w.seen ≡ w.host.made) (sym own) (s.last n some)

    low : w.host.is_stopped ≡ false → 0 < w.host.session → e.session ≡ w.host.session → (o : LogOutcome) → outcome_in e w.seen ≡ o
        → SaysNothing o e.session e.sequence w.host → e.sequence ≤ w.host.made
    low n some own outcome.Made is m = absurd (m (is_next w s rest e ahead n own (made_is e w.seen is)))
    low n some own outcome.Repeated is m = omega (arith, repeated_is e w.seen is, last n some own)
    low n some own outcome.Gone is m = absurd (m (record { goes = n; some = omega (arith, some, own); own = own }))
    low n some own outcome.Gap is m = absurd (m (record { goes = n; some = omega (arith, some, own); own = own }))

    up : w.host.is_stopped ≡ false → 0 < w.host.session → (x : PutEntry) → HasEntry x (Holds e ∷ w.seen) → x.session ≡ w.host.session → x.sequence ≤ w.host.made
    up n some x (inl h) is =
        let it : e ≡ x = held_entry e x h in
        subst (λ y. y.sequence ≤ w.host.made) it (low n some (ap (λ y. y.session) it ∙ is) (outcome_in e w.seen) refl m.1)
    up n some x (inr has) is = g.read n some x has is
reads w rest e reading.Tells s g ahead quiet m =
    goes_to w g rest (Holds e ∷ []) ahead telling.Answers e.session e.sequence (omega (arith, m.2.next)) (e, inl refl, m.2.own.own, refl) up
  where
    up : (x : PutEntry) → HasEntry x (Holds e ∷ w.seen) → x.session ≡ w.host.session → x.sequence ≤ e.sequence
    up x (inl h) is = subst (λ y. y.sequence ≤ e.sequence) (held_entry e x h) (omega arith)
    up x (inr has) is = omega (arith, g.read m.2.own.goes (omega (arith, m.2.own.some, m.2.own.own)) x has is, m.2.next)
reads w rest e reading.Renews s g ahead quiet m = goes_none w g rest (Holds e ∷ []) ahead _ refl refl
reads w rest e reading.Misses s g ahead quiet m =
    let last : last_made e.session w.seen ≡ w.host.made =
    subst (λ x. last_made x w.seen ≡ w.host.made) (sym m.2.own) (s.last m.2.goes (omega (arith, m.2.some, m.2.own))) in
    let high = gap_is e w.seen m.1 in
    let before = previous e.sequence (last_made e.session w.seen) high in
    let follows : IsFollowing e w.seen = (following_back rest (Holds e ∷ w.seen) (chain_on w g rest (Holds e ∷ []) ahead)).0 in
    let it = follows before.0 before.1 (omega (arith, before.2)) in
    absurd (omega (arith, g.read m.2.goes (omega (arith, m.2.some, m.2.own)) it.0 it.1 (it.2 ∙ m.2.own), it.3, before.2))
  where
    previous : (a b : ℕ) → b + 1 < a → (n : ℕ) × (a ≡ n + 1) × (b < n)
    previous zero b h = absurd (omega arith)
    previous (suc a) b h = (a, omega arith, omega arith)

passes : (w : HostWorld) (rest : List LogItem) (item : LogItem) → IsKeptWorld w → w.ahead ≡ rest ++ item ∷ [] → IsOthers item → IsKeptWorld (comes w (Passes rest item))
passes w rest item g ahead others = stays_on w g rest (item ∷ []) ahead (λ n some. up n some)
  where
    up : w.host.is_stopped ≡ false → 0 < w.host.session → (x : PutEntry) → HasEntry x (item ∷ w.seen) → x.session ≡ w.host.session → x.sequence ≤ w.host.made
    up n some x (inl h) is = absurd (subst IsOthers h others)
    up n some x (inr has) is = g.read n some x has is

reads_again : (w : HostWorld) (newer : List LogItem) (e : PutEntry) (older : List LogItem) (what : Reading) → IsSoundWorld w → IsKeptWorld w
    → w.seen ≡ newer ++ Holds e ∷ older → IsReading (outcome_in e older) e.session e.sequence w.host what → IsKeptWorld (comes w (Reads_again newer e older what))
reads_again w newer e older reading.Busy s g is m = g
reads_again w newer e older reading.Ignores s g is m = g
reads_again w newer e older reading.Misses s g is m = g
reads_again w newer e older reading.Tells s g is m = absurd (not_again w newer e older s is m.1 m.2)
reads_again w newer e older reading.Renews s g is m = gone_now w _ g refl refl

module _ (w : HostWorld) (s : IsSoundWorld w) (g : IsKeptWorld w) (rest more : List LogItem) (ahead : w.ahead ≡ rest ++ more) where
  -- in a snapshot that has the session open, all of it is made
  all_made_there : is_open_in w.host.session (more ++ w.seen) ≡ true → (e : PutEntry) → HasEntry e (more ++ w.seen) → e.session ≡ w.host.session
      → e.sequence ≤ last_made w.host.session (more ++ w.seen)
  all_made_there found e has is =
      all_made w.host.session (more ++ w.seen) e (late_back rest (more ++ w.seen) (loaded w s rest more ahead).log.late)
      (following_back rest (more ++ w.seen) (chain_on w g rest more ahead)) found has is

  by_place : (a b : ℕ) → (a ≤ b) ⊎ (b < a)
  by_place a b = grind arith

  loads_as : (found : Bool) → is_open_in w.host.session (more ++ w.seen) ≡ found
      → (found ≡ true → w.host.made < last_made w.host.session (more ++ w.seen))
      → IsKeptWorld (record w { host = loaded_as reading.Tells found (last_made w.host.session (more ++ w.seen)) w.host; ahead = rest; seen = more ++ w.seen })
  loads_as true is m =
      goes_to w g rest more ahead telling.Losses w.host.session (last_made w.host.session (more ++ w.seen)) (m refl)
      (last_has w.host.session (more ++ w.seen) (omega (arith, m refl))) (all_made_there is)
  loads_as false is m = goes_none w g rest more ahead _ refl refl

  loads : (what : Reading) → is_telling w.host ≡ false → IsLoadingOf (more ++ w.seen) w.host what → IsKeptWorld (comes w (Loads rest more what))
  loads reading.Busy quiet m = absurd (differs (sym m ∙ quiet))
  loads reading.Renews quiet m = absurd m
  loads reading.Misses quiet m = absurd (not_missed w s rest more ahead m.3 m.4)
  loads reading.Tells quiet m = loads_as (is_open_in w.host.session (more ++ w.seen)) refl (λ f. (m.2 f).0)
  loads reading.Ignores quiet m =
      stays_on w g rest more ahead (λ n some e has is. elim (by_place w.host.session (length (more ++ w.seen))) [
        | inl low ↦
            let it = m.1 (record { own = record { goes = n; some = some; own = refl }; there = low }) in
            omega (arith, all_made_there it.0 e has is, it.1)
        | inr high ↦ absurd (omega (arith, late_has (more ++ w.seen) e (late_back rest (more ++ w.seen) (loaded w s rest more ahead).log.late) has, is))
      ])

loads_again : (w : HostWorld) (newer older : List LogItem) (what : Reading) → IsSoundWorld w → IsKeptWorld w → w.seen ≡ newer ++ older
    → IsLoadingOf older w.host what → IsKeptWorld (comes w (Loads_again newer older what))
loads_again w newer older reading.Busy s g is m = g
loads_again w newer older reading.Renews s g is m = absurd m
loads_again w newer older reading.Ignores s g is m = g
loads_again w newer older reading.Misses s g is m = g
loads_again w newer older reading.Tells s g is m = by_found (is_open_in w.host.session older) m.2
  where
    by_found : (found : Bool) → (found ≡ true → (w.host.made < last_made w.host.session older) × IsSealed (last_made w.host.session older) w.host)
        → IsKeptWorld (record w { host = loaded_as reading.Tells found (last_made w.host.session older) w.host })
    by_found true k = absurd (not_less w newer older s is m.1.own (k refl).0)
    by_found false k = gone_now w _ g refl refl

stops : (w : HostWorld) → IsKeptWorld w → IsKeptWorld (comes w Stops)
stops w g =
    record {
      chain = g.chain;
      puts = g.puts;
      begun = λ (no : false ≡ true). cc;
      there = λ (no : true ≡ false). cc;
      read = λ (no : true ≡ false). cc;
      held = λ j e (no : true ≡ false). cc;
    }

cancel_enters : (s : CallState) → cancelled_state s ≡ call.Entered → s ≡ call.Entered
cancel_enters call.Queued h = cc
cancel_enters call.Entered h = h
cancel_enters call.Answered h = h
cancel_enters call.NotKnown h = h
cancel_enters call.NotMade h = h
cancel_enters call.Cancelled h = h

give_up_enters : (s : CallState) → given_up_state s ≡ call.Entered → s ≡ call.Entered
give_up_enters call.Queued h = cc
give_up_enters call.Entered h = refl
give_up_enters call.Answered h = h
give_up_enters call.NotKnown h = h
give_up_enters call.NotMade h = h
give_up_enters call.Cancelled h = h

pub keeps : (w : HostWorld) (e : CallEvent) → IsSoundWorld w → IsKeptWorld w → MayCome w e → IsKeptWorld (comes w e)
keeps w (Submits lines size deadline) s g m = submits w lines size deadline s g
keeps w (Takes what) s g m = takes w what s g m
keeps w (Cancels t) s g m = restates w t (cancelled_state (w.calls t).state) g (cancel_enters (w.calls t).state)
keeps w (Gives_up t) s g m = restates w t (given_up_state (w.calls t).state) g (give_up_enters (w.calls t).state)
keeps w (Tells what) s g m = tells w what g
keeps w Seals s g m = seals w g m.some
keeps w (Lands e) s g m = lands w (Holds e) g (g.puts e m, g.chain)
keeps w (Comes item) s g m = lands w item g (others_follow w item g m)
keeps w (Answers_open session) s g m = opens w session s g m.0.none m.1
keeps w Answers_put s g m = acknowledges w g m.1
keeps w (Reads rest e what) s g m = reads w rest e what s g m.0 m.1 m.2
keeps w (Passes rest item) s g m = passes w rest item g m.0 m.1
keeps w (Reads_again newer e older what) s g m = reads_again w newer e older what s g m.0 m.2
keeps w (Loads rest more what) s g m = loads w s g rest more m.0 what m.1 m.2
keeps w (Loads_again newer older what) s g m = loads_again w newer older what s g m.0 m.2
keeps w Stops s g m = stops w g
