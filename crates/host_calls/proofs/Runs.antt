-- Each run of the machine is sound, and what follows.
use Rattle.std.proofs.Common.{◌≡◌, ℕ, ◌<◌, ◌≤◌, Bool, true, false, ◌&&◌, List, [], ◌∷◌, refl, sym, ap, ◌∙◌, subst, arith, inl, inr}
use Rattle.std.specs.Prelude.{◌⊎◌, nat_lt}
use Rattle.std.proofs.lemmas.Bool.Decides.{nat_tests}
use Rattle.host_calls.specs.declared.call.CallState.{CallState}
use Rattle.host_calls.specs.declared.call.CallState.TheVariants as call
use Rattle.host_calls.specs.declared.call.HostCall.{HostCall}
use Rattle.host_calls.specs.declared.host.HostCalls.{HostCalls}
use Rattle.host_calls.specs.declared.step.Telling.TheVariants as telling
use Rattle.host_calls.specs.declared.step.Taken.{Taken}
use Rattle.host_calls.specs.declared.step.Taken.TheVariants as taken
use Rattle.host_calls.specs.declared.step.Told.{Told}
use Rattle.host_calls.specs.declared.step.Told.TheVariants as told
use Rattle.host_calls.specs.declared.step.Reading.{Reading}
use Rattle.host_calls.specs.declared.step.Reading.TheVariants as reading
use Rattle.host_calls.specs.Calls.{is_over, is_unmade, cancelled_state, given_up_state, cancelled, given_up}
use Rattle.host_calls.specs.Puts.{MayTake, took_in, took_call}
use Rattle.host_calls.specs.Reads.{is_telling, tells_some, read_as, loaded_as}
use Rattle.host_calls.specs.Tells.{MayTell, told_as, told_call}
use Rattle.host_calls.specs.LogRule.{PutEntry, LogItem, StandsAt, IsMadeAt, HasEntry, IsPut, last_made}
use Rattle.host_calls.specs.LogRule.LogItem.{Opens, Ends, Holds, Other}
use Rattle.host_calls.specs.HostWorld.{HostWorld, CallEvent, MayCome, AllMayCome, comes, comes_to, begun_world, whole_log, with_call}
use Rattle.host_calls.specs.HostWorld.CallEvent.{Submits, Takes, Cancels, Gives_up, Tells, Seals, Lands, Comes, Answers_open, Answers_put, Reads, Passes, Reads_again, Loads, Loads_again, Stops}
use Rattle.host_calls.specs.CallPromises.{IsComeBy, IsMadeOnce, AnswersAreTheLogs, PutsNoneThatIsUnmade, TellsOnce, TellsWhatWasRead}
use Rattle.host_calls.proofs.Logs.{by_test, void_never, made_has, made_last, made_once, has_back}
use Rattle.host_calls.proofs.SoundCalls.{is_unput, IsHome, AllLate, IsSoundWorld, call_case}
use Rattle.host_calls.proofs.Taking.{submits, acknowledges, seals, opens, opens_last}
use Rattle.host_calls.proofs.Growing.{lands, may_land_entry, may_land_others}
use Rattle.host_calls.proofs.Telling.{all_current, stops}
use Rattle.host_calls.proofs.Events.{takes, cancels, gives_up, tells}
use Rattle.host_calls.proofs.Reading.{reads, passes, reads_again, loads, loads_again}

pub sound_start : (calls : ℕ → HostCall) (log : List LogItem) → ((e : PutEntry) → HasEntry e log → ⊥) → IsSoundWorld (begun_world calls log)
sound_start calls log nobody =
    record {
      rest = record {
        host = record {
          told = omega arith;
          taken = omega arith;
          none = λ z. (refl, refl);
          sealed = omega arith;
          lines = λ (no : false ≡ true). cc;
          tickets = λ j p (no : false ≡ true). cc;
          stopped = λ (no : false ≡ true). cc;
          stops = λ (no : telling.Nothing ≡ telling.Stops). cc;
          due = λ (no : false ≡ true). cc;
        };
        log = record {
          opened = omega arith;
          there = omega arith;
          tells = λ (no : telling.Nothing ≡ telling.Answers). cc;
          late = late log nobody;
          put = λ e has. absurd (nobody e has);
        };
        puts = λ e put. absurd put;
        calls = λ j k. absurd (omega (arith, k));
        order = λ n i j ti ij jt. absurd (omega (arith, jt));
      };
      last = λ n some. absurd (omega (arith, some));
    }
  where
    late : (log : List LogItem) → ((e : PutEntry) → HasEntry e log → ⊥) → AllLate log
    late [] h = tt
    late (Opens ∷ log) h = late log (λ e g. h e (inr g))
    late (Ends s ∷ log) h = late log (λ e g. h e (inr g))
    late (Other ∷ log) h = late log (λ e g. h e (inr g))
    late (Holds o ∷ log) h = absurd (h o (inl refl))

-- the last number stays where neither the session nor the log changes
took_last : (w : HostWorld) (what : Taken) → IsSoundWorld w → MayTake w.host (w.calls w.host.taken) what → IsSoundWorld (comes w (Takes what))
took_last w taken.Refused g m = record { rest = takes w taken.Refused g.rest m; last = g.last }
took_last w taken.Passes g m = record { rest = takes w taken.Passes g.rest m; last = g.last }
took_last w taken.Begins g m = record { rest = takes w taken.Begins g.rest m; last = g.last }
took_last w taken.Joins g m = record { rest = takes w taken.Joins g.rest m; last = g.last }
took_last w taken.Fills g m = record { rest = takes w taken.Fills g.rest m; last = g.last }

told_last : (w : HostWorld) (what : Told) → IsSoundWorld w → MayTell w.host (w.calls w.host.told) what → IsSoundWorld (comes w (Tells what))
told_last w told.Refused g m = record { rest = tells w told.Refused g.rest m; last = g.last }
told_last w told.Passes g m = record { rest = tells w told.Passes g.rest m; last = g.last }
told_last w told.Answers g m = record { rest = tells w told.Answers g.rest m; last = g.last }
told_last w told.Loses g m = record { rest = tells w told.Loses g.rest m; last = g.last }
told_last w told.Drops g m = record { rest = tells w told.Drops g.rest m; last = g.last }
told_last w told.Ends g m = record { rest = tells w told.Ends g.rest m; last = g.last }

pub come : (w : HostWorld) (e : CallEvent) → IsSoundWorld w → MayCome w e → IsSoundWorld (comes w e)
come w (Submits lines size deadline) g m = record { rest = submits w lines size deadline g.rest m; last = g.last }
come w (Takes what) g m = took_last w what g m
come w (Cancels t) g m = record { rest = cancels w t g.rest; last = g.last }
come w (Gives_up t) g m = record { rest = gives_up w t g.rest; last = g.last }
come w (Tells what) g m = told_last w what g m
come w Seals g m = record { rest = seals w g.rest m; last = g.last }
come w (Lands e) g m = record { rest = lands w (Holds e) g.rest (may_land_entry w e g.rest m); last = g.last }
come w (Comes item) g m = record { rest = lands w item g.rest (may_land_others w item g.rest m); last = g.last }
come w (Answers_open session) g m = record { rest = opens w session g.rest m.0 m.1 m.2; last = opens_last w session g.rest m.1 }
come w Answers_put g m = record { rest = acknowledges w g.rest; last = g.last }
come w (Reads rest e what) g m = reads w g rest e m.0 what m.1 m.2
come w (Passes rest item) g m = passes w rest item g m.0 m.1
come w (Reads_again newer e older what) g m = reads_again w newer e older what g m.0 m.1 m.2
come w (Loads rest more what) g m = loads w g rest more m.0 what m.1 m.2
come w (Loads_again newer older what) g m = loads_again w newer older what g m.0 m.1 m.2
come w Stops g m = record { rest = stops w g.rest; last = λ (no : true ≡ false). cc }

all_come : (events : List CallEvent) (w : HostWorld) → IsSoundWorld w → AllMayCome w events → IsSoundWorld (comes_to w events)
all_come [] w g m = g
all_come (e ∷ events) w g m = all_come events (comes w e) (come w e g m.0) m.1

pub sound : (w : HostWorld) → IsComeBy w → IsSoundWorld w
sound w r = subst IsSoundWorld (sym r.now) (all_come r.events (begun_world r.calls r.log) (sound_start r.calls r.log r.nobody) r.may_come)

differs : true ≡ false → ⊥
differs h = cc

-- a call that the log has made is in the entry that made it
home_of : (w : HostWorld) → IsSoundWorld w → (t p k : ℕ) (e : PutEntry) → IsMadeAt (whole_log w) k e → StandsAt t p e.parts
    → (is_unput (w.calls t).state ≡ false) × IsHome (w.calls t).session (w.calls t).sequence (w.calls t).place e p
home_of w g t p k e made at =
    let put = g.rest.log.put e (made_has (whole_log w) k e made) in
    let there = (g.rest.puts e put).tickets t p at in
    let it = (g.rest.calls t there).entries e p put at in
    (it.0, elim it.1 [ inl h ↦ h | inr v ↦ absurd (void_never e w.ahead w.seen k v made) ])

pub is_made_once : (w : HostWorld) → IsSoundWorld w → IsMadeOnce w
is_made_once w g t p k j q e o made at other further =
    let one = home_of w g t p k e made at in
    let two = home_of w g t q j o other further in
    (made_once (whole_log w) k j e o made other (one.1.session ∙ sym two.1.session) (one.1.sequence ∙ sym two.1.sequence), one.1.place ∙ sym two.1.place)

pub answers_are : (w : HostWorld) → IsSoundWorld w → AnswersAreTheLogs w
answers_are w g t k is =
    let it = (g.rest.calls t k).answered is in
    (it.at, it.entry, it.made, it.session, it.sequence, it.stands)

pub puts_none : (w : HostWorld) → IsSoundWorld w → PutsNoneThatIsUnmade w
puts_none w g t p e k unmade put at = differs (sym (unput (w.calls t).state unmade) ∙ ((g.rest.calls t k).entries e p put at).0)
  where
    unput : (s : CallState) → is_unmade s ≡ true → is_unput s ≡ true
    unput call.Queued h = refl
    unput call.Entered h = h
    unput call.Answered h = h
    unput call.NotKnown h = h
    unput call.NotMade h = refl
    unput call.Cancelled h = refl

-- where nothing is told any more, a host that has stopped has told all
pub all_told : (h : HostCalls) → is_telling h ≡ false → h.telling ≡ telling.Stops → h.told_to ≤ h.told
all_told h quiet is = at_end h.told h.told_to (by (nat_lt h.told h.told_to) (subst (λ t. (tells_some t && nat_lt h.told h.told_to) ≡ false) is quiet))
  where
    by : (b : Bool) → (true && b) ≡ false → b ≡ false
    by true e = e
    by false e = refl

    at_end : (a b : ℕ) → nat_lt a b ≡ false → b ≤ a
    at_end a b h = grind (arith, nat_tests)

pub tells_what_was_read : (w : HostWorld) → IsSoundWorld w → TellsWhatWasRead w
tells_what_was_read w g quiet t p k e made at = by (w.calls t).state refl
  where
    put : IsPut e w.puts
    put = g.rest.log.put e (has_back w.ahead w.seen e (made_has w.seen k e made))

    there : t < w.host.submitted
    there = (g.rest.puts e put).tickets t p at

    unput_not : (s : CallState) → (w.calls t).state ≡ s → is_unput s ≡ true → ⊥
    unput_not s is h = differs (sym (subst (λ x. is_unput x ≡ true) (sym is) h) ∙ ((g.rest.calls t there).entries e p put at).0)

    home : IsHome (w.calls t).session (w.calls t).sequence (w.calls t).place e p
    home = elim ((g.rest.calls t there).entries e p put at).1 [ inl h ↦ h | inr v ↦ absurd (void_never e [] w.seen k v made) ]

    by_order : (a b : ℕ) → (a ≤ b) ⊎ (b < a)
    by_order a b = grind arith

    entered_not : (w.calls t).state ≡ call.Entered → ⊥
    entered_not q =
        let over : t < w.host.told → ⊥ = λ low. let no : false ≡ true = subst (λ s. is_over s ≡ true) q ((g.rest.calls t there).told low) in cc in
        by_test w.host.is_stopped
        (λ s. let old = g.rest.host.stopped s in over (omega (arith, all_told w.host quiet old.tells, old.to, there)))
        (λ goes. elim (by_order w.host.taken t) [
          | inl high ↦ void_never e [] w.seen k ((g.rest.calls t there).again q high e p put at) made
          | inr low ↦ elim (by_order w.host.told t) [
            | inr before ↦ over before
            | inl behind ↦
                let cur = all_current w g.rest quiet goes t there behind low q in
                let last = made_last w.seen k e made in
                let S : e.session ≡ w.host.session = home.session ∙ cur.session in
                let is : last_made e.session w.seen ≡ w.host.made = subst (λ s. last_made s w.seen ≡ w.host.made) (sym S) (g.last goes cur.some) in
                omega (arith, cur.unmade, home.sequence)
          ]
        ])

    by : (s : CallState) → (w.calls t).state ≡ s → is_over (w.calls t).state ≡ true
    by call.Queued is = absurd (unput_not call.Queued is refl)
    by call.NotMade is = absurd (unput_not call.NotMade is refl)
    by call.Cancelled is = absurd (unput_not call.Cancelled is refl)
    by call.Entered is = absurd (entered_not is)
    by call.Answered is = ap is_over is
    by call.NotKnown is = ap is_over is

-- a call that is over stays as it is
same_if : (t u : ℕ) (c : HostCall) (calls : ℕ → HostCall) → (t ≡ u → c ≡ calls u) → with_call u c calls t ≡ calls t
same_if t u c calls h = call_case (λ d. d ≡ calls t) u t c calls (λ is. h is ∙ ap calls (sym is)) (λ other. refl)

abbrev pub IsOverAt : HostWorld → ℕ → Type 0
IsOverAt w t = is_over (w.calls t).state ≡ true

live_not : (w : HostWorld) (t u : ℕ) {P : Type 0} → IsOverAt w t → is_over (w.calls u).state ≡ false → t ≡ u → P
live_not w t u over live is = absurd (differs (sym over ∙ (ap (λ i. is_over (w.calls i).state) is ∙ live)))

cancelled_same : (c : HostCall) → is_over c.state ≡ true → cancelled c ≡ c
cancelled_same c over = ap (λ s. record c { state = s }) (by c.state over)
  where
    by : (s : CallState) → is_over s ≡ true → cancelled_state s ≡ s
    by call.Queued h = cc
    by call.Entered h = refl
    by call.Answered h = refl
    by call.NotKnown h = refl
    by call.NotMade h = refl
    by call.Cancelled h = refl

given_up_same : (c : HostCall) → is_over c.state ≡ true → given_up c ≡ c
given_up_same c over = ap (λ s. record c { state = s }) (by c.state over)
  where
    by : (s : CallState) → is_over s ≡ true → given_up_state s ≡ s
    by call.Queued h = cc
    by call.Entered h = cc
    by call.Answered h = refl
    by call.NotKnown h = refl
    by call.NotMade h = refl
    by call.Cancelled h = refl

took_same : (w : HostWorld) (t : ℕ) (what : Taken) → IsOverAt w t → MayTake w.host (w.calls w.host.taken) what → t ≡ w.host.taken
    → took_call what w.host (w.calls w.host.taken) ≡ w.calls w.host.taken
took_same w t taken.Refused over m is = refl
took_same w t taken.Passes over m is = refl
took_same w t taken.Fills over m is = refl
took_same w t taken.Begins over m is = live_not w t w.host.taken over m.0.live is
took_same w t taken.Joins over m is = live_not w t w.host.taken over m.0.live is

told_same : (w : HostWorld) (t : ℕ) (what : Told) → IsOverAt w t → MayTell w.host (w.calls w.host.told) what → t ≡ w.host.told
    → told_call what (w.calls w.host.told) ≡ w.calls w.host.told
told_same w t told.Refused over m is = refl
told_same w t told.Passes over m is = refl
told_same w t told.Ends over m is = refl
told_same w t told.Answers over m is = live_not w t w.host.told over m.live is
told_same w t told.Loses over m is = live_not w t w.host.told over m.live is
told_same w t told.Drops over m is = live_not w t w.host.told over m.live is

call_same : (w : HostWorld) (e : CallEvent) (t : ℕ) → t < w.host.submitted → IsOverAt w t → MayCome w e → (comes w e).calls t ≡ w.calls t
call_same w (Submits lines size deadline) t k over m = same_if t w.host.submitted _ w.calls (λ is. absurd (omega (arith, is, k)))
call_same w (Takes what) t k over m = same_if t w.host.taken _ w.calls (took_same w t what over m)
call_same w (Cancels u) t k over m = same_if t u _ w.calls (λ is. cancelled_same (w.calls u) (subst (λ i. is_over (w.calls i).state ≡ true) is over))
call_same w (Gives_up u) t k over m = same_if t u _ w.calls (λ is. given_up_same (w.calls u) (subst (λ i. is_over (w.calls i).state ≡ true) is over))
call_same w (Tells what) t k over m = same_if t w.host.told _ w.calls (told_same w t what over m)
call_same w Seals t k over m = refl
call_same w (Lands e) t k over m = refl
call_same w (Comes item) t k over m = refl
call_same w (Answers_open session) t k over m = refl
call_same w Answers_put t k over m = refl
call_same w (Reads rest e what) t k over m = refl
call_same w (Passes rest item) t k over m = refl
call_same w (Reads_again newer e older what) t k over m = refl
call_same w (Loads rest more what) t k over m = refl
call_same w (Loads_again newer older what) t k over m = refl
call_same w Stops t k over m = refl

-- no call is forgotten
took_number : (what : Taken) (h : HostCalls) (c : HostCall) → (took_in what h c).submitted ≡ h.submitted
took_number taken.Refused h c = refl
took_number taken.Passes h c = refl
took_number taken.Begins h c = refl
took_number taken.Joins h c = refl
took_number taken.Fills h c = refl

told_number : (what : Told) (h : HostCalls) → (told_as what h).submitted ≡ h.submitted
told_number told.Refused h = refl
told_number told.Passes h = refl
told_number told.Answers h = refl
told_number told.Loses h = refl
told_number told.Drops h = refl
told_number told.Ends h = refl

read_number : (what : Reading) (S N : ℕ) (h : HostCalls) → (read_as what S N h).submitted ≡ h.submitted
read_number reading.Busy S N h = refl
read_number reading.Ignores S N h = refl
read_number reading.Tells S N h = refl
read_number reading.Renews S N h = refl
read_number reading.Misses S N h = refl

loaded_number : (what : Reading) (found : Bool) (last : ℕ) (h : HostCalls) → (loaded_as what found last h).submitted ≡ h.submitted
loaded_number reading.Busy found last h = refl
loaded_number reading.Ignores found last h = refl
loaded_number reading.Tells true last h = refl
loaded_number reading.Tells false last h = refl
loaded_number reading.Renews found last h = refl
loaded_number reading.Misses found last h = refl

at_least : (a b : ℕ) → a ≡ b → b ≤ a
at_least a b h = omega arith

number_stays : (w : HostWorld) (e : CallEvent) → w.host.submitted ≤ (comes w e).host.submitted
number_stays w (Submits lines size deadline) = omega arith
number_stays w (Takes what) = at_least _ _ (took_number what w.host (w.calls w.host.taken))
number_stays w (Cancels u) = omega arith
number_stays w (Gives_up u) = omega arith
number_stays w (Tells what) = at_least _ _ (told_number what w.host)
number_stays w Seals = omega arith
number_stays w (Lands e) = omega arith
number_stays w (Comes item) = omega arith
number_stays w (Answers_open session) = omega arith
number_stays w Answers_put = omega arith
number_stays w (Reads rest e what) = at_least _ _ (read_number what e.session e.sequence w.host)
number_stays w (Passes rest item) = omega arith
number_stays w (Reads_again newer e older what) = at_least _ _ (read_number what e.session e.sequence w.host)
number_stays w (Loads rest more what) = at_least _ _ (loaded_number what _ _ w.host)
number_stays w (Loads_again newer older what) = at_least _ _ (loaded_number what _ _ w.host)
number_stays w Stops = omega arith

pub tells_once : (w : HostWorld) → TellsOnce w
tells_once w t [] k over m = refl
tells_once w t (e ∷ events) k over m =
    let same = call_same w e t k over m.0 in
    let more = number_stays w e in
    tells_once (comes w e) t events (omega (arith, k)) (subst (λ c. is_over c.state ≡ true) (sym same) over) m.1 ∙ same
