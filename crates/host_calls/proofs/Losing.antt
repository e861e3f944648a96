-- Each run of the machine loses no call.
use Rattle.std.proofs.Common.{◌≡◌, ℕ, ◌<◌, ◌≤◌, true, false, List, [], ◌∷◌, refl, sym, ◌∙◌, subst, arith, inl, inr}
use Rattle.std.specs.Prelude.{◌⊎◌}
use Rattle.host_calls.specs.declared.call.CallState.{CallState}
use Rattle.host_calls.specs.declared.call.CallState.TheVariants as call
use Rattle.host_calls.specs.declared.call.HostCall.{HostCall}
use Rattle.host_calls.specs.Calls.{is_over}
use Rattle.host_calls.specs.LogRule.{PutEntry, LogItem, HasEntry}
use Rattle.host_calls.specs.LogRule.LogItem.{Opens, Ends, Holds, Other}
use Rattle.host_calls.specs.HostWorld.{HostWorld, CallEvent, AllMayCome, comes, comes_to, begun_world}
use Rattle.host_calls.specs.CallPromises.{IsComeBy, IsHeldBy, IsComing, LosesNone, TellsAllInTheEnd}
use Rattle.host_calls.proofs.Logs.{by_test, has_front}
use Rattle.host_calls.proofs.SoundCalls.{IsSoundWorld}
use Rattle.host_calls.proofs.Telling.{all_current}
use Rattle.host_calls.proofs.Runs.{sound_start, come, all_told}
use Rattle.host_calls.proofs.Held.{AllFollowing, IsKeptWorld}
use Rattle.host_calls.proofs.Keeping.{keeps}

kept_start : (calls : ℕ → HostCall) (log : List LogItem) → ((e : PutEntry) → HasEntry e log → ⊥) → IsKeptWorld (begun_world calls log)
kept_start calls log nobody =
    record {
      chain = chain log nobody;
      puts = λ e put. absurd put;
      begun = λ (no : false ≡ true). cc;
      there = λ n f p some. absurd (omega (arith, some));
      read = λ n some. absurd (omega (arith, some));
      held = λ j e n t b. absurd (omega (arith, b));
    }
  where
    chain : (log : List LogItem) → ((e : PutEntry) → HasEntry e log → ⊥) → AllFollowing log
    chain [] h = tt
    chain (Opens ∷ log) h = chain log (λ e g. h e (inr g))
    chain (Ends s ∷ log) h = chain log (λ e g. h e (inr g))
    chain (Other ∷ log) h = chain log (λ e g. h e (inr g))
    chain (Holds o ∷ log) h = absurd (h o (inl refl))

pub record IsKeptSound (w : HostWorld) : Type 0 where
  pub sound : IsSoundWorld w
  pub kept : IsKeptWorld w

all_kept : (events : List CallEvent) (w : HostWorld) → IsKeptSound w → AllMayCome w events → IsKeptSound (comes_to w events)
all_kept [] w g m = g
all_kept (e ∷ events) w g m =
    all_kept events (comes w e) (record { sound = come w e g.sound m.0; kept = keeps w e g.sound g.kept m.0 }) m.1

pub kept : (w : HostWorld) → IsComeBy w → IsKeptSound w
kept w r =
    subst IsKeptSound (sym r.now)
    (all_kept r.events (begun_world r.calls r.log) (record { sound = sound_start r.calls r.log r.nobody; kept = kept_start r.calls r.log r.nobody }) r.may_come)

pub loses_none : (w : HostWorld) → IsKeptSound w → LosesNone w
loses_none w g quiet t k live = by (w.calls t).state refl
  where
    s : IsSoundWorld w
    s = g.sound

    not_told : t < w.host.told → ⊥
    not_told low = let no : true ≡ false = sym ((s.rest.calls t k).told low) ∙ live in cc

    not_stopped : w.host.is_stopped ≡ true → ⊥
    not_stopped h = let old = s.rest.host.stopped h in not_told (omega (arith, all_told w.host quiet old.tells, old.to, k))

    goes : w.host.is_stopped ≡ false
    goes = by_test w.host.is_stopped (λ h. absurd (not_stopped h)) (λ h. h)

    by_order : (a b : ℕ) → (a ≤ b) ⊎ (b < a)
    by_order a b = grind arith

    behind : w.host.told ≤ t
    behind = elim (by_order w.host.told t) [ inl high ↦ high | inr low ↦ absurd (not_told low) ]

    in_entry : (w.calls t).state ≡ call.Entered → t < w.host.taken → IsHeldBy w t ⊎ IsComing w t
    in_entry q low =
        let cur = all_current w s.rest quiet goes t k behind low q in
        elim (g.kept.held t q goes behind low cur) [
          | inl here ↦ inl (inr (here.0, cur.session, here.1))
          | inr it ↦ inr (it.0, it.1, (s.rest.calls t k).content q it.0 (s.rest.log.put it.0 (has_front w.ahead w.seen it.0 it.1)) it.2 it.3)
        ]

    not_over : (x : CallState) → (w.calls t).state ≡ x → is_over x ≡ true → IsHeldBy w t ⊎ IsComing w t
    not_over x is over = let no : true ≡ false = sym (subst (λ y. is_over y ≡ true) (sym is) over) ∙ live in cc

    by : (x : CallState) → (w.calls t).state ≡ x → IsHeldBy w t ⊎ IsComing w t
    by call.Queued is = inl (inl ((s.rest.calls t k).waits is goes))
    by call.Entered is = elim (by_order w.host.taken t) [ inl high ↦ inl (inl high) | inr low ↦ in_entry is low ]
    by call.Answered is = not_over call.Answered is refl
    by call.NotKnown is = not_over call.NotKnown is refl
    by call.NotMade is = not_over call.NotMade is refl
    by call.Cancelled is = not_over call.Cancelled is refl

-- where nothing is to be put, and all was read, each call is over
pub tells_all : (w : HostWorld) → IsKeptSound w → TellsAllInTheEnd w
tells_all w g quiet rest read t k =
    by_test (is_over (w.calls t).state) (λ over. over) (λ live. absurd (nowhere live (loses_none w g quiet t k live)))
  where
    differs : true ≡ false → ⊥
    differs h = cc

    not_stopped : is_over (w.calls t).state ≡ false → w.host.is_stopped ≡ true → ⊥
    not_stopped live h =
        let old = g.sound.rest.host.stopped h in
        let over = (g.sound.rest.calls t k).told (omega (arith, all_told w.host quiet old.tells, old.to, k)) in
        differs (sym over ∙ live)

    nowhere : is_over (w.calls t).state ≡ false → IsHeldBy w t ⊎ IsComing w t → ⊥
    nowhere live (inr it) = subst (HasEntry it.0) read it.1
    nowhere live (inl (inl waits)) = elim rest [ inl stopped ↦ not_stopped live stopped | inr none ↦ omega (arith, none.2, waits, k) ]
    nowhere live (inl (inr it)) = elim rest [
      | inl stopped ↦ not_stopped live stopped
      | inr none ↦ elim it.0 [ inl f ↦ differs (sym f ∙ none.1) | inr p ↦ differs (sym p ∙ none.0) ]
    ]
