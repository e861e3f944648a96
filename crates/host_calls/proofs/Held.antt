-- No call is lost: what was put is put still, or stands in the log where it was not read.
use Rattle.std.proofs.Common.{◌≡◌, ℕ, ◌+◌, ◌<◌, ◌≤◌, ◌++◌, Bool, true, false, ◌||◌, not, eqb, zero, suc, List, [], ◌∷◌, length, refl, sym, ap, ◌∙◌, subst, arith, inl, inr}
use Rattle.std.specs.Prelude.{◌⊎◌}
use Rattle.std.proofs.lemmas.Bool.Decides.{nat_tests}
use Rattle.host_calls.specs.declared.call.CallState.TheVariants as call
use Rattle.host_calls.specs.declared.call.HostCall.{HostCall}
use Rattle.host_calls.specs.declared.host.HostCalls.{HostCalls}
use Rattle.host_calls.specs.LogRule.{PutEntry, LogItem, HasEntry, IsPut, is_open_in, last_made}
use Rattle.host_calls.specs.LogRule.LogItem.{Opens, Ends, Holds, Other}
use Rattle.host_calls.specs.HostWorld.{HostWorld, HasEntryNumbered, whole_log}
use Rattle.host_calls.proofs.Logs.{by_test, same, both, last_more, has_back, has_split}
use Rattle.host_calls.proofs.SoundCalls.{AllLate, IsCurrent}
use Rattle.host_calls.proofs.Reading.{late_has}

-- an entry with a number comes behind one with the number before
abbrev pub IsFollowing : PutEntry → List LogItem → Type 0
IsFollowing e log = (n : ℕ) → e.sequence ≡ n + 1 → 0 < n → HasEntryNumbered e.session n log

abbrev pub AllFollowing : List LogItem → Type 0
AllFollowing [] = Unit {0}
AllFollowing (Holds e ∷ log) = IsFollowing e log × AllFollowing log
AllFollowing (Opens ∷ log) = AllFollowing log
AllFollowing (Ends s ∷ log) = AllFollowing log
AllFollowing (Other ∷ log) = AllFollowing log

pub following_back : (newer older : List LogItem) → AllFollowing (newer ++ older) → AllFollowing older
following_back [] older h = h
following_back (Opens ∷ newer) older h = following_back newer older h
following_back (Ends s ∷ newer) older h = following_back newer older h
following_back (Other ∷ newer) older h = following_back newer older h
following_back (Holds e ∷ newer) older h = following_back newer older h.1

-- the next number is made, and a lower one was
made_there : (S : ℕ) (o : PutEntry) (log : List LogItem) → o.session ≡ S → is_open_in S log ≡ true → IsFollowing o log
    → ((x : PutEntry) → HasEntry x log → x.session ≡ S → x.sequence ≤ last_made S log) → o.sequence ≤ last_made S (Holds o ∷ log)
made_there S o log own now follows before =
    by_test (eqb o.sequence (last_made S log + 1))
    (λ next. let here : eqb S o.session ≡ true = self S o.session (sym own) in
    let is : o.sequence ≡ last_made S log + 1 = same _ _ next in rw (here, now, next) (omega arith))
    (λ other. omega (arith, last_more S (Holds o ∷ []) log, lower o.sequence (last_made S log) most other))
  where
    self : (a b : ℕ) → a ≡ b → eqb a b ≡ true
    self a b h = grind (arith, nat_tests)

    lower : (a b : ℕ) → a ≤ b + 1 → eqb a (b + 1) ≡ false → a ≤ b
    lower a b h t = grind (arith, nat_tests)

    cases : (a : ℕ) → (a ≤ 1) ⊎ ((n : ℕ) × (a ≡ n + 1) × (0 < n))
    cases zero = inl (omega arith)
    cases (suc a) = elim (two a) [ inl low ↦ inl (omega arith) | inr high ↦ inr (a, omega arith, high) ]
      where
        two : (a : ℕ) → (a ≤ 0) ⊎ (0 < a)
        two a = grind arith

    most : o.sequence ≤ last_made S log + 1
    most = elim (cases o.sequence) [
      | inl low ↦ omega arith
      | inr high ↦ let it = follows high.0 high.1 high.2 in omega (arith, high.1, before it.0 it.1 (it.2 ∙ own), it.3)
    ]

-- where a session is open, each of its entries that the log has was made, or was made before
pub all_made : (S : ℕ) (log : List LogItem) (e : PutEntry) → AllLate log → AllFollowing log → is_open_in S log ≡ true → HasEntry e log → e.session ≡ S
    → e.sequence ≤ last_made S log
all_made S [] e late chain now has is = absurd has
all_made S (Opens ∷ log) e late chain now (inl h) is = cc
all_made S (Opens ∷ log) e late chain now (inr has) is =
    all_made S log e late chain (before (is_open_in S log) (not_here S (length log) (omega (arith, late_has log e late has, is))) now) has is
  where
    not_here : (a b : ℕ) → a < b → eqb a (b + 1) ≡ false
    not_here a b h = grind (arith, nat_tests)

    before : (b : Bool) → {a : Bool} → a ≡ false → (a || b) ≡ true → b ≡ true
    before true f h = refl
    before false f h = rw f at h
all_made S (Ends s ∷ log) e late chain now (inl h) is = cc
all_made S (Ends s ∷ log) e late chain now (inr has) is = all_made S log e late chain (both (not (eqb S s)) (is_open_in S log) now).1 has is
all_made S (Other ∷ log) e late chain now (inl h) is = cc
all_made S (Other ∷ log) e late chain now (inr has) is = all_made S log e late chain now has is
all_made S (Holds o ∷ log) e late chain now (inr has) is =
    omega (arith, all_made S log e late.1 chain.1 now has is, last_more S (Holds o ∷ []) log)
all_made S (Holds o ∷ log) e late chain now (inl h) is =
    subst (λ x. x.sequence ≤ last_made S (Holds o ∷ log)) (entry_same o e h)
    (made_there S o log (ap (λ x. x.session) (entry_same o e h) ∙ is) now chain.0 (λ x has own. all_made S log x late.1 chain.1 now has own))
  where
    entry_same : (o e : PutEntry) → Holds o ≡ Holds e → o ≡ e
    entry_same o e h = cc

-- the call with the session and the number is in the entry that is made up or put, or in one that was not read
abbrev pub IsHeldIn : HostCalls → List LogItem → ℕ → ℕ → Type 0
IsHeldIn h ahead s n = (((h.is_filling ≡ true) ⊎ (h.is_putting ≡ true)) × (n ≡ h.sequence)) ⊎ HasEntryNumbered s n ahead

abbrev pub AreHeld : HostCalls → (ℕ → HostCall) → List LogItem → Type 0
AreHeld h calls ahead =
    (j : ℕ) → (calls j).state ≡ call.Entered → h.is_stopped ≡ false → h.told ≤ j → j < h.taken
    → IsCurrent h.session h.made h.sequence (calls j).session (calls j).sequence → IsHeldIn h ahead (calls j).session (calls j).sequence

-- the number before the one that is made up is in the log; and the last one, where it is not put any more
abbrev pub IsBegunBehind : HostCalls → List LogItem → Type 0
IsBegunBehind h whole = h.is_filling ≡ true → (n : ℕ) → h.sequence ≡ n + 1 → 0 < n → HasEntryNumbered h.session n whole

abbrev pub IsThereIfPut : HostCalls → List LogItem → Type 0
IsThereIfPut h whole =
    h.is_stopped ≡ false → h.is_filling ≡ false → h.is_putting ≡ false → 0 < h.session → 0 < h.sequence → HasEntryNumbered h.session h.sequence whole

-- what was read of the session that is open was made
abbrev pub IsReadUp : HostCalls → List LogItem → Type 0
IsReadUp h seen = h.is_stopped ≡ false → 0 < h.session → (e : PutEntry) → HasEntry e seen → e.session ≡ h.session → e.sequence ≤ h.made

pub record IsKeptWorld (w : HostWorld) : Type 0 where
  pub chain : AllFollowing (whole_log w)
  pub puts : (e : PutEntry) → IsPut e w.puts → IsFollowing e (whole_log w)
  pub begun : IsBegunBehind w.host (whole_log w)
  pub there : IsThereIfPut w.host (whole_log w)
  pub read : IsReadUp w.host w.seen
  pub held : AreHeld w.host w.calls w.ahead

pub number_back : (newer log : List LogItem) (s n : ℕ) → HasEntryNumbered s n log → HasEntryNumbered s n (newer ++ log)
number_back newer log s n h = (h.0, has_back newer log h.0 h.1, h.2, h.3)

pub number_split : (newer log : List LogItem) (s n : ℕ) → HasEntryNumbered s n (newer ++ log) → HasEntryNumbered s n newer ⊎ HasEntryNumbered s n log
number_split newer log s n h = elim (has_split newer log h.0 h.1) [ inl a ↦ inl (h.0, a, h.2, h.3) | inr b ↦ inr (h.0, b, h.2, h.3) ]

-- calls that are in entries as they were
pub held_same : (h : HostCalls) (calls now : ℕ → HostCall) (ahead : List LogItem) → ((j : ℕ) → (now j).state ≡ call.Entered → now j ≡ calls j) → AreHeld h calls ahead
    → AreHeld h now ahead
held_same h calls now ahead same g j e =
    subst (λ c. h.is_stopped ≡ false → h.told ≤ j → j < h.taken → IsCurrent h.session h.made h.sequence c.session c.sequence → IsHeldIn h ahead c.session c.sequence)
    (sym (same j e)) (g j (subst (λ c. c.state ≡ call.Entered) (same j e) e))
