-- A step moves no namespace, and lets no fallen one stand again.
use Rattle.model_laws.proofs.Words.{◌≡◌, ◌⊎◌, ◌||◌, ℕ, Bool, true, false, List, [], ◌∷◌, ◌++◌, refl, sym, ap, ◌∙◌, inl, inr, arith, Call, Space, State, Outcome, with_row, without_row, with_control, without_control, with_limit, with_cursors, fall, step, is_within, IsIn, IsBelow, IsSound}
use Rattle.model_laws.proofs.Ground.{IsIn-from_map, space_at-Some, unique_key}
use Rattle.model_laws.proofs.Lists.{IsIn-append}
use Rattle.model_laws.proofs.Calls.{Comes, still, born, born_first, fell, handed_on, waits, reaped, grouped, led, executed, control_made, control_removed, limit_set, moved, joined, joined_other, marked}
use Rattle.model_laws.proofs.Refusals.{step_comes}
use Rattle.model_laws.proofs.Sweeps.{from_kept}
use Rattle.pid_types.specs.Changes.{after_exec, with_home}
use Rattle.pid_types.specs.Exit.{handed_over}
use Rattle.call_effects.specs.Touched.{KeepsParents}

-- the namespace was there, in the same place, and has fallen where it had
record WasThere (olds : List Space) (t : Space) : Type 0 where
  pub was : Space
  pub there : IsIn was olds
  pub id : t.id ≡ was.id
  pub parent : t.parent ≡ was.parent
  pub fallen : was.fallen ≡ true → t.fallen ≡ true

-- or it is new, with the stamp
abbrev IsFrom : List Space → ℕ → Space → Type 0
IsFrom olds stamp t = WasThere olds t ⊎ (t.id ≡ stamp)

itself : (olds : List Space) (stamp : ℕ) (t : Space) → IsIn t olds → IsFrom olds stamp t
itself olds stamp t i = inl (record { was = t; there = i; id = refl; parent = refl; fallen = λ e. e })

stays_fallen : (b c : Bool) → b ≡ true → (b || c) ≡ true
stays_fallen true c e = refl
stays_fallen false c e = absurd (cc)

all_from : (state : State) (stamp : ℕ) (call : Call) (o : Outcome) → Comes state stamp call o → (t : Space) → IsIn t o.state.spaces → IsFrom state.spaces stamp t
unfolding with_row without_row with_control without_control with_limit with_cursors fall after_exec handed_over with_home
all_from state stamp call o (still _ reply answer) t i = itself state.spaces stamp t i
all_from state stamp call o (waits _ _ caller there none) t i = itself state.spaces stamp t i
all_from state stamp call o (fell n status caller there deep one) t i =
    let m = IsIn-from_map _ t state.spaces (from_kept _ t i).0 in
    inl (record {
      was = m.0;
      there = m.1;
      id = ap (λ (s : Space). s.id) m.2;
      parent = ap (λ (s : Space). s.parent) m.2;
      fallen = λ e. ap (λ (s : Space). s.fallen) m.2 ∙ stays_fallen m.0.fallen (is_within state.spaces m.0.id caller.name.space) e;
    })
all_from state stamp call o (born n new_space caller _ found stands may) t i =
    let m = IsIn-from_map _ t state.spaces (from_kept _ t i).0 in
    inl (record { was = m.0; there = m.1; id = ap (λ (s : Space). s.id) m.2; parent = ap (λ (s : Space). s.parent) m.2; fallen = λ e. ap (λ (s : Space). s.fallen) m.2 ∙ e })
all_from state stamp call o (born_first n caller found stands shallow here may) t i =
    let m = IsIn-from_map _ t (state.spaces ++ _ ∷ []) (from_kept _ t i).0 in
    elim (IsIn-append m.0 state.spaces (_ ∷ []) m.1) [
      | inl j ↦ inl (record { was = m.0; there = j; id = ap (λ (s : Space). s.id) m.2; parent = ap (λ (s : Space). s.parent) m.2; fallen = λ e. ap (λ (s : Space). s.fallen) m.2 ∙ e })
      | inr k ↦ elim k [ inl e ↦ inr (ap (λ (s : Space). s.id) m.2 ∙ ap (λ (s : Space). s.id) e) | inr none ↦ absurd none ]
    ]
all_from state stamp call o (handed_on _ _ caller there none) t i = itself state.spaces stamp t (from_kept _ t i).0
all_from state stamp call o (reaped _ _ caller gone there least) t i = itself state.spaces stamp t (from_kept _ t i).0
all_from state stamp call o (grouped _ _ _ caller target group there aimed leads same own found) t i = itself state.spaces stamp t (from_kept _ t i).0
all_from state stamp call o (led _ caller there none) t i = itself state.spaces stamp t (from_kept _ t i).0
all_from state stamp call o (executed n caller found) t i = itself state.spaces stamp t (from_kept _ t i).0
all_from state stamp call o (control_made parent c found shallow) t i = itself state.spaces stamp t (from_kept _ t i).0
all_from state stamp call o (control_removed id parent c found under idle) t i = itself state.spaces stamp t (from_kept _ t i).0
all_from state stamp call o (limit_set id parent limit c found under good) t i = itself state.spaces stamp t (from_kept _ t i).0
all_from state stamp call o (moved n id task c found there) t i = itself state.spaces stamp t (from_kept _ t i).0
all_from state stamp call o (joined n target caller row found there live none) t i = itself state.spaces stamp t (from_kept _ t i).0
all_from state stamp call o (joined_other n target caller row u found there live some) t i = itself state.spaces stamp t (from_kept _ t i).0
all_from state stamp call o (marked n on caller found) t i = itself state.spaces stamp t (from_kept _ t i).0

pub keeps_spaces : (state : State) (stamp : ℕ) (call : Call) → IsSound state → IsBelow stamp state → KeepsParents state (step state stamp call).state
keeps_spaces state stamp call sound below id s t here there = go (all_from state stamp call (step state stamp call) (step_comes state stamp call) t new.0)
  where
    old : IsIn s state.spaces × (s.id ≡ id)
    old = space_at-Some state.spaces id s here

    new : IsIn t (step state stamp call).state.spaces × (t.id ≡ id)
    new = space_at-Some (step state stamp call).state.spaces id t there

    go : IsFrom state.spaces stamp t → (t.parent ≡ s.parent) × (s.fallen ≡ true → t.fallen ≡ true)
    go (inl w) =
        let same : w.was ≡ s = unique_key (λ (x : Space). x.id) state.spaces sound.coherent.spaces.rising w.was s w.there old.0 (sym w.id ∙ new.1 ∙ sym old.1) in
        (w.parent ∙ ap (λ (x : Space). x.parent) same, λ e. w.fallen (ap (λ (x : Space). x.fallen) same ∙ e))
    go (inr young) = absurd (let lt = below.spaces s old.0 in let a = old.1 in let b = new.1 in omega (arith, lt, a, b, young))
