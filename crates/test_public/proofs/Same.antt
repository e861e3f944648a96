-- Snapshots that show the same, of one state or of two.
use Rattle.std.proofs.Common.{◌≡◌, ◌+◌, ℕ, sym, ap, ◌∙◌, subst}
use Rattle.std.specs.Prelude.{map, []}
use Rattle.pid_types.specs.declared.plain.Plain.{Plain}
use Rattle.pid_types.specs.declared.call.Call.{Call}
use Rattle.pid_types.specs.State.{State}
use Rattle.pid_types.specs.Sound.{IsSound, IsBelow}
use Rattle.pid_types.specs.Outcome.{Outcome}
use Rattle.pid_types.specs.declared.reply.Reply.{Reply}
use Rattle.pid_types.specs.Step.{step}
use Rattle.model_laws.specs.StepLaws.{StepKeepsSoundness}
use Rattle.pid_types.specs.Shown.{Shows, with_count}
use Rattle.test_public.specs.Two.{ShowSame}

-- a snapshot that shows the same as one of the state shows the state
pub of_both : (s : State) (a b : Plain) → ShowSame a b → Shows s a → Shows s b
of_both s a b same shows = record {
  pid_max = sym same.pid_max ∙ shows.pid_max;
  rows = sym same.rows ∙ shows.rows;
  threads = shows.threads;
  left = shows.left;
  spaces = sym same.spaces ∙ shows.spaces;
  controls = sym same.controls ∙ shows.controls;
}

-- snapshots of one state show the same
pub alike : (s t : State) (a b : Plain) → s ≡ t → Shows s a → Shows t b → ShowSame a b
alike s t a b e one other = record {
  pid_max = one.pid_max ∙ ap (λ u. u.pid_max) e ∙ sym other.pid_max;
  rows = one.rows ∙ ap (λ u. u.rows) e ∙ sym other.rows;
  spaces = one.spaces ∙ ap (λ u. u.spaces) e ∙ sym other.spaces;
  controls = one.controls ∙ ap (λ u. map (with_count u) u.controls) e ∙ sym other.controls;
}

-- a state that a snapshot shows has no threads
pub threadless : (s t : State) (a : Plain) → s ≡ t → Shows s a → (t.threads ≡ [] → t.left ≡ [] → ⊥) → ⊥
threadless s t a e shows none = none (ap (λ u. u.threads) (sym e) ∙ shows.threads) (ap (λ u. u.left) (sym e) ∙ shows.left)

-- a call leaves a sound state, with ids below the next stamp
pub kept_by_step : StepKeepsSoundness → (s t : State) (stamp next : ℕ) (call : Call) → IsSound s × IsBelow stamp s → t ≡ (step s stamp call).state → next ≡ stamp + 1 → IsSound t × IsBelow next t
kept_by_step law s t stamp next call sound is plus =
    let after = (step s stamp call).state in
    subst (λ u. IsSound u × IsBelow next u) (sym is) (subst (λ n. IsSound after × IsBelow n after) (sym plus) (law s stamp call sound.0 sound.1))

-- what a call left and answered, where another table answered the same
pub answered_alike : (o : Outcome) (s : State) (fast plain : Reply) → s ≡ o.state → fast ≡ o.reply → fast ≡ plain → record { state = s; reply = plain } ≡ o
answered_alike o s fast plain is reply same = λ i. record { state = is i; reply = (sym same ∙ reply) i }
