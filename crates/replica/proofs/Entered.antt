-- An entry of calls, by what became of it.
use Rattle.std.proofs.Common.{◌≡◌, ℕ, eqb, List, ◌++◌, Result, Ok, Err, IfOk, ap, ◌∙◌}
use Rattle.std.specs.Map.{lookup}
use Rattle.replica.specs.Entries.{Calls}
use Rattle.replica.specs.declared.outcome.Outcome.{Outcome}
use Rattle.replica.specs.Replicas.{Replica, called, made_answers, outcome_of}
use Rattle.replica.specs.Applied.{Enters}

pub entered_calls : {E : Type 0} (r : Result Outcome E) (old new : Replica) (position session n q : ℕ) (d : List ℕ) (ls : List (List ℕ)) (before after : List ℕ)
    → IfOk r (λ what. what ≡ outcome_of (lookup (λ s. eqb session s) old.log.sessions) n) → IfOk r (λ what. new ≡ called old session n ls what)
    → IfOk r (λ what. after ≡ before ++ made_answers old ls what) → IfOk r (λ what. Enters (Calls session n q d ls) position old before new what after)
entered_calls (Ok what) old new position session n q d ls before after outcome called_so answers = record {
  made = called_so ∙ ap (called old session n ls) outcome;
  outcome = outcome;
  answers = answers ∙ ap (λ w. before ++ made_answers old ls w) outcome;
}
entered_calls (Err e) old new position session n q d ls before after outcome called_so answers = tt
