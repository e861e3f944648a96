use Rattle.std.proofs.Common.{◌≡◌, ◌≤◌, ◌∙◌, ℕ, Option, Some, ap, sym}
use Rattle.std.proofs.lemmas.Bool.{le-leb}
use Rattle.replica.specs.declared.outcome.Outcome.TheVariants as outcome
use Rattle.replica.specs.Replicas.{outcome_of}
use Rattle.replica.proofs.replica.outcome_behind.Goals as goal

repeated : (o : Option ℕ) (last n : ℕ) → o ≡ Some last → n ≤ last → outcome.Repeated ≡ outcome_of o n
repeated o last n is few = sym (ap (λ p. outcome_of p n) is ∙ rw (le-leb n last few))

pub returns-in_default : goal.returns-in_default
returns-in_default c = sym (ap (λ (o : Option ℕ). outcome_of o c.args.sequence) c.in_default.is)

pub returns-then-sequence-last : goal.returns-then-sequence-last
returns-then-sequence-last c = repeated c.args.last c.in-Some.last c.args.sequence c.in-Some.is c.if-sequence-last.true
