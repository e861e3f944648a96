use Rattle.std.proofs.Common.{◌≡◌, ◌∙◌, Bool, false, ℕ, List, nat_eq, Option, Some, Err, ap, sym}
use Rattle.std.specs.List.{starts_with}
use Rattle.hex.specs.Hex.{encode_lower}
use Rattle.replica.specs.declared.outcome.ReplicaFault.TheVariants.{Diverged}
use Rattle.replica.specs.Replicas.{judged}
use Rattle.replica.proofs.kept.judge.Goals as goal

diverged : (o : Option (List ℕ)) (digest : List ℕ) (before : Bool) (digits : List ℕ) → o ≡ Some digest → false ≡ starts_with nat_eq (encode_lower digest) digits
    → judged o before digits ≡ Err Diverged
diverged o digest before digits is other = ap (λ p. judged p before digits) is ∙ rw (← other)

pub returns-else-begins_with : goal.returns-else-begins_with
returns-else-begins_with c = sym (diverged c.args.digest c.in-Some.digest c.args.before c.args.digits.now c.in-Some.is c.if-begins_with.ensures)
