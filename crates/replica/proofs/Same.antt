-- One log makes one replica, and repeats change nothing.
use Rattle.std.proofs.Common.{◌≡◌, ℕ, true, leb, List, [], ◌∷◌, ◌++◌, Option, Some, sym, ap, ◌∙◌, subst, arith}
use Rattle.replica.specs.Entries.{Settings, Opened, Ended, Calls, Wanted, Announced}
use Rattle.replica.proofs.Whole.{texts_tell}
use Rattle.replica.specs.declared.outcome.Applied.{Applied}
use Rattle.replica.specs.declared.outcome.Outcome.TheVariants as outcome
use Rattle.replica.specs.Replicas.{Replica, applied, called, outcome_of, answers_at, at}
use Rattle.replica.specs.Laws.{Applies, Runs, OneLogIsOneReplica, RepeatsChangeNothing}
use Rattle.replica.proofs.Found.{found, found_used}

-- what is applied at one position is one entry
one_step : (position : ℕ) (bytes : List ℕ) (old : Replica) (before : List ℕ) (a b : Replica) (wa wb : Applied) (after_a after_b : List ℕ)
    → Applies position bytes old before a wa after_a → Applies position bytes old before b wb after_b → (a ≡ b) × (after_a ≡ after_b)
one_step position bytes old before a b wa wb after_a after_b x y =
    let same : x.entry ≡ y.entry = texts_tell x.entry y.entry x.next.good y.next.good (sym x.next.text ∙ y.next.text) in (
      x.made ∙ ap (applied old position) same ∙ sym y.made,
      x.answers ∙ ap (λ e. before ++ answers_at old e) same ∙ sym y.answers,
    )

pub one_replica : OneLogIsOneReplica
one_replica [] old a b before after_a after_b x y = (x.0 ∙ sym y.0, x.1 ∙ sym y.1)
one_replica (one ∷ log) old a b before after_a after_b x y =
    let step = one_step one.0 one.1 old before x.0 y.0 x.1 y.1 x.2 y.2 x.3 y.3 in
    one_replica log y.0 a b y.2 after_a after_b (subst (λ answers. Runs log y.0 answers a after_a) step.1 (subst (λ r. Runs log r x.2 a after_a) step.0 x.4)) y.4

-- a number that was made is not behind itself
repeated : (o : Option ℕ) (n : ℕ) → o ≡ Some n → outcome_of o n ≡ outcome.Repeated
repeated o n is = ap (λ p. outcome_of p n) is ∙ low n
  where
    low : (n : ℕ) → outcome_of (Some n) n ≡ outcome.Repeated
    low n = let le : leb n n ≡ true = grind (arith) in rw le

pub repeats : RepeatsChangeNothing
repeats r position again (Settings form pid_max model) is = cc is
repeats r position again Opened is = cc is
repeats r position again (Ended session) is = cc is
repeats r position again (Calls s n q d ls) is =
    let put : applied r position (Calls s n q d ls) ≡ at position (called r s n ls outcome.Made) = ap (λ o. at position (called r s n ls o)) is in
    let next = applied r position (Calls s n q d ls) in
    let here : found s next.log.sessions ≡ Some n = ap (λ (x : Replica). found s x.log.sessions) put ∙ found_used s n r.log.sessions in
    let what = repeated (found s next.log.sessions) n here in
    (what, ap (λ o. at again (called next s n ls o)) what)
repeats r position again Wanted is = cc is
repeats r position again (Announced p d b sum key) is = cc is
