use Rattle.std.proofs.Common.{◌≡◌, ◌++◌, ◌∙◌, List, ℕ, subst}
use Rattle.sha2.specs.Hashers.{Holds256}
use Rattle.pid_script.specs.Script.{with_newline}
use Rattle.replica.proofs.Written.{on_ok}
use Rattle.replica.proofs.lines.make_line.Goals as goal

-- a line is hashed, and then its answer
both : (Before Between After : List ℕ → Type 0) (line told answer : List ℕ) → ((m : List ℕ) → Before m → Between (m ++ with_newline line))
    → ((m : List ℕ) → Between m → After (m ++ with_newline told)) → told ≡ answer → (m : List ℕ) → Before m → After ((m ++ with_newline line) ++ with_newline answer)
both Before Between After line told answer first second is m held =
    subst (λ a. After ((m ++ with_newline line) ++ with_newline a)) is (second (m ++ with_newline line) (first m held))

pub returns-clause-hashed : goal.returns-clause-hashed
returns-clause-hashed c =
    on_ok c.push_line.result (λ _.
    both (Holds256 c.args.hasher.now) (Holds256 c.hash_line.new.hasher) (Holds256 c.hash_line-2.new.hasher) _ _ _ c.hash_line.ensures c.hash_line-2.ensures
    (c.as_slice.ensures.value ∙ c.in_ok-answer.ensures.answer)) c.push_line.ensures
