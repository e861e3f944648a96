-- Facts on tests, options and numbers that the proofs of many crates cite.
use Rattle.std.proofs.Common.{◌≡◌, ◌≢◌, ℕ, Bool, true, false, ◌&&◌, ◌==◌, Option, Some, None, refl, ap, ◌∙◌, arith}
use Rattle.std.specs.Prelude.{is_some}
use Rattle.std.specs.Option.{option_eq}
use Rattle.std.proofs.lemmas.Bool.{eq-eqb, eqb-true}

-- two numbers that differ are told apart
pub apart : (a b : ℕ) → a ≢ b → (a == b) ≡ false
apart a b differ = grind (arith, differ)

-- two tests that hold together hold each
pub both : (a b : Bool) → (a && b) ≡ true → (a ≡ true) × (b ≡ true)
both true b e = (refl, e)
both false b e = absurd (cc)

-- what an option has that has something
pub held : {X : Type 0} (o : Option X) → is_some o ≡ true → (x : X) × (o ≡ Some x)
held None e = absurd (cc)
held (Some x) e = (x, refl)

-- an option that has nothing
pub nothing : {X : Type 0} (o : Option X) → is_some o ≡ false → o ≡ None
nothing None e = refl
nothing (Some x) e = absurd (cc)

-- an option that is tested for a number, and has it
pub some_number : (o : Option ℕ) (n : ℕ) → option_eq ◌==◌ o (Some n) ≡ true → o ≡ Some n
some_number None n e = absurd (cc)
some_number (Some m) n e = ap Some (eqb-true m n e)

pub number_tested : (o : Option ℕ) (n : ℕ) → o ≡ Some n → option_eq ◌==◌ o (Some n) ≡ true
number_tested o n e = ap (λ o. option_eq ◌==◌ o (Some n)) e ∙ eq-eqb n n refl
