-- Numbers with a byte between them.
use Rattle.std.proofs.Common.{◌≡◌, ℕ, ◌-◌, ◌≤◌, List, [], ◌∷◌, ◌++◌, length, take, drop, decimal, get_or, sym, ap, ◌∙◌, append-nil, arith}
use Rattle.std.specs.List.{flat_map}
use Rattle.std.proofs.lemmas.List.{take_all}
use Rattle.pid_script.specs.Answers.{joined}

-- the first number, and the byte before each of the others
joined_first : (separator x : ℕ) (xs : List ℕ) → joined separator (x ∷ xs) ≡ decimal x ++ flat_map (λ n. separator ∷ decimal n) xs
joined_first separator x [] = sym (append-nil (decimal x))
joined_first separator x (y ∷ ys) = ap (λ rest. decimal x ++ separator ∷ rest) (joined_first separator y ys)

-- the same, of a slice in two parts
pub joined_parts : (separator : ℕ) (xs : List ℕ) → 1 ≤ length xs
    → joined separator xs ≡ decimal (get_or xs 0 0) ++ flat_map (λ n. separator ∷ decimal n) (take (length xs - 1) (drop 1 xs))
joined_parts separator [] some = absurd (omega (arith, some))
joined_parts separator (x ∷ xs) some =
    joined_first separator x xs
    ∙ ap (λ rest. decimal x ++ flat_map (λ n. separator ∷ decimal n) rest) (sym (take_all (length (x ∷ xs) - 1) xs (omega arith)))
