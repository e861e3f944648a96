-- What a contract sees of `RisingIds`: the ids in their order, each with its key.
use Rattle.std.specs.Prelude.{ℕ, ◌<◌, ◌==◌, List, [], ◌∷◌, Option, Some, None, not, if◌then◌else◌}
use Rattle.std.specs.List.{AllByRecursion, filter}

-- the key of an id
abbrev pub key_of : List (ℕ × ℕ) → ℕ → Option ℕ
key_of [] id = None
key_of (p ∷ ids) id = if p.0 == id then Some p.1 else key_of ids id

-- all but one id
abbrev pub without : List (ℕ × ℕ) → ℕ → List (ℕ × ℕ)
without ids id = filter (λ p. not (p.0 == id)) ids

-- each id is below a bound
abbrev pub AreBelow : List (ℕ × ℕ) → ℕ → Type 0
AreBelow ids bound = AllByRecursion (λ p. p.0 < bound) ids

-- the number of each is above those of all before it
abbrev pub Rises : {A : Type 0} → (A → ℕ) → List A → Type 0
Rises number [] = Unit {0}
Rises number (x ∷ xs) = AllByRecursion (λ y. number x < number y) xs × Rises number xs

-- each id is above those before it
abbrev pub AreRising : List (ℕ × ℕ) → Type 0
AreRising ids = Rises (λ p. p.0) ids
