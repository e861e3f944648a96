-- The cyclic draw, in its own words.
use Rattle.std.specs.Prelude.{◌≡◌, ℕ, ◌<◌, ◌≤◌, ◌⊎◌, max, true, false, List, Option, Some, None}
use Rattle.pid_types.specs.Chains.{contains}
use Rattle.pid_types.specs.Draw.{restart, cyclic_draw}

-- n is the least number from low on, and below high, that is not taken
pub record IsLeastFree (taken : List ℕ) (low high n : ℕ) : Type 0 where
  pub from : low ≤ n
  pub below : n < high
  pub free : contains taken n ≡ false
  pub least : (m : ℕ) → low ≤ m → m < n → contains taken m ≡ true

-- every number from low on, and below high, is taken
abbrev pub IsFull : List ℕ → ℕ → ℕ → Type 0
IsFull taken low high = (n : ℕ) → low ≤ n → n < high → contains taken n ≡ true

-- the least free number from the cursor on, or else the least one from the restart on; nothing only where the whole range is taken
abbrev pub IsCyclicDraw : ℕ → ℕ → List ℕ → Option ℕ → Type 0
IsCyclicDraw pid_max cursor taken (Some n) =
    IsLeastFree taken (max cursor (restart cursor)) pid_max n
    ⊎ (IsFull taken (max cursor (restart cursor)) pid_max × IsLeastFree taken (restart cursor) pid_max n)
IsCyclicDraw pid_max cursor taken None = IsFull taken (restart cursor) pid_max

-- the draw is the cyclic one
abbrev pub DrawIsLeast : Type 0
DrawIsLeast = (pid_max cursor : ℕ) (taken : List ℕ) → IsCyclicDraw pid_max cursor taken (cyclic_draw pid_max cursor taken)
