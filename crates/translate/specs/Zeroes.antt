-- What is behind numbers that are written where there is room for more.
use Rattle.std.specs.Prelude.{◌≡◌, ℕ, List, drop, replicate, Result, IfOk}
use Rattle.pid_types.specs.declared.reply.Refusal.{Refusal}
use Rattle.pid_types.specs.declared.plain.TheConstants.{LEVELS}

-- behind the numbers that were written, where there was no refusal, are zeroes
abbrev pub HasZeroesBehind : Result ℕ Refusal → List ℕ → Type 0
HasZeroesBehind told room = IfOk told (λ count. drop count room ≡ drop count (replicate LEVELS 0))
