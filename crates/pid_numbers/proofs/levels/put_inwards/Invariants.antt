use Rattle.std.proofs.Common.{◌≡◌, ◌++◌, ◌-◌, take, drop}
use Rattle.pid_numbers.proofs.Words.{reverse}
use Rattle.pid_numbers.proofs.levels.put_inwards.Given as goal

-- the first ones are as they were, and behind them are the numbers that were written
abbrev pub invariant-loop-k : goal.invariant-loop-k
invariant-loop-k l = l.room ≡ take (l.count - l.k) l.fn.room ++ (reverse (take l.k l.numbers) ++ drop l.count l.fn.room)
