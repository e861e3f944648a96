use Rattle.std.proofs.Common.{◌≡◌, ℕ, ◌<◌, ◌≤◌, true}
use Rattle.pid_types.specs.Chains.{contains}
use Rattle.pid_types.specs.Names.{taken}
use Rattle.plain_view.proofs.view.View.find_free.Given as goal

abbrev pub invariant-loop-number : goal.invariant-loop-number
invariant-loop-number l = (m : ℕ) → l.from ≤ m → m < l.number → contains (taken l.self l.space) m ≡ true
