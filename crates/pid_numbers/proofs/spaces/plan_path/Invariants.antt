use Rattle.pid_numbers.proofs.Words.{◌≡◌, ◌++◌, map, take, drop, find, is_none, unwrap_or, plan_on}
use Rattle.pid_numbers.proofs.spaces.plan_path.Given as goal

abbrev pub invariant-loop-k : goal.invariant-loop-k
invariant-loop-k l = record {
  so_far : l.numbers.items ≡ l.initial.numbers.items ++ map (λ s. unwrap_or (plan_on l.ids.items s) 0) (take l.k l.path);
  rest : find (λ s. is_none (plan_on l.ids.items s)) (drop l.k l.path) ≡ find (λ s. is_none (plan_on l.ids.items s)) l.path;
}
