use Rattle.std.proofs.Common.{◌≡◌, ◌+◌, ◌*◌, ◌≤◌, ◌∷◌, ◌++◌, length, take, decimal}
use Rattle.std.specs.List.{flat_map}
use Rattle.pid_script.proofs.answer.push_rest.Given as goal

abbrev pub invariant-loop-number : goal.invariant-loop-number
invariant-loop-number g l = record {
  written : l.text.items ≡ l.initial.text.items ++ flat_map (λ n. l.separator ∷ decimal n) (take l.number-index l.numbers);
  short : length l.text.items ≤ length l.initial.text.items + 11 * l.number-index;
}
