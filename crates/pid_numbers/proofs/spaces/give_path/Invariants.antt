use Rattle.std.proofs.Common.{◌≡◌, ℕ, ◌<◌, ◌≤◌, get_or, true, drop, Some, length}
use Rattle.pid_numbers.specs.Slabs.{plan_on, entry_on, bound_on, cursor_on, ready, touched, stepped, given_to}
use Rattle.pid_numbers.proofs.spaces.give_path.Given as goal

abbrev pub invariant-loop-k : goal.invariant-loop-k
invariant-loop-k l = record {
  count : length l.ids.items ≡ length l.initial.ids.items;
  entries : (s n : ℕ) → touched (drop l.k l.path) (drop l.k l.numbers) (λ _. given_to l.is_task l.value) (entry_on l.ids.items) s n ≡ touched l.path l.numbers (λ _. given_to l.is_task l.value) (entry_on l.initial.ids.items) s n;
  cursors : (s : ℕ) → stepped (drop l.k l.path) (drop l.k l.numbers) s (cursor_on l.ids.items s) ≡ stepped l.path l.numbers s (cursor_on l.initial.ids.items s);
  planned : (j : ℕ) → l.k ≤ j → j < length l.path → plan_on l.ids.items (get_or l.path j 0) ≡ Some (get_or l.numbers j 0);
  ready : (j : ℕ) → l.k ≤ j → j < length l.path → ready l.ids.items (get_or l.path j 0) (get_or l.numbers j 0) ≡ true;
  bound : (s : ℕ) → bound_on l.ids.items s ≡ bound_on l.initial.ids.items s;
}
