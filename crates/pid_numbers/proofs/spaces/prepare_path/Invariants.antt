use Rattle.pid_numbers.proofs.Words.{length, ◌≡◌, ℕ, ◌<◌, get_or, true, entry_on, bound_on, cursor_on, plan_on, ready}
use Rattle.pid_numbers.proofs.spaces.prepare_path.Given as goal

abbrev pub invariant-loop-k : goal.invariant-loop-k
invariant-loop-k l = record {
  so_far : (j : ℕ) → j < l.k → ready l.ids.items (get_or l.path j 0) (get_or l.numbers j 0) ≡ true;
  plan : (s : ℕ) → plan_on l.ids.items s ≡ plan_on l.initial.ids.items s;
  entries : (s m : ℕ) → entry_on l.ids.items s m ≡ entry_on l.initial.ids.items s m;
  bound : (s : ℕ) → bound_on l.ids.items s ≡ bound_on l.initial.ids.items s;
  cursors : (s : ℕ) → cursor_on l.ids.items s ≡ cursor_on l.initial.ids.items s;
  count : length l.ids.items ≡ length l.initial.ids.items;
}
