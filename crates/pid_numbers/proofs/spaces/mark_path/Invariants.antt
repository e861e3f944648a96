use Rattle.pid_numbers.proofs.Words.{length, ◌≡◌, ℕ, drop, with_mark, entry_on, bound_on, cursor_on, touched, mark_of}
use Rattle.pid_numbers.proofs.spaces.mark_path.Given as goal

abbrev pub invariant-loop-k : goal.invariant-loop-k
invariant-loop-k l = record {
  entries : (s n : ℕ) → touched (drop l.k l.path) (drop l.k l.numbers) (with_mark (mark_of l.kind) l.on) (entry_on l.ids.items) s n ≡ touched l.path l.numbers (with_mark (mark_of l.kind) l.on) (entry_on l.initial.ids.items) s n;
  bound : (s : ℕ) → bound_on l.ids.items s ≡ bound_on l.initial.ids.items s;
  cursors : (s : ℕ) → cursor_on l.ids.items s ≡ cursor_on l.initial.ids.items s;
  count : length l.ids.items ≡ length l.initial.ids.items;
}
