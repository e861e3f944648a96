use Rattle.std.proofs.Common.{◌≡◌, ◌+◌, ◌*◌, ◌++◌, drop, length}
use Rattle.saved_form.specs.Form.{sealed, sum_behind}
use Rattle.saved_form.proofs.Laid.{laid}
use Rattle.saved_form.proofs.entry.put_entry.Given as goal

abbrev pub invariant-loop-place : goal.invariant-loop-place
invariant-loop-place l = record {
  bytes : l.bytes ≡ sealed l.fn.sum (laid l.entry l.place) ++ drop (48 * (l.place + 1)) l.fn.bytes;
  behind : l.behind ≡ sum_behind l.fn.sum (laid l.entry l.place);
  room : length l.bytes ≡ length l.fn.bytes;
}
