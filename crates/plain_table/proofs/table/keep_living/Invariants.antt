use Rattle.std.proofs.Common.{◌≡◌, ◌≤◌, take, filter, not, vec_len, vec_capacity}
use Rattle.pid_types.specs.Outcome.{is_dead}
use Rattle.plain_table.proofs.table.keep_living.Given as goal

abbrev pub invariant-loop-space : goal.invariant-loop-space
invariant-loop-space l = record {
  living : l.kept.items ≡ filter (λ s. not (is_dead l.view s)) (take l.space-index l.spaces);
  fewer : vec_len l.kept ≤ l.space-index;
  room : vec_capacity l.initial.kept ≤ vec_capacity l.kept;
}
