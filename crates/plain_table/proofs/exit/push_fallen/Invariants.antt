use Rattle.std.proofs.Common.{◌≡◌, ◌≤◌, take, map, vec_len, vec_capacity}
use Rattle.pid_types.specs.Exit.{fallen_below}
use Rattle.plain_table.proofs.exit.push_fallen.Given as goal

abbrev pub invariant-loop-space : goal.invariant-loop-space
invariant-loop-space l = record {
  fallen : l.kept.items ≡ map (fallen_below l.view.spaces l.fallen) (take l.space-index l.spaces);
  long : vec_len l.kept ≤ l.space-index;
  room : vec_capacity l.initial.kept ≤ vec_capacity l.kept;
}
