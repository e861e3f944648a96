use Rattle.std.proofs.Common.{◌≡◌, ◌+◌, take, map, None}
use Rattle.std.specs.Prelude.{find, is_none}
use Rattle.pid_types.specs.Draw.{draw}
use Rattle.pid_types.specs.Fork.{drawn}
use Rattle.plain_table.proofs.fork.draw_along.Given as goal

abbrev pub invariant-loop-space : goal.invariant-loop-space
invariant-loop-space l = record {
  given : find (λ s. is_none (draw l.view s)) (take l.space-index l.path) ≡ None;
  numbers : l.numbers.items ≡ map (drawn l.view) (take l.space-index l.path);
  cursors : l.cursors.items ≡ map (λ s. drawn l.view s + 1) (take l.space-index l.path);
}
