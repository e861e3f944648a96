use Rattle.std.proofs.Common.{◌≡◌, ◌+◌, ◌≤◌, ◌++◌, flat_map, take, vec_len}
use Rattle.std.specs.Prelude.{vec_capacity}
use Rattle.call_effects.specs.Belonging.{gone_in}
use Rattle.call_effects.proofs.belonging.add_gone.Given as goal

abbrev pub invariant-loop-number : goal.invariant-loop-number
invariant-loop-number l = record {
  told : l.told.items ≡ l.initial.told.items ++ flat_map (gone_in l.kind l.table) (take l.number-index l.numbers);
  few : vec_len l.told ≤ vec_len l.initial.told + l.number-index;
  capacity : vec_capacity l.told ≡ vec_capacity l.initial.told;
}
