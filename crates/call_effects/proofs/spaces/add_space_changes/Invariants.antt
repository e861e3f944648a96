use Rattle.std.proofs.Common.{◌≡◌, ◌+◌, ◌≤◌, ◌++◌, flat_map, take, vec_len}
use Rattle.std.specs.Prelude.{vec_capacity}
use Rattle.call_effects.specs.Spaces.{changes_of_space}
use Rattle.call_effects.proofs.spaces.add_space_changes.Given as goal

abbrev pub invariant-loop-watched : goal.invariant-loop-watched
invariant-loop-watched l = record {
  told : l.told.items ≡ l.initial.told.items ++ flat_map (changes_of_space l.table) (take l.watched-index l.spaces);
  few : vec_len l.told ≤ vec_len l.initial.told + l.watched-index + l.watched-index;
  capacity : vec_capacity l.told ≡ vec_capacity l.initial.told;
}
