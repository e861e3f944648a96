use Rattle.std.proofs.Common.{◌≡◌, map, take, drop}
use Rattle.foreign_numbers.specs.Effects.{effect_numbers}
use Rattle.foreign_calls.proofs.effects.put_front.Given as goal

abbrev pub invariant-loop-place : goal.invariant-loop-place
invariant-loop-place l = record {
  told : take l.place l.room ≡ take l.place (map effect_numbers l.effects);
  behind : drop l.place l.room ≡ drop l.place l.initial.room;
}
