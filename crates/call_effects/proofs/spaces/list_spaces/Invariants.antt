use Rattle.std.proofs.Common.{◌≡◌, flat_map, take}
use Rattle.call_effects.specs.Spaces.{inner_path}
use Rattle.call_effects.proofs.spaces.list_spaces.Given as goal

abbrev pub invariant-loop-id : goal.invariant-loop-id
invariant-loop-id l = record { paths : l.ids.items ≡ flat_map (inner_path l.table) (take l.id-index l.id-items) }
