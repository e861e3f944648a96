-- A namespace as numbers.
use Rattle.std.specs.Prelude.{unwrap_or}
use Rattle.translate.specs.declared.space.SpaceStat.{SpaceStat}
use Rattle.foreign_numbers.specs.declared.space.SpaceNumbers.{SpaceNumbers}
use Rattle.foreign_numbers.specs.CallNumbers.{switch_number}

-- the namespace that was read, with 0 for a parent or an init that is not there
abbrev pub space_numbers : SpaceStat → SpaceNumbers
space_numbers read = record {
  id = read.id;
  parent = unwrap_or read.parent 0;
  level = read.level;
  init = unwrap_or read.init 0;
  fallen = switch_number read.fallen;
}
