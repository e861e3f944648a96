use Rattle.std.proofs.Common.{◌≡◌, ◌*◌, take, length}
use Rattle.saved_form.specs.Form.{fours}
use Rattle.saved_form.proofs.Levels.{levels_from}
use Rattle.saved_form.proofs.layout.level_block.Given as goal

abbrev pub invariant-loop-i : goal.invariant-loop-i
invariant-loop-i l = record {
  front : take (4 * l.i) l.block ≡ fours (take l.i (levels_from l.place l.levels));
  long : length l.block ≡ 40;
}
