use Rattle.std.proofs.Common.{take}
use Rattle.table_text.specs.Ranges.{Each}
use Rattle.table_text.specs.Reading.{IsHeldSpace}
use Rattle.table_text.proofs.fits.spaces_fit.Given as goal

abbrev pub invariant-loop-space : goal.invariant-loop-space
invariant-loop-space l = Each IsHeldSpace (take l.space-index l.spaces)
