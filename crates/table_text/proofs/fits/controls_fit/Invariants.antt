use Rattle.std.proofs.Common.{take}
use Rattle.table_text.specs.Texts.{control_shown}
use Rattle.table_text.specs.Ranges.{Each}
use Rattle.table_text.specs.Reading.{IsHeldControl}
use Rattle.table_text.proofs.fits.controls_fit.Given as goal

abbrev pub invariant-loop-control : goal.invariant-loop-control
invariant-loop-control l = Each (λ control. IsHeldControl (control_shown control)) (take l.control-index l.controls)
