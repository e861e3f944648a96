use Rattle.std.proofs.Common.{take}
use Rattle.table_text.specs.Ranges.{Each}
use Rattle.table_text.specs.Reading.{HasNumbers, IsHeldRow}
use Rattle.table_text.proofs.fits.rows_fit.Given as goal

abbrev pub invariant-loop-row : goal.invariant-loop-row
invariant-loop-row l = Each (λ row. HasNumbers row → IsHeldRow row) (take l.row-index l.rows)
