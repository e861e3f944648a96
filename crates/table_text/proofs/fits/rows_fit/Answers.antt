use Rattle.std.proofs.Common.{subst}
use Rattle.table_text.specs.Reading.{HasNumbers, IsHeldRow}
use Rattle.pid_types.specs.declared.plain.Row.{Row}
use Rattle.table_text.proofs.Each.{Each-next, Each-all}
use Rattle.table_text.proofs.fits.rows_fit.Goals as goal

abbrev Fits : Row → Type 0
Fits row = HasNumbers row → IsHeldRow row

pub loop-row-preserved : goal.loop-row-preserved
loop-row-preserved c =
    Each-next Fits c.args.rows.now c.loop-row.row-index c.row-item.result c.loop-row-test.true c.loop-row.invariant (subst Fits c.row-item.is c.row_fits.ensures)

pub returns : goal.returns
returns c = (λ numbered row there. Each-all Fits c.args.rows.now c.loop-row.row-index c.loop-row-test.false c.loop-row.invariant row there (numbered row there))
