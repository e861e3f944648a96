use Rattle.pid_types.specs.declared.plain.ControlRow.{ControlRow}
use Rattle.table_text.specs.Texts.{control_shown}
use Rattle.table_text.specs.Reading.{IsHeldControl}
use Rattle.table_text.proofs.Each.{Each-next, Each-all, Each-map}
use Rattle.table_text.proofs.fits.controls_fit.Goals as goal

abbrev Fits : ControlRow → Type 0
Fits control = IsHeldControl (control_shown control)

pub loop-control-preserved : goal.loop-control-preserved
loop-control-preserved c = Each-next Fits c.args.controls.now c.loop-control.control-index _ c.loop-control-test.true c.loop-control.invariant c.control_fits.ensures

pub returns : goal.returns
returns c = Each-map control_shown IsHeldControl c.args.controls.now (Each-all Fits c.args.controls.now c.loop-control.control-index c.loop-control-test.false c.loop-control.invariant)
