use Rattle.table_text.specs.Reading.{IsHeldSpace}
use Rattle.table_text.proofs.Each.{Each-next, Each-all}
use Rattle.table_text.proofs.fits.spaces_fit.Goals as goal

pub loop-space-preserved : goal.loop-space-preserved
loop-space-preserved c = Each-next IsHeldSpace c.args.spaces.now c.loop-space.space-index _ c.loop-space-test.true c.loop-space.invariant c.space_fits.ensures

pub returns : goal.returns
returns c = Each-all IsHeldSpace c.args.spaces.now c.loop-space.space-index c.loop-space-test.false c.loop-space.invariant
