use Rattle.std.proofs.Common.{length, ap, subst, arith, rules}
use Rattle.table_text.specs.Ranges.{Each}
use Rattle.table_text.specs.Reading.{IsSmall}
use Rattle.table_text.proofs.fits.name_fits.Goals as goal

pub returns : goal.returns
returns c = (λ some. record {
  numbers = record {
    some = some;
    levels = omega (arith, c.as_slice.ensures.fits, ap length c.as_slice.ensures.value);
    small = subst (Each IsSmall) c.as_slice.ensures.value c.numbers_fit.ensures;
  };
  space = search rules;
})
