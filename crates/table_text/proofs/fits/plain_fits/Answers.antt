use Rattle.std.proofs.Common.{List, map, refl, sym, subst, rules}
use Rattle.pid_types.specs.declared.plain.ControlRow.{ControlRow}
use Rattle.table_text.specs.Texts.{control_shown}
use Rattle.table_text.specs.Ranges.{Each}
use Rattle.table_text.specs.Reading.{HasNumbers, IsHeldRow, IsHeldSpace, IsHeldControl}
use Rattle.table_text.proofs.fits.plain_fits.Goals as goal

pub returns : goal.returns
returns c = (λ numbered. record {
  rows = subst (Each IsHeldRow) c.deref.ensures.value (c.rows_fit.ensures (subst (Each HasNumbers) (sym c.deref.ensures.value) numbered));
  threads = refl;
  left = refl;
  spaces = subst (Each IsHeldSpace) c.deref-2.ensures.value c.spaces_fit.ensures;
  controls = subst (λ (rows : List ControlRow). Each IsHeldControl (map control_shown rows)) c.deref-3.ensures.value c.controls_fit.ensures;
  pid_max = search rules;
})
