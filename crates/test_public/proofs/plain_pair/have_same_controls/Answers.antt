use Rattle.std.proofs.lemmas.Slice.Eq.{slice_eq-Decides}
use Rattle.pid_types.proofs.Equal.{control_Decides}
use Rattle.test_public.proofs.plain_pair.have_same_controls.Goals as goal

pub returns : goal.returns
returns c = slice_eq-Decides control_Decides _ _ _ c.eq.ensures
