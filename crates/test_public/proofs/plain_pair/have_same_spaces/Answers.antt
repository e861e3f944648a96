use Rattle.std.proofs.lemmas.Slice.Eq.{slice_eq-Decides}
use Rattle.pid_types.proofs.Equal.{space_Decides}
use Rattle.test_public.proofs.plain_pair.have_same_spaces.Goals as goal

pub returns : goal.returns
returns c = slice_eq-Decides space_Decides _ _ _ c.eq.ensures
