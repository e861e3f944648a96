use Rattle.pid_types.specs.Names.{number}
use Rattle.plain_view.proofs.view.View.number.Goals as goal

pub returns : goal.returns
unfolding number
returns c = rw (c.beside.ensures, c.as_slice.ensures.value, c.path_down-path.ensures) (cc)
