use Rattle.replica.proofs.Heads.{only_memory, read_again}
use Rattle.replica.proofs.snapshot_laws.head_is_read_as_its_log.Goals as goal

pub returns-clause-ok : goal.returns-clause-ok
returns-clause-ok c = λ log rest begins _.
    read_again c.args.text.now c.args.pid_max c.args.model log rest begins c.read_head.result c.read_head.ensures.ok

pub returns-clause-err : goal.returns-clause-err
returns-clause-err c = λ log rest begins fits.
    only_memory c.args.text.now c.args.pid_max c.args.model log rest begins fits c.read_head.result c.read_head.ensures.err
