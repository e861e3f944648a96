use Rattle.std.proofs.Common.{codes, arith}
use Rattle.std.proofs.lemmas.Slice.Eq.{text_from_reads}
use Rattle.pid_script.specs.Reading.{kind_read}
use Rattle.pid_script.proofs.line.read_kind.Goals as goal

pub returns-in-task : goal.returns-in-task
unfolding kind_read
returns-in-task c = rw (text_from_reads c.args.word.now (codes "task") (omega arith) assumption)

pub returns-in-group : goal.returns-in-group
unfolding kind_read
returns-in-group c = rw (text_from_reads c.args.word.now (codes "group") (omega arith) assumption)

pub returns-in-session : goal.returns-in-session
unfolding kind_read
returns-in-session c = rw (text_from_reads c.args.word.now (codes "session") (omega arith) assumption)
