use Rattle.std.proofs.Common.{codes, arith}
use Rattle.std.proofs.lemmas.Slice.Eq.{text_from_reads}
use Rattle.pid_script.proofs.Commands.{row_setsid, row_getpid, row_getsid}
use Rattle.pid_script.proofs.line.read_six_letters.Goals as goal

pub returns-in-setsid : goal.returns-in-setsid
returns-in-setsid c = λ _. rw (text_from_reads c.args.command.now (codes "setsid") (omega arith) assumption, row_setsid) c.read_set_sid.ensures

pub returns-in-getpid : goal.returns-in-getpid
returns-in-getpid c = λ _. rw (text_from_reads c.args.command.now (codes "getpid") (omega arith) assumption, row_getpid) c.read_get_pid.ensures

pub returns-in-getsid : goal.returns-in-getsid
returns-in-getsid c = λ _. rw (text_from_reads c.args.command.now (codes "getsid") (omega arith) assumption, row_getsid) c.read_get_sid.ensures
