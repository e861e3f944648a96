use Rattle.std.proofs.Common.{codes, arith}
use Rattle.std.proofs.lemmas.Slice.Eq.{text_from_reads}
use Rattle.pid_script.proofs.Commands.{row_setpgid, row_getppid, row_getpgid}
use Rattle.pid_script.proofs.line.read_seven_letters.Goals as goal

pub returns-in-setpgid : goal.returns-in-setpgid
returns-in-setpgid c = λ _. rw (text_from_reads c.args.command.now (codes "setpgid") (omega arith) assumption, row_setpgid) c.read_set_pgid.ensures

pub returns-in-getppid : goal.returns-in-getppid
returns-in-getppid c = λ _. rw (text_from_reads c.args.command.now (codes "getppid") (omega arith) assumption, row_getppid) c.read_get_ppid.ensures

pub returns-in-getpgid : goal.returns-in-getpgid
returns-in-getpgid c = λ _. rw (text_from_reads c.args.command.now (codes "getpgid") (omega arith) assumption, row_getpgid) c.read_get_pgid.ensures
