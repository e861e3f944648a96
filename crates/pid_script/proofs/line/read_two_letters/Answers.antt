use Rattle.std.proofs.Common.{codes, arith}
use Rattle.std.proofs.lemmas.Slice.Eq.{text_from_reads}
use Rattle.pid_script.proofs.Commands.{row_mk, row_rm}
use Rattle.pid_script.proofs.line.read_two_letters.Goals as goal

pub returns-in-mk : goal.returns-in-mk
returns-in-mk c = λ _. rw (text_from_reads c.args.command.now (codes "mk") (omega arith) assumption, row_mk) c.read_make_control.ensures

pub returns-in-rm : goal.returns-in-rm
returns-in-rm c = λ _. rw (text_from_reads c.args.command.now (codes "rm") (omega arith) assumption, row_rm) c.read_remove_control.ensures
