use Rattle.std.proofs.Common.{codes, arith}
use Rattle.std.proofs.lemmas.Slice.Eq.{text_from_reads}
use Rattle.pid_script.proofs.Commands.{row_fork, row_exec, row_exit, row_wait, row_next, row_move, row_join}
use Rattle.pid_script.proofs.line.read_four_letters.Goals as goal

pub returns-in-fork : goal.returns-in-fork
returns-in-fork c = λ _. rw (text_from_reads c.args.command.now (codes "fork") (omega arith) assumption, row_fork) c.read_fork.ensures

pub returns-in-exec : goal.returns-in-exec
returns-in-exec c = λ _. rw (text_from_reads c.args.command.now (codes "exec") (omega arith) assumption, row_exec) c.read_exec.ensures

pub returns-in-exit : goal.returns-in-exit
returns-in-exit c = λ _. rw (text_from_reads c.args.command.now (codes "exit") (omega arith) assumption, row_exit) c.read_exit.ensures

pub returns-in-wait : goal.returns-in-wait
returns-in-wait c = λ _. rw (text_from_reads c.args.command.now (codes "wait") (omega arith) assumption, row_wait) c.read_wait.ensures

pub returns-in-next : goal.returns-in-next
returns-in-next c = λ _. rw (text_from_reads c.args.command.now (codes "next") (omega arith) assumption, row_next) c.read_next.ensures

pub returns-in-move : goal.returns-in-move
returns-in-move c = λ _. rw (text_from_reads c.args.command.now (codes "move") (omega arith) assumption, row_move) c.read_move.ensures

pub returns-in-join : goal.returns-in-join
returns-in-join c = λ _. rw (text_from_reads c.args.command.now (codes "join") (omega arith) assumption, row_join) c.read_join.ensures
