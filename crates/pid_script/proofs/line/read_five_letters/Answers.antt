use Rattle.std.proofs.Common.{codes, arith}
use Rattle.std.proofs.lemmas.Slice.Eq.{text_from_reads}
use Rattle.pid_script.proofs.Commands.{row_nspid, row_limit, row_count}
use Rattle.pid_script.proofs.line.read_five_letters.Goals as goal

pub returns-in-nspid : goal.returns-in-nspid
returns-in-nspid c = λ _. rw (text_from_reads c.args.command.now (codes "nspid") (omega arith) assumption, row_nspid) c.read_ns_pid.ensures

pub returns-in-limit : goal.returns-in-limit
returns-in-limit c = λ _. rw (text_from_reads c.args.command.now (codes "limit") (omega arith) assumption, row_limit) c.read_limit.ensures

pub returns-in-count : goal.returns-in-count
returns-in-count c = λ _. rw (text_from_reads c.args.command.now (codes "count") (omega arith) assumption, row_count) c.read_count.ensures
