use Rattle.std.proofs.Common.{codes, arith}
use Rattle.std.proofs.lemmas.Slice.Eq.{text_from_reads}
use Rattle.pid_script.proofs.Commands.{row_subreaper}
use Rattle.pid_script.proofs.line.read_nine_letters.Goals as goal

pub returns-in-subreaper : goal.returns-in-subreaper
returns-in-subreaper c = λ _. rw (text_from_reads c.args.command.now (codes "subreaper") (omega arith) assumption, row_subreaper) c.read_subreaper.ensures
