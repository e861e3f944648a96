use Rattle.std.proofs.Common.{codes, arith}
use Rattle.table_text.proofs.Scanned.{if_none, nothing_read}
use Rattle.table_text.proofs.Named.{no_parent_name}
use Rattle.table_text.proofs.read.read_parent_name.Goals as goal

pub returns-in_err-read_name-clause-read : goal.returns-in_err-read_name-clause-read
returns-in_err-read_name-clause-read c = grind arith

pub returns-in_err-read_name-clause-missing : goal.returns-in_err-read_name-clause-missing
returns-in_err-read_name-clause-missing c =
    if_none c.from_residual.result _
    (no_parent_name c.args.text.now c.read_mark.new.at c.args.at.now
    (nothing_read c.args.text.now c.args.at.now c.read_mark.new.at c.read_mark.result (codes " parent -") c.requires c.if-read_mark.ensures.within c.if-read_mark.false c.read_mark.ensures.read)
    (c.read_mark.ensures.missing c.if-read_mark.false) c.in_err-read_name.ensures.missing)

pub returns-in_err-read_name-clause-stops : goal.returns-in_err-read_name-clause-stops
returns-in_err-read_name-clause-stops c = grind arith
