use Rattle.std.proofs.Common.{◌-◌, length, sym}
use Rattle.table_text.proofs.Standing.{found}
use Rattle.table_text.proofs.rows.last_line.Goals as goal

pub returns-in-Some : goal.returns-in-Some
returns-in-Some c = λ all within. within c.in-Some.line.now (found c.args.lines.now (length c.args.lines.now - 1) c.in-Some.line.now (sym c.in-Some.ensures.value))

pub returns-in-None : goal.returns-in-None
returns-in-None c = λ all within. c.no_line.ensures all
