use Rattle.std.proofs.Common.{◌^◌, rules}
use Rattle.table_text.proofs.Scanned.{number_read, number_missing, if_none}
use Rattle.table_text.proofs.scan.read_long.Goals as goal

pub returns-clause-read : goal.returns-clause-read
returns-clause-read c = record {
  within = c.digits_end-end.ensures.within;
  read = number_read (2 ^ 64) c.args.text.now c.args.at.now c.digits_end-end.result c.in_ok-number.number c.digits_end-end.ensures.from c.in_ok-number.ensures;
  words = search rules;
  stops = c.digits_end-end.ensures.stops;
}

pub returns-in_err-number-clause-missing : goal.returns-in_err-number-clause-missing
returns-in_err-number-clause-missing c =
    if_none c.from_residual.result _
    (number_missing c.args.text.now c.args.at.now c.digits_end-end.result c.digits_end-end.ensures.digits c.digits_end-end.ensures.from c.digits_end-end.ensures.stops c.in_err-number.ensures)
