use Rattle.std.proofs.Common.{◌^◌, codes, refl, arith}
use Rattle.pid_script.specs.Lists.{limit_text}
use Rattle.table_text.proofs.Scanned.{if_none, no_option, nothing_read}
use Rattle.table_text.proofs.scan.read_limit.Goals as goal

pub returns-in_err-read_small_field-clause-stops : goal.returns-in_err-read_small_field-clause-stops
returns-in_err-read_small_field-clause-stops c = grind arith

pub returns-in_err-read_small_field-clause-read : goal.returns-in_err-read_small_field-clause-read
returns-in_err-read_small_field-clause-read c = grind arith

pub returns-in_err-read_small_field-clause-missing : goal.returns-in_err-read_small_field-clause-missing
returns-in_err-read_small_field-clause-missing c =
    if_none c.from_residual.result _
    (no_option (2 ^ 32) (codes " limit ") (codes " limit max") limit_text c.args.text.now c.read_mark.new.at c.args.at.now refl (λ n. refl)
    (nothing_read c.args.text.now c.args.at.now c.read_mark.new.at c.read_mark.result (codes " limit max") c.requires c.if-read_mark.ensures.within c.if-read_mark.false c.read_mark.ensures.read)
    (c.read_mark.ensures.missing c.if-read_mark.false) c.in_err-read_small_field.ensures.missing)
