use Rattle.std.proofs.Common.{◌^◌, None, codes, ◌∙◌, arith}
use Rattle.table_text.proofs.Scanned.{if_none, not_fitting, nothing_read}
use Rattle.table_text.proofs.Missed.{no_life, large_status}
use Rattle.table_text.proofs.scan.read_life.Goals as goal

pub returns-in_err-read_field-clause-stops : goal.returns-in_err-read_field-clause-stops
returns-in_err-read_field-clause-stops c = grind arith

pub returns-in_err-status-clause-read : goal.returns-in_err-status-clause-read
returns-in_err-status-clause-read c = grind arith

pub returns-in_err-status-clause-missing : goal.returns-in_err-status-clause-missing
returns-in_err-status-clause-missing c =
    let text = c.args.text.now in
    let one = nothing_read text c.args.at.now c.read_mark.new.at c.read_mark.result (codes " live") c.requires c.if-read_mark.ensures.within c.if-read_mark.false c.read_mark.ensures.read in
    let two = nothing_read text c.read_mark.new.at c.read_mark-2.new.at c.read_mark-2.result (codes " killed") c.if-read_mark.ensures.within c.if-read_mark-2.ensures.within c.if-read_mark-2.false
    c.read_mark-2.ensures.read in
    if_none c.from_residual-in_err-status.result _
    (not_fitting (2 ^ 8) _ c.try_from.result None _ c.try_from.ensures c.in_err-status.ensures.value (λ large.
    no_life text c.args.at.now c.read_mark.new.at c.read_mark-2.new.at one (one ∙ two) (c.read_mark.ensures.missing c.if-read_mark.false) (c.read_mark-2.ensures.missing c.if-read_mark-2.false)
    (large_status text (codes " exit ") c.read_mark-2.new.at c.read_field.new.at _ c.if-read_mark-2.ensures.within c.in_ok-read_field.ensures.read.within c.in_ok-read_field.ensures.read.read
    c.in_ok-read_field.ensures.read.words c.in_ok-read_field.ensures.read.stops large)))

pub returns-in_err-status-clause-stops : goal.returns-in_err-status-clause-stops
returns-in_err-status-clause-stops c = grind arith

pub returns-in_err-read_field-clause-read : goal.returns-in_err-read_field-clause-read
returns-in_err-read_field-clause-read c = grind arith
