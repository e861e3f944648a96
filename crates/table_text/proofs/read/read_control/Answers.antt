use Rattle.std.proofs.Common.{arith}
use Rattle.table_text.proofs.Scanned.{if_none}
use Rattle.table_text.proofs.Missed.{no_control_parent, no_control_limit, no_control_end}
use Rattle.std.proofs.lemmas.Grind.{common_steps}
use Rattle.table_text.specs.Texts.{control_text_line}
use Rattle.table_text.proofs.read.read_control.Goals as goal

pub returns-in_err-parent-clause-missing : goal.returns-in_err-parent-clause-missing
returns-in_err-parent-clause-missing c =
    if_none c.from_residual-in_err-parent.result _ (λ g x held is.
    no_control_parent c.args.text.now g held x c.args.at.now c.requires is
    c.read_field.new.at _ c.in_ok-id.ensures.read.within c.in_ok-id.ensures.read.read c.in_ok-id.ensures.read.words c.in_ok-id.ensures.read.stops
    c.in_err-parent.ensures.missing)

pub returns-in_err-limit-clause-read : goal.returns-in_err-limit-clause-read
returns-in_err-limit-clause-read c = grind arith

pub returns-in_err-read_word-clause-read : goal.returns-in_err-read_word-clause-read
returns-in_err-read_word-clause-read c = grind arith

pub returns-in_err-limit-clause-missing : goal.returns-in_err-limit-clause-missing
returns-in_err-limit-clause-missing c =
    if_none c.from_residual-in_err-limit.result _ (λ g x held is.
    no_control_limit c.args.text.now g held x c.args.at.now c.requires is
    c.read_field.new.at _ c.in_ok-id.ensures.read.within c.in_ok-id.ensures.read.read c.in_ok-id.ensures.read.words c.in_ok-id.ensures.read.stops
    c.read_parent.new.at _ c.in_ok-parent.ensures.read.within c.in_ok-parent.ensures.read.read c.in_ok-parent.ensures.read.words c.in_ok-parent.ensures.stops
    c.in_err-limit.ensures.missing)

pub returns-in_err-parent-clause-read : goal.returns-in_err-parent-clause-read
returns-in_err-parent-clause-read c = grind arith

pub returns-in_err-read_word-clause-missing : goal.returns-in_err-read_word-clause-missing
returns-in_err-read_word-clause-missing c =
    if_none c.from_residual-in_err-read_word.result _ (λ g x held is.
    no_control_end c.args.text.now g held x c.args.at.now c.requires is
    c.read_field.new.at _ c.in_ok-id.ensures.read.within c.in_ok-id.ensures.read.read c.in_ok-id.ensures.read.words c.in_ok-id.ensures.read.stops
    c.read_parent.new.at _ c.in_ok-parent.ensures.read.within c.in_ok-parent.ensures.read.read c.in_ok-parent.ensures.read.words c.in_ok-parent.ensures.stops
    c.read_limit.new.at _ c.in_ok-limit.ensures.read.within c.in_ok-limit.ensures.read.read c.in_ok-limit.ensures.read.words c.in_ok-limit.ensures.stops
    c.in_err-read_word.ensures.missing)

pub returns-clause-read : goal.returns-clause-read
unfolding control_text_line
returns-clause-read c = grind (arith, common_steps)

pub returns-in_err-id-clause-missing : goal.returns-in_err-id-clause-missing
unfolding control_text_line
returns-in_err-id-clause-missing c = grind (arith, common_steps)
