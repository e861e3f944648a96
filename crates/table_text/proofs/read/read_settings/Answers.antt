use Rattle.std.proofs.Common.{arith}
use Rattle.table_text.proofs.Scanned.{if_none}
use Rattle.table_text.proofs.Missed.{no_stamp}
use Rattle.std.proofs.lemmas.Grind.{common_steps}
use Rattle.table_text.specs.Texts.{bounds_text}
use Rattle.table_text.proofs.read.read_settings.Goals as goal

pub returns-in_err-stamp-clause-missing : goal.returns-in_err-stamp-clause-missing
returns-in_err-stamp-clause-missing c =
    if_none c.from_residual-in_err-stamp.result _
    (no_stamp c.args.text.now c.args.at.now c.read_small_field.new.at c.in_ok-pid_max.pid_max c.requires c.in_ok-pid_max.ensures.read.within
    c.in_ok-pid_max.ensures.read.read c.in_ok-pid_max.ensures.read.words c.in_ok-pid_max.ensures.read.stops c.in_err-stamp.ensures.missing)

pub returns-in_err-stamp-clause-read : goal.returns-in_err-stamp-clause-read
returns-in_err-stamp-clause-read c = grind arith

pub returns-clause-read : goal.returns-clause-read
unfolding bounds_text
returns-clause-read c = grind (arith, common_steps)

pub returns-in_err-pid_max-clause-missing : goal.returns-in_err-pid_max-clause-missing
unfolding bounds_text
returns-in_err-pid_max-clause-missing c = grind (arith, common_steps)
