use Rattle.std.proofs.Common.{arith}
use Rattle.table_text.proofs.Scanned.{if_none}
use Rattle.table_text.proofs.Missed.{no_space_parent, no_space_cursor, no_space_end}
use Rattle.std.proofs.lemmas.Grind.{common_steps}
use Rattle.pid_script.specs.Lists.{space_line}
use Rattle.table_text.proofs.read.read_space.Goals as goal

pub returns-in_err-parent-clause-missing : goal.returns-in_err-parent-clause-missing
returns-in_err-parent-clause-missing c =
    if_none c.from_residual-in_err-parent.result _ (λ s x held is.
    no_space_parent c.args.text.now s held x c.args.at.now c.requires is
    c.read_field.new.at _ c.in_ok-id.ensures.read.within c.in_ok-id.ensures.read.read c.in_ok-id.ensures.read.words c.in_ok-id.ensures.read.stops
    c.in_err-parent.ensures.missing)

pub returns-in_err-read_word-clause-read : goal.returns-in_err-read_word-clause-read
returns-in_err-read_word-clause-read c = grind arith

pub returns-in_err-parent-clause-read : goal.returns-in_err-parent-clause-read
returns-in_err-parent-clause-read c = grind arith

pub returns-in_err-cursor-clause-missing : goal.returns-in_err-cursor-clause-missing
returns-in_err-cursor-clause-missing c =
    if_none c.from_residual-in_err-cursor.result _ (λ s x held is.
    no_space_cursor c.args.text.now s held x c.args.at.now c.requires is
    c.read_field.new.at _ c.in_ok-id.ensures.read.within c.in_ok-id.ensures.read.read c.in_ok-id.ensures.read.words c.in_ok-id.ensures.read.stops
    c.read_parent.new.at _ c.in_ok-parent.ensures.read.within c.in_ok-parent.ensures.read.read c.in_ok-parent.ensures.read.words c.in_ok-parent.ensures.stops
    c.in_err-cursor.ensures.missing)

pub returns-in_err-read_word-clause-missing : goal.returns-in_err-read_word-clause-missing
returns-in_err-read_word-clause-missing c =
    if_none c.from_residual-in_err-read_word.result _ (λ s x held is.
    no_space_end c.args.text.now s held x c.args.at.now c.requires is
    c.read_field.new.at _ c.in_ok-id.ensures.read.within c.in_ok-id.ensures.read.read c.in_ok-id.ensures.read.words c.in_ok-id.ensures.read.stops
    c.read_parent.new.at _ c.in_ok-parent.ensures.read.within c.in_ok-parent.ensures.read.read c.in_ok-parent.ensures.read.words c.in_ok-parent.ensures.stops
    c.read_small_field.new.at _ c.in_ok-cursor.ensures.read.within c.in_ok-cursor.ensures.read.read c.in_ok-cursor.ensures.read.words c.in_ok-cursor.ensures.read.stops
    c.read_mark-fallen.new.at _ c.read_mark-fallen.ensures.within c.read_mark-fallen.ensures.read c.read_mark-fallen.ensures.missing
    c.in_err-read_word.ensures.missing)

pub returns-in_err-cursor-clause-read : goal.returns-in_err-cursor-clause-read
returns-in_err-cursor-clause-read c = grind arith

pub returns-clause-read : goal.returns-clause-read
unfolding space_line
returns-clause-read c = grind (arith, common_steps)

pub returns-in_err-id-clause-missing : goal.returns-in_err-id-clause-missing
unfolding space_line
returns-in_err-id-clause-missing c = grind (arith, common_steps)
