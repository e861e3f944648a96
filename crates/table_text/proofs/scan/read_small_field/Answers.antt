use Rattle.std.proofs.Common.{◌^◌, arith}
use Rattle.std.proofs.lemmas.Grind.{common_steps}
use Rattle.table_text.proofs.Scanned.{if_none, if_none-map, no_label, no_number_behind}
use Rattle.table_text.proofs.scan.read_small_field.Goals as goal

pub returns-in_err-read_word-clause-missing : goal.returns-in_err-read_word-clause-missing
returns-in_err-read_word-clause-missing c =
    if_none c.from_residual.result _ (no_label (2 ^ 32) c.args.text.now c.args.label.now c.args.at.now c.in_err-read_word.ensures.missing)

pub returns-clause-read : goal.returns-clause-read
returns-clause-read c = grind (arith, common_steps)

pub returns-clause-missing : goal.returns-clause-missing
returns-clause-missing c =
    if_none-map c.read_small.result _ _
    (no_number_behind (2 ^ 32) c.args.text.now c.args.label.now c.args.at.now c.read_word.new.at c.requires c.in_ok-read_word.ensures.within c.in_ok-read_word.ensures.read)
    c.read_small.ensures.missing
