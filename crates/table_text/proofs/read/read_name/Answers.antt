use Rattle.std.proofs.Common.{arith}
use Rattle.std.proofs.lemmas.Grind.{common_steps}
use Rattle.table_text.proofs.Scanned.{if_none}
use Rattle.table_text.proofs.Named.{no_name_numbers, no_name_space}
use Rattle.table_text.specs.Texts.{name_word}
use Rattle.table_text.proofs.read.read_name.Goals as goal

pub returns-in_err-read_numbers-clause-read : goal.returns-in_err-read_numbers-clause-read
returns-in_err-read_numbers-clause-read c = grind arith

pub returns-in_err-read_word-clause-missing : goal.returns-in_err-read_word-clause-missing
returns-in_err-read_word-clause-missing c = grind (arith, common_steps)

pub returns-in_err-read_numbers-clause-missing : goal.returns-in_err-read_numbers-clause-missing
returns-in_err-read_numbers-clause-missing c =
    if_none c.from_residual-in_err-read_numbers.result _ (λ name rest held stops is.
    no_name_numbers c.args.text.now c.args.label.now name held rest stops c.args.at.now c.requires is
    c.read_word.new.at c.in_ok-read_word.ensures.within c.in_ok-read_word.ensures.read c.in_err-read_numbers.ensures.missing)

pub returns-in_err-name-clause-read : goal.returns-in_err-name-clause-read
returns-in_err-name-clause-read c = grind arith

pub returns-in_err-name-clause-missing : goal.returns-in_err-name-clause-missing
returns-in_err-name-clause-missing c =
    if_none c.from_residual-in_err-name.result _ (λ name rest held stops is.
    no_name_space c.args.text.now c.args.label.now name held rest stops c.args.at.now c.requires is
    c.read_word.new.at c.in_ok-read_word.ensures.within c.in_ok-read_word.ensures.read
    c.read_numbers.new.at _ c.in_ok-read_numbers.ensures.read.within c.in_ok-read_numbers.ensures.read.read c.in_ok-read_numbers.ensures.some c.in_ok-read_numbers.ensures.read.words
    c.in_ok-read_numbers.ensures.stops c.in_ok-read_numbers.ensures.whole c.in_err-name.ensures.missing)

pub returns-clause-read : goal.returns-clause-read
unfolding name_word
returns-clause-read c = grind (arith, common_steps)
