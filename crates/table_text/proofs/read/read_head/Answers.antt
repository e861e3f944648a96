use Rattle.std.proofs.Common.{arith}
use Rattle.table_text.specs.Texts.{head_line}
use Rattle.table_text.proofs.Scanned.{IsRead-more, if_none}
use Rattle.table_text.proofs.Missed.{no_head_word, no_head_settings, no_head_end}
use Rattle.table_text.proofs.read.read_head.Goals as goal

pub returns-clause-read : goal.returns-clause-read
unfolding head_line
returns-clause-read c = record {
  within = c.in_ok-read_word-2.ensures.within;
  read = IsRead-more c.args.text.now c.args.at.now _ _ _ _
      (IsRead-more c.args.text.now c.args.at.now _ _ _ _ c.in_ok-read_word.ensures.read c.in_ok-head.ensures.read.read) c.in_ok-read_word-2.ensures.read;
  words = c.in_ok-head.ensures.read.words;
}

pub returns-in_err-head-clause-read : goal.returns-in_err-head-clause-read
returns-in_err-head-clause-read c = grind arith

pub returns-in_err-read_word-2-clause-read : goal.returns-in_err-read_word-2-clause-read
returns-in_err-read_word-2-clause-read c = grind arith

pub returns-in_err-read_word-clause-missing : goal.returns-in_err-read_word-clause-missing
returns-in_err-read_word-clause-missing c =
    if_none c.from_residual.result _ (λ m n x small word is.
    no_head_word c.args.text.now m n small word x c.args.at.now c.requires is c.in_err-read_word.ensures.missing)

pub returns-in_err-head-clause-missing : goal.returns-in_err-head-clause-missing
returns-in_err-head-clause-missing c =
    if_none c.from_residual-in_err-head.result _ (λ m n x small word is.
    no_head_settings c.args.text.now m n small word x c.args.at.now c.requires is
    c.read_word.new.at c.in_ok-read_word.ensures.within c.in_ok-read_word.ensures.read c.in_err-head.ensures.missing)

pub returns-in_err-read_word-2-clause-missing : goal.returns-in_err-read_word-2-clause-missing
returns-in_err-read_word-2-clause-missing c =
    if_none c.from_residual-in_err-read_word-2.result _ (λ m n x small word is.
    no_head_end c.args.text.now m n small word x c.args.at.now c.requires is
    c.read_word.new.at c.in_ok-read_word.ensures.within c.in_ok-read_word.ensures.read
    c.read_settings.new.at _ _ c.in_ok-head.ensures.read.within c.in_ok-head.ensures.read.read c.in_ok-head.ensures.read.words.0 c.in_ok-head.ensures.read.words.1
    c.in_ok-head.ensures.read.stops c.in_err-read_word-2.ensures.missing)
