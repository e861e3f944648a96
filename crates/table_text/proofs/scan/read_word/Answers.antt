use Rattle.table_text.proofs.Scanned.{word_read, word_missing}
use Rattle.table_text.proofs.scan.read_word.Goals as goal

pub returns-clause-read : goal.returns-clause-read
returns-clause-read c = word_read c.args.text.now c.args.word.now c.args.at.now c.if-not-starts_with.ensures.value

pub returns-then-not-starts_with-clause-missing : goal.returns-then-not-starts_with-clause-missing
returns-then-not-starts_with-clause-missing c = word_missing c.args.text.now c.args.word.now c.args.at.now c.if-not-starts_with.ensures.value
