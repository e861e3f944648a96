use Rattle.std.proofs.Common.{◌∙◌, sym}
use Rattle.table_text.proofs.Scanned.{again_read}
use Rattle.table_text.proofs.read.is_again.Goals as goal

pub returns-clause-read : goal.returns-clause-read
returns-clause-read c = λ is part read.
    again_read c.args.text.now c.args.at c.args.last.start c.args.last.end part c.requires.order c.requires.within (sym is ∙ c.starts_with.ensures.value) read
