use Rattle.std.proofs.Common.{sym, ◌∙◌}
use Rattle.replica.specs.Told.{told_entry}
use Rattle.replica.proofs.Whole.{texts_tell}
use Rattle.replica.proofs.entry_laws.what_is_written_is_read.Goals as goal

pub returns : goal.returns
returns c =
    let read = c.in-Ok.ensures.ok in
    texts_tell (told_entry c.in-Ok.read) (told_entry c.args.entry.now) read.0 c.requires.good (sym read.1 ∙ c.requires.written)
