use Rattle.std.proofs.Common.{sym}
use Rattle.replica.specs.Told.{told_entry}
use Rattle.replica.proofs.Whole.{entry_says, none_told}
use Rattle.replica.proofs.read.read_entry.Goals as goal

pub returns-in-Some-clause-ok : goal.returns-in-Some-clause-ok
returns-in-Some-clause-ok c =
    let a = entry_says c.args.bytes.now (told_entry c.in-Some.entry) (sym c.in-Some.ensures) in (a.1, a.0)

pub returns-in-None-clause-err : goal.returns-in-None-clause-err
returns-in-None-clause-err c = none_told c.args.bytes.now c.in-None.ensures
