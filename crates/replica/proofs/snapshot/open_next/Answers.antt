use Rattle.std.proofs.Common.{sym, ◌∙◌}
use Rattle.replica.proofs.Opened.{opened_is, stands_twice}
use Rattle.replica.proofs.snapshot.open_next.Goals as goal

pub returns-in-Ok-clause-ok : goal.returns-in-Ok-clause-ok
returns-in-Ok-clause-ok c =
    let it = c.in-Some in
    opened_is it.session it.last c.args.sessions.now c.put.new.self c.args.lines.now it.rest.now c.last.result it.ensures c.last.ensures
    (sym c.is_some.ensures ∙ c.if-is_some.false) c.requires.room c.in-Ok.ensures.ok

pub returns-then-is_some-clause-err : goal.returns-then-is_some-clause-err
returns-then-is_some-clause-err c =
    let it = c.in-Some in
    stands_twice it.session it.last c.args.sessions.now c.args.lines.now it.rest.now c.last.result it.ensures c.last.ensures c.if-is_some.ensures
