use Rattle.task_table.specs.View.{row_of}
use Rattle.translate.proofs.Meant.{numbered_alone, own_alone, group_alone, session_alone}
use Rattle.translate.proofs.page.find_owner.Goals as goal

pub returns-then-number-gt0 : goal.returns-then-number-gt0
returns-then-number-gt0 c =
    let s = c.args.store.now in
    numbered_alone s c.laws.ensures c.args.caller.now.space (row_of s c.args.caller.now.key c.args.caller.now.task) c.requires.own c.args.kind c.args.number c.if-number-gt0.true
    c.find.result (rw c.numbers.ensures at c.find.ensures)

pub returns-in-Task : goal.returns-in-Task
returns-in-Task c =
    let s = c.args.store.now in
    rw c.in-Task.is (own_alone s c.laws.ensures c.args.caller.now.key c.args.caller.now.task c.requires.there c.args.number c.if-number-gt0.false)

pub returns-in-Group : goal.returns-in-Group
returns-in-Group c =
    let s = c.args.store.now in
    rw c.in-Group.is (group_alone s c.laws.ensures c.args.caller.now.key c.args.caller.now.task c.requires.there c.args.number c.if-number-gt0.false c.group.result (rw c.members.ensures at c.group.ensures))

pub returns-in-Session : goal.returns-in-Session
returns-in-Session c =
    let s = c.args.store.now in
    rw c.in-Session.is (session_alone s c.laws.ensures c.args.caller.now.key c.args.caller.now.task c.requires.there c.args.number c.if-number-gt0.false c.session.result
    (rw c.members-in-Session.ensures at c.session.ensures))
