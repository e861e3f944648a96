use Rattle.std.proofs.Common.{◌+◌, sym, subst}
use Rattle.task_table.specs.View.{row_of, state_of}
use Rattle.translate.specs.Pages.{numbers_belonging, AreLeastFrom}
use Rattle.translate.proofs.LeastFrom.{least, least_none}
use Rattle.translate.proofs.Pages.{listed, listed_none}
use Rattle.translate.proofs.page.list_belonging.Goals as goal

pub returns : goal.returns
returns c =
    let s = c.args.store.now in
    let caller = row_of s c.args.caller.now.key c.args.caller.now.task in
    let numbers = numbers_belonging (state_of s) caller c.args.kind c.args.page.now.number in
    subst (AreLeastFrom numbers c.args.page.now.from (c.args.room + 1)) (sym c.cut.ensures)
    (least numbers c.args.page.now.from (c.args.room + 1) c.sort.new.self.items
    (listed s c.laws.ensures c.requires.parents c.args.caller.now.space caller
    c.requires.caller.own c.args.kind c.args.page.now.number c.find_owner.result c.find_owner.ensures c.in-Some.owner c.args.page.now.from
    c.in_ok-numbers.numbers.items c.sort.new.self.items c.in-Some.is c.in_ok-numbers.ensures c.sort.ensures.permutation c.in_ok-sort.ensures.sorted))

pub returns-in_default : goal.returns-in_default
returns-in_default c =
    let s = c.args.store.now in
    let caller = row_of s c.args.caller.now.key c.args.caller.now.task in
    let numbers = numbers_belonging (state_of s) caller c.args.kind c.args.page.now.number in
    subst (AreLeastFrom numbers c.args.page.now.from (c.args.room + 1)) (sym c.new.ensures.items)
    (least_none numbers c.args.page.now.from (c.args.room + 1)
    (listed_none s c.laws.ensures c.requires.parents c.args.caller.now.space caller c.requires.caller.own c.args.kind c.args.page.now.number
    c.find_owner.result c.find_owner.ensures c.args.page.now.from c.in_default.is))
