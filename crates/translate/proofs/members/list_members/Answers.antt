use Rattle.translate.proofs.Passed.{listed_for}
use Rattle.translate.proofs.members.list_members.Goals as goal

pub returns : goal.returns
returns c s v at at_viewer =
    listed_for c.args.store.now c.laws.ensures c.args.asked.now s v at at_viewer c.args.room c.in_ok-numbers.numbers.items c.sort.new.self.items c.cut.new.listed.items
    c.in_ok-numbers.ensures c.sort.ensures.permutation c.in_ok-sort.ensures.sorted c.cut.ensures
