use Rattle.std.proofs.Common.{◌∙◌, ◌++◌, ◌+◌, ap, subst, sym}
use Rattle.std.specs.List.Sorted.{IsPermutation}
use Rattle.pids_charge.specs.Charges.{home_id}
use Rattle.task_table.specs.View.{row_of, state_of}
use Rattle.translate.specs.Gathered.{numbers_of_keys}
use Rattle.translate.specs.Pages.{AreLeastFrom}
use Rattle.translate.specs.Residents.{residents_seen}
use Rattle.translate.proofs.LeastFrom.{least}
use Rattle.translate.proofs.InControl.{residents-listed}
use Rattle.translate.proofs.residents.list_residents.Goals as goal

pub returns : goal.returns
returns c =
    let s = c.args.store.now in
    let caller = c.args.caller.now in
    let added = c.in_ok-gather.ensures ∙ ap (λ ns. ns ++ numbers_of_keys s.numbering caller.space c.args.from c.residents-keys.result) c.new-numbers.ensures.items in
    let numbers = residents_seen (state_of s) (home_id s.charges c.args.home) (row_of s caller.key caller.task) in
    subst (AreLeastFrom numbers c.args.from (c.args.room + 1)) (sym c.cut.ensures)
    (least numbers c.args.from (c.args.room + 1) c.sort.new.self.items
    (residents-listed s c.laws.ensures c.requires.alone c.args.home c.requires.stands caller.space (row_of s caller.key caller.task) c.requires.found.own
    c.residents-keys.result c.residents-keys.ensures c.args.from c.sort.new.self.items
    (subst (λ xs. IsPermutation xs c.sort.new.self.items) added c.sort.ensures.permutation) c.in_ok-sort.ensures.sorted))
