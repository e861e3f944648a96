use Rattle.std.proofs.Common.{◌∙◌, ◌∷◌, ◌+◌, ◌-◌, ◌<◌, sym, ap, arith}
use Rattle.task_table.specs.View.{row_of, row_numbered}
use Rattle.task_table.proofs.LookUps.{row-at}
use Rattle.translate.proofs.Parts.{collect-next, collect-none, row-none}
use Rattle.translate.proofs.Walks.{rows-walk}
use Rattle.translate.proofs.shown.task_from.Goals as goal

pub returns-in_default-clause-none : goal.returns-in_default-clause-none
returns-in_default-clause-none c is =
    let s = c.args.store.now in
    let none = rw c.numbers.ensures at c.in_default.ensures in
    rows-walk s c.laws.ensures c.args.from
    ∙ collect-none (row_numbered s 0) c.args.from (s.numbering.pid_max - c.args.from) (λ j above. row-none s c.laws.ensures j (λ u. none j above u))

pub returns-clause-next : goal.returns-clause-next
returns-clause-next c =
    let s = c.args.store.now in
    let found = c.in-Some-find_task.found in
    let next = rw c.numbers.ensures at c.in-Some.ensures in
    let here = c.in-Some-find_task.ensures.there in
    let in_range : c.in-Some.number < s.numbering.pid_max = (c.laws.ensures.numbering.range found.key 0 c.in-Some.number here.1).1 in
    rows-walk s c.laws.ensures c.args.from
    ∙ collect-next (row_numbered s 0) s.numbering.pid_max c.args.from c.in-Some.number (row_of s found.key found.task) next.0 in_range
    (λ j above below. row-none s c.laws.ensures j (λ u. let least = next.2 j above u in absurd (omega (arith, least, below))))
    (row-at s c.laws.ensures found.key 0 c.in-Some.number found.task here.0 here.1)
    ∙ ap (λ rows. row_of s found.key found.task ∷ rows) (sym (rows-walk s c.laws.ensures (c.in-Some.number + 1)))
