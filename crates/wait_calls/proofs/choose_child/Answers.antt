use Rattle.std.proofs.Common.{ℕ, subst}
use Rattle.wait_calls.specs.Told.{Means, IsUnknown}
use Rattle.task_table.proofs.LookUps.{named}
use Rattle.wait_calls.proofs.Told.{told, told-unknown}
use Rattle.wait_calls.proofs.choose_child.Goals as goal

pub returns-in_default : goal.returns-in_default
returns-in_default c =
    let s = c.args.store.now in
    let caller = c.args.caller.now in
    let u = named s c.laws.ensures caller.key caller.task c.requires.caller in
    told-unknown s c.laws.ensures c.requires.parents caller.key caller.task c.requires.caller u.0 u.1 c.args.which
    (subst (λ (i : ℕ). IsUnknown s i c.args.which) (c.requires.own u.0 u.1) c.in_default.ensures)

pub returns : goal.returns
returns c =
    let s = c.args.store.now in
    let caller = c.args.caller.now in
    let u = named s c.laws.ensures caller.key caller.task c.requires.caller in
    told s c.laws.ensures c.requires.parents caller.key caller.task c.requires.caller u.0 u.1 c.args.which c.in-Some.selected
    (subst (λ (i : ℕ). Means s caller.key i c.args.which c.in-Some.selected) (c.requires.own u.0 u.1) c.in-Some.ensures)
    (rw c.tree.ensures at c.laws-2.ensures.waiting) c.choose.result c.choose.ensures
