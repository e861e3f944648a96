use Rattle.std.proofs.Common.{ℕ, true, sym, ap}
use Rattle.std.specs.Option.{option_map_or}
use Rattle.pid_types.specs.Chains.{contains}
use Rattle.pid_numbers.specs.Numbering.{path_at}
use Rattle.task_table.proofs.Around.{key-nobody}
use Rattle.sound_store.proofs.tasks.has_good_children.Goals as goal

pub returns-in-None : goal.returns-in-None
returns-in-None c =
    let b = c.args.store.now.numbering in
    let found = c.args.found.now in
    let none = rw c.numbers.ensures at c.in-None.ensures in
    sym (ap (λ o. option_map_or (λ (x : ℕ). contains (path_at b x) found.space) o true) (key-nobody b c.laws.ensures.numbering found.task.children_space none))
