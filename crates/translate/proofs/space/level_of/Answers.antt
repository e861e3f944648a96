use Rattle.std.proofs.Common.{ap, arith, length}
use Rattle.std.proofs.lemmas.List.{length-map}
use Rattle.pid_types.specs.Names.{level}
use Rattle.pid_numbers.specs.Numbering.{path_at}
use Rattle.task_table.proofs.Keys.{id_for, path-is}
use Rattle.translate.proofs.space.level_of.Goals as goal

pub returns : goal.returns
unfolding level
returns c i at =
    let b = c.args.store.now.numbering in
    let laws = c.laws.ensures.numbering in
    let up = ap length (path-is b laws c.args.key i 0 at (laws.some c.args.key i at)) in
    let same = length-map (path_at b c.args.key) (id_for b laws 0) in
    let around = rw c.numbers.ensures at c.level.ensures in
    omega (arith, up, same, around)
