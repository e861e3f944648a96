use Rattle.std.proofs.Common.{◌++◌, ◌∷◌, inr, [], append_assoc, sym, ap, ◌∙◌, arith}
use Rattle.std.specs.Vec.Iter.{into_iter_items}
use Rattle.std.proofs.lemmas.Result.{err_from_is_err_and}
use Rattle.pid_commands.specs.Commands.{IsReadFrom}
use Rattle.pid_commands.proofs.Zips.{AllZip-one_more}
use Rattle.pid_commands.proofs.jobs.read_jobs.Goals as goal

-- the file is the next one, and those before it were read
pub returns-in_err-read_file-clause-fault : goal.returns-in_err-read_file-clause-fault
returns-in_err-read_file-clause-fault g c =
    let was = c.loop-name.invariant in
    let p = err_from_is_err_and c.from_residual-in_err-read_file.result c.from_residual-in_err-read_file.ensures.1 in
    rw (p.1, p.2)
    (inr record {
      before = was.4;
      name = c.in-Some.name;
      after = into_iter_items c.next.new.self;
      jobs = c.loop-name.jobs.items;
      cut = was.5 ∙ ap (λ items. was.4 ++ items) c.in-Some.ensures.steps.0;
      read = was.6;
      fails = c.in_err-read_file.ensures.fault;
    })

pub loop-name-preserved : goal.loop-name-preserved
loop-name-preserved g c =
    let was = c.loop-name.invariant in
    let step = c.in-Some.ensures.steps in
    let name = c.in-Some.name in
    let left = into_iter_items c.next.new.self in (
      tt,
      tt,
      omega (arith, was.2, step.1),
      omega (arith, was.3, c.push_reserved.ensures.capacity),
      was.4 ++ name ∷ [],
      was.5 ∙ ap (λ items. was.4 ++ items) step.0 ∙ sym (append_assoc was.4 (name ∷ []) left),
      rw c.push_reserved.ensures.items (AllZip-one_more (IsReadFrom (g.D.Opens.holds c.args.disk.now)) was.4 c.loop-name.jobs.items name c.in_ok-read_file.field-0 was.6 c.in_ok-read_file.ensures.job),
    )
