use Rattle.std.proofs.Common.{◌++◌, ◌+◌, ap, ◌∙◌, sym, append_assoc, arith}
use Rattle.std.specs.Vec.Iter.{into_iter_items}
use Rattle.pid_types.specs.DeviceLaws.{Appends-more}
use Rattle.pid_commands.specs.Output.{work_lines, works_text}
use Rattle.pid_commands.proofs.show.write_works.Goals as goal

pub loop-work-preserved : goal.loop-work-preserved
loop-work-preserved g c =
    let was = c.loop-work.invariant in
    let step = c.in-Some.ensures.steps in
    let lines = work_lines c.loop-work.worker c.in-Some.work in
    let left = works_text (c.loop-work.worker + 1) (into_iter_items c.next.new.self) in (
      tt,
      tt,
      omega (arith, was.2, step.1),
      was.3 ++ lines,
      Appends-more _ _ _ was.3 lines was.4 c.in_ok-write_work.ensures,
      was.5 ∙ ap (λ ws. was.3 ++ works_text c.loop-work.worker ws) step.0 ∙ sym (append_assoc was.3 lines left),
    )
