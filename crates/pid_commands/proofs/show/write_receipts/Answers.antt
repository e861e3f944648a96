use Rattle.std.proofs.Common.{◌++◌, ap, ◌∙◌, sym, append_assoc}
use Rattle.std.specs.List.{flat_map}
use Rattle.std.specs.Vec.Iter.{into_iter_items}
use Rattle.pid_types.specs.DeviceLaws.{Appends-more}
use Rattle.pid_commands.specs.Output.{receipt_line}
use Rattle.pid_commands.proofs.show.write_receipts.Goals as goal

pub loop-receipt-preserved : goal.loop-receipt-preserved
loop-receipt-preserved g c =
    let was = c.loop-receipt.invariant in
    let line = receipt_line c.in-Some.receipt in
    let left = flat_map receipt_line (into_iter_items c.next.new.self) in (
      tt,
      tt,
      was.2 ++ line,
      Appends-more _ _ _ was.2 line was.3 c.in_ok-write_receipt.ensures,
      was.4 ∙ ap (λ rs. was.2 ++ flat_map receipt_line rs) c.in-Some.ensures.steps.0 ∙ sym (append_assoc was.2 line left),
    )
