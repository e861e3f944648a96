use Rattle.std.proofs.Common.{◌≡◌, ◌++◌, List, ℕ}
use Rattle.std.specs.List.{flat_map}
use Rattle.std.specs.Io.KnownBytes.{Appends}
use Rattle.std.specs.Vec.Iter.{into_iter_items}
use Rattle.pid_commands.specs.Output.{receipt_line}
use Rattle.pid_commands.proofs.show.write_receipts.Given as goal

-- the lines that are written, and those of the receipts that are left, are the lines of all
abbrev pub invariant-loop-receipt : goal.invariant-loop-receipt
invariant-loop-receipt g l =
    (goal.iterator-loop-receipt g).can_next l.receipt-iterator
    × (goal.iterator-loop-receipt g).is_finite l.receipt-iterator
    × (sent : List ℕ)
    × Appends (g.W.Write.contents l.initial.writer) (g.W.Write.contents l.writer) sent
    × (flat_map receipt_line l.fn.receipts.items ≡ sent ++ flat_map receipt_line (into_iter_items l.receipt-iterator))
