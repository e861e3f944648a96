use Rattle.std.proofs.Common.{◌≡◌, ◌+◌, ◌++◌, List, ℕ, vec_len}
use Rattle.std.specs.Io.KnownBytes.{Appends}
use Rattle.std.specs.Vec.Iter.{into_iter_items, into_iter_len}
use Rattle.pid_commands.specs.Output.{works_text}
use Rattle.pid_commands.proofs.show.write_works.Given as goal

-- the lines that are written, and those of the workers that are left, are the lines of all
abbrev pub invariant-loop-work : goal.invariant-loop-work
invariant-loop-work g l =
    (goal.iterator-loop-work g).can_next l.work-iterator
    × (goal.iterator-loop-work g).is_finite l.work-iterator
    × (l.worker + into_iter_len l.work-iterator ≡ vec_len l.fn.works)
    × (sent : List ℕ)
    × Appends (g.W.Write.contents l.initial.writer) (g.W.Write.contents l.writer) sent
    × (works_text 0 l.fn.works.items ≡ sent ++ works_text l.worker (into_iter_items l.work-iterator))
