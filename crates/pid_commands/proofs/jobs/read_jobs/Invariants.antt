use Rattle.std.proofs.Common.{◌≡◌, ◌++◌, vec_len, ◌+◌, ◌≤◌, List}
use Rattle.std.specs.Prelude.{vec_capacity, String}
use Rattle.std.specs.declared.alloc.Global.{Global}
use Rattle.std.specs.List.{AllZip}
use Rattle.std.specs.Vec.Iter.{into_iter_items, into_iter_len}
use Rattle.pid_commands.specs.Commands.{IsReadFrom}
use Rattle.pid_commands.proofs.jobs.read_jobs.Given as goal

-- the jobs that were read and the names that are left are as many as the names, there is room for all, the names that are left are
-- the last ones, and what the others opened held the jobs
abbrev pub invariant-loop-name : goal.invariant-loop-name
invariant-loop-name g l =
    (goal.iterator-loop-name g).can_next l.name-iterator
    × (goal.iterator-loop-name g).is_finite l.name-iterator
    × (vec_len l.jobs + into_iter_len l.name-iterator ≡ vec_len l.fn.files.names)
    × (vec_len l.fn.files.names ≤ vec_capacity l.jobs)
    × (read : List (String Global))
    × (l.fn.files.names.items ≡ read ++ into_iter_items l.name-iterator)
    × AllZip (IsReadFrom (g.D.Opens.holds l.disk)) read l.jobs.items
