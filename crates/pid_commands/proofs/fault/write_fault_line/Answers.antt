use Rattle.std.proofs.Common.{append_assoc}
use Rattle.std.proofs.lemmas.Result.{on_ok_weaker}
use Rattle.pid_types.specs.DeviceLaws.{Appends-more}
use Rattle.pid_commands.proofs.fault.write_fault_line.Goals as goal

-- the parts come in another grouping
pub returns-in-Unreadable-clause-ok : goal.returns-in-Unreadable-clause-ok
returns-in-Unreadable-clause-ok g c = rw c.in-Unreadable.is (simp append_assoc (rw c.as_str.ensures.value at c.put_named.ensures.ok))

pub returns-in-TooManyTurns-clause-ok : goal.returns-in-TooManyTurns-clause-ok
returns-in-TooManyTurns-clause-ok g c = rw c.in-TooManyTurns.is c.put-in-TooManyTurns.ensures.ok

pub returns-in-Start-clause-ok : goal.returns-in-Start-clause-ok
returns-in-Start-clause-ok g c = rw c.in-Start.is c.put-in-Start.ensures.ok

pub returns-in_ok-put_counted-in-Audit-clause-ok : goal.returns-in_ok-put_counted-in-Audit-clause-ok
returns-in_ok-put_counted-in-Audit-clause-ok g c =
    rw c.in-Audit.is
    (on_ok_weaker c.put_counted-in-Audit-2.result
    (λ last. let whole = Appends-more _ _ _ _ _ c.in_ok-put_counted-in-Audit.ensures.ok last in simp append_assoc (simp append_assoc at whole))
    c.put_counted-in-Audit-2.ensures.ok)
