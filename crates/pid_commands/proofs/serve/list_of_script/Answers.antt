use Rattle.std.proofs.Common.{inl, refl, ap, ◌∙◌, arith}
use Rattle.std.proofs.lemmas.Result.{err_from_is_err_and}
use Rattle.table_lines.specs.Listed.{list_of_state}
use Rattle.pid_commands.proofs.serve.list_of_script.Goals as goal

-- the state that the script leaves
pub returns-clause-ok : goal.returns-clause-ok
returns-clause-ok g c =
    let ran = c.in_ok-tally.ensures.ok in
    record {
      present = c.in_ok-tally.held.state;
      stamp = c.in_ok-tally.held.stamp;
      tally = c.in_ok-tally.tally;
      text = ran.0;
      calls = ran.1;
      finished = ran.2;
      all = omega arith;
      listed = c.in_ok-list_table.ensures ∙ ap list_of_state c.table.ensures;
    }

-- want of memory for the list
pub returns-in_err-list_table-clause-fault : goal.returns-in_err-list_table-clause-fault
returns-in_err-list_table-clause-fault g c =
    let p = err_from_is_err_and c.from_residual-in_err-list_table.result c.from_residual-in_err-list_table.ensures.1 in
    rw (p.1, p.2) (inl refl)
