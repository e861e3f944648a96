use Rattle.std.proofs.Common.{ap, sym, ◌∙◌, option_map, arith}
use Rattle.pid_types.proofs.General.{held}
use Rattle.task_tree.specs.Tree.{task_at}
use Rattle.task_table.specs.View.{row_of}
use Rattle.table_build.proofs.LineSteps.{held-set}
use Rattle.table_build.proofs.sessions.seat_placeholder.Goals as goal

pub returns-clause-seat : goal.returns-clause-seat
returns-clause-seat c = grind arith

pub returns-clause-lines : goal.returns-clause-lines
returns-clause-lines c =
    let t = held (task_at c.args.store.now.tree c.args.group) c.requires.there in
    held-set c.args.store.now c.enter_session.new.store c.args.placed.now c.args.group _
    (c.in_ok-enter_session.ensures.entered (row_of c.args.store.now c.args.group t.0) (ap (option_map (row_of c.args.store.now c.args.group)) t.1)) (sym c.is_placeholder.ensures ∙ c.if-not-is_placeholder.false)

pub returns-then-not-is_placeholder-clause-seat : goal.returns-then-not-is_placeholder-clause-seat
returns-then-not-is_placeholder-clause-seat c = grind arith
