use Rattle.std.proofs.Common.{sym, ◌∙◌}
use Rattle.plain_table.proofs.Drawn.{no_room-full, no_room-limited, no_room-None}
use Rattle.plain_table.proofs.fork.draw_name.Goals as goal

pub returns-in-Err : goal.returns-in-Err
returns-in-Err c =
    let path = c.as_slice.ensures.value ∙ c.path_up-path.ensures in
    no_room-full c.args.view.now c.args.caller.now c.args.space c.in-Err.full (rw path at c.in-Err.ensures)

pub returns-in-Some : goal.returns-in-Some
returns-in-Some c =
    let path = c.as_slice.ensures.value ∙ c.path_up-path.ensures in
    no_room-limited c.args.view.now c.args.caller.now c.args.space c.in-Some.control (rw path at c.in-Ok.ensures.0) (sym c.passed_limit.ensures ∙ c.in-Some.is)

pub returns : goal.returns
returns c =
    let path = c.as_slice.ensures.value ∙ c.path_up-path.ensures in (
      no_room-None c.args.view.now c.args.caller.now c.args.space (rw path at c.in-Ok.ensures.0) (sym c.passed_limit.ensures ∙ c.in_default.is),
      c.path_up-path.ensures,
      rw c.as_slice.ensures.value at c.in-Ok.ensures.2,
      c.name_in-name.ensures c.args.view.now (rw path at c.in-Ok.ensures.1),
    )
