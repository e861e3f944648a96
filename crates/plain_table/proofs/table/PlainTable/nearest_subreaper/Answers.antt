use Rattle.std.proofs.Common.{◌≡◌, ◌+◌, ◌-◌, length, true, false, Some, sym, ◌∙◌, refl, arith}
use Rattle.pid_types.specs.Exit.{parent_number, is_subreaper_in}
use Rattle.pid_types.specs.Names.{root_number}
use Rattle.pid_types.proofs.Ancestors.{climb-step, found-here, found-further, found-limit}
use Rattle.plain_table.proofs.table.PlainTable.nearest_subreaper.Goals as goal

pub loop-init : goal.loop-init
loop-init c =
    rw (c.root_number-number.ensures, climb-step (parent_number c.args.self.now.rows) (length c.args.self.now.rows + 1) (length c.args.self.now.rows - 0) (root_number c.args.task.now.name) (omega arith)) refl

pub returns-then-is_subreaper_in : goal.returns-then-is_subreaper_in
returns-then-is_subreaper_in c =
    let up : parent_number c.args.self.now.rows c.loop.number ≡ Some c.in_ok-number.number = rw (← c.view-view.ensures) (sym c.parent_number.ensures ∙ c.in_ok-number.was) in
    let passes : is_subreaper_in c.args.self.now.rows c.args.task.now.name.space c.in_ok-number.number ≡ true = rw (← c.view-view.ensures) (sym c.is_subreaper_in.ensures ∙ c.if-is_subreaper_in.true) in
    found-here (parent_number c.args.self.now.rows) (is_subreaper_in c.args.self.now.rows c.args.task.now.name.space) (length c.args.self.now.rows) c.loop.counter c.loop.number c.in_ok-number.number _ (omega arith) up passes c.loop.invariant

pub loop-preserved : goal.loop-preserved
loop-preserved c =
    let up : parent_number c.args.self.now.rows c.loop.number ≡ Some c.in_ok-number.number = rw (← c.view-view.ensures) (sym c.parent_number.ensures ∙ c.in_ok-number.was) in
    let fails : is_subreaper_in c.args.self.now.rows c.args.task.now.name.space c.in_ok-number.number ≡ false = rw (← c.view-view.ensures) (sym c.is_subreaper_in.ensures ∙ c.if-is_subreaper_in.false) in
    found-further (parent_number c.args.self.now.rows) (is_subreaper_in c.args.self.now.rows c.args.task.now.name.space) (length c.args.self.now.rows) c.loop.counter c.loop.number c.in_ok-number.number _ (omega arith) up fails c.loop.invariant

pub returns : goal.returns
returns c =
    found-limit (parent_number c.args.self.now.rows) (is_subreaper_in c.args.self.now.rows c.args.task.now.name.space) (length c.args.self.now.rows - c.loop.counter) c.loop.number _ (omega arith) c.loop.invariant
