use Rattle.std.proofs.Common.{sym, ap, ◌∙◌, filter}
use Rattle.std.specs.Prelude.{option_copied, Some}
use Rattle.std.proofs.lemmas.List.{take_all}
use Rattle.pid_types.specs.Wait.{least_row}
use Rattle.plain_table.specs.Least.{lesser_of, is_ended_match}
use Rattle.plain_table.proofs.LeastRow.{least_row-passes, least_row-skips, ended_children-filter}
use Rattle.plain_table.proofs.table.PlainTable.ended_child.Goals as goal
use Rattle.plain_table.proofs.table.PlainTable.ended_child.Goals.{then-is_ended_match, else-is_ended_match}

pub loop-row-preserved : goal.loop-row-preserved
loop-row-preserved c = elim c.if-is_ended_match.branch [
  | then-is_ended_match w ↦
      ap option_copied w.least-is ∙ w.lesser-least.ensures
      ∙ ap (λ o. Some (lesser_of c.view-view.result c.args.caller.now.name.space o c.row-item.result)) c.loop-row.invariant
      ∙ sym (least_row-passes c.view-view.result c.args.caller.now.name.space (is_ended_match c.view-view.result c.args.caller.now c.args.which) c.deref-row-items.result.now c.loop-row.row-index c.row-item.result c.loop-row-test.true c.row-item.is (sym c.is_ended_match.ensures ∙ w.if-is_ended_match.true))
  | else-is_ended_match w ↦
      ap option_copied w.least-is ∙ c.loop-row.invariant
      ∙ sym (least_row-skips c.view-view.result c.args.caller.now.name.space (is_ended_match c.view-view.result c.args.caller.now c.args.which) c.deref-row-items.result.now c.loop-row.row-index c.row-item.result c.loop-row-test.true c.row-item.is (sym c.is_ended_match.ensures ∙ w.if-is_ended_match.false))
]

pub returns : goal.returns
returns c =
    rw (ended_children-filter) (c.copy_found.ensures ∙ c.loop-row.invariant
    ∙ rw (take_all c.loop-row.row-index c.deref-row-items.result.now c.loop-row-test.false, c.deref-row-items.ensures.value, c.view-view.ensures) (ap (λ s. least_row c.args.self.now c.args.caller.now.name.space (filter (is_ended_match c.args.self.now c.args.caller.now c.args.which) s.rows)) c.self.view_is))
