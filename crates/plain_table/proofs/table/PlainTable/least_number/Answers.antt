use Rattle.std.proofs.Common.{sym, ap, ◌∙◌}
use Rattle.std.specs.Prelude.{Some, filter_map, nat_le}
use Rattle.std.proofs.lemmas.List.{take_all}
use Rattle.pid_types.specs.Chains.{least_of}
use Rattle.pid_types.specs.Names.{number}
use Rattle.pid_types.specs.Queries.{name_by}
use Rattle.plain_table.specs.Least.{lesser_number, number_from}
use Rattle.plain_table.proofs.LeastNumber.{least_of-gives, least_of-skips, filter-filter_map}
use Rattle.plain_table.proofs.table.PlainTable.least_number.Goals as goal
use Rattle.plain_table.proofs.table.PlainTable.least_number.Goals.{in-Some, in_default}

pub loop-row-preserved : goal.loop-row-preserved
loop-row-preserved c = elim c.match-number_at_or_above.branch [
  | in-Some w ↦
      w.least-is ∙ ap Some (w.lesser_number.ensures ∙ ap (λ o. lesser_number o w.in-Some.number) c.loop-row.invariant)
      ∙ sym (least_of-gives (number_from c.view-view.result c.args.kind c.args.space c.args.from) c.deref-row-items.result.now c.loop-row.row-index c.row-item.result w.in-Some.number c.loop-row-test.true c.row-item.is (sym c.number_at_or_above.ensures ∙ w.in-Some.is))
  | in_default w ↦
      w.least-is ∙ c.loop-row.invariant
      ∙ sym (least_of-skips (number_from c.view-view.result c.args.kind c.args.space c.args.from) c.deref-row-items.result.now c.loop-row.row-index c.row-item.result c.loop-row-test.true c.row-item.is (sym c.number_at_or_above.ensures ∙ w.in_default.is))
]

pub returns : goal.returns
returns c =
    rw (filter-filter_map (nat_le c.args.from) (λ row. number c.args.self.now.spaces (name_by c.args.kind row) c.args.space))
    (c.loop-row.invariant
    ∙ rw (take_all c.loop-row.row-index c.deref-row-items.result.now c.loop-row-test.false, c.deref-row-items.ensures.value, c.view-view.ensures)
    (ap (λ s. least_of (filter_map (number_from c.args.self.now c.args.kind c.args.space c.args.from) s.rows)) c.self.view_is))
