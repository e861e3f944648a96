use Rattle.std.proofs.Common.{sym, ap, ◌∙◌}
use Rattle.std.specs.Prelude.{Some, filter_map, nat_le}
use Rattle.std.proofs.lemmas.List.{take_all}
use Rattle.pid_types.specs.declared.plain.Thread.{Thread}
use Rattle.pid_types.specs.Chains.{least_of}
use Rattle.pid_types.specs.Names.{number}
use Rattle.plain_table.specs.Least.{lesser_number, thread_from}
use Rattle.plain_table.proofs.LeastNumber.{least_of-gives, least_of-skips, filter-filter_map}
use Rattle.plain_table.proofs.table.PlainTable.least_thread.Goals as goal
use Rattle.plain_table.proofs.table.PlainTable.least_thread.Goals.{in-Some, in_default}

pub loop-thread-preserved : goal.loop-thread-preserved
loop-thread-preserved c = elim c.match-thread_at_or_above.branch [
  | in-Some w ↦
      w.least-is ∙ ap Some (w.lesser_number.ensures ∙ ap (λ o. lesser_number o w.in-Some.number) c.loop-thread.invariant)
      ∙ sym (least_of-gives (thread_from c.view-view.result c.args.space c.args.from) c.deref-thread-items.result.now c.loop-thread.thread-index c.thread-item.result w.in-Some.number c.loop-thread-test.true c.thread-item.is (sym c.thread_at_or_above.ensures ∙ w.in-Some.is))
  | in_default w ↦
      w.least-is ∙ c.loop-thread.invariant
      ∙ sym (least_of-skips (thread_from c.view-view.result c.args.space c.args.from) c.deref-thread-items.result.now c.loop-thread.thread-index c.thread-item.result c.loop-thread-test.true c.thread-item.is (sym c.thread_at_or_above.ensures ∙ w.in_default.is))
]

pub returns : goal.returns
returns c =
    rw (filter-filter_map (nat_le c.args.from) (λ (t : Thread). number c.args.self.now.spaces t.name c.args.space))
    (c.loop-thread.invariant
    ∙ rw (take_all c.loop-thread.thread-index c.deref-thread-items.result.now c.loop-thread-test.false, c.deref-thread-items.ensures.value, c.view-view.ensures)
    (ap (λ s. least_of (filter_map (thread_from c.args.self.now c.args.space c.args.from) s.threads)) c.self.view_is))
