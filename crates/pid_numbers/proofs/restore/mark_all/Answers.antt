use Rattle.pid_numbers.proofs.Words.{◌∙◌, ap, arith, sym, option_map, cases_eq, cases_lt, get_or_past, false, node_in}
use Rattle.std.proofs.Common.{inl, inr}
use Rattle.pid_numbers.specs.Restore.{is_flagged, felled_if}
use Rattle.pid_numbers.proofs.Marks.{unmarked}
use Rattle.pid_numbers.proofs.restore.mark_all.Goals as goal

pub loop-place-preserved : goal.loop-place-preserved
loop-place-preserved c = record {
  done = λ s low. elim (cases_eq s c.loop-place.place) [
    | inl same ↦
        ap (node_in c.mark_one.new.tree.nodes) same ∙ c.mark_one.ensures.here
        ∙ ap (option_map (felled_if (is_flagged c.args.flags.now c.loop-place.place))) (c.loop-place.invariant.left c.loop-place.place (omega arith))
        ∙ sym (ap (λ k. option_map (felled_if (is_flagged c.args.flags.now k)) (node_in c.args.tree.now.nodes k)) same)
    | inr another ↦ c.mark_one.ensures.others s another ∙ c.loop-place.invariant.done s (grind (arith, low, another))
  ];
  left = λ s high. c.mark_one.ensures.others s (λ e. omega (arith, high, e)) ∙ c.loop-place.invariant.left s (omega (arith, high));
  count = c.mark_one.ensures.count ∙ c.loop-place.invariant.count;
  order = c.mark_one.ensures.order ∙ c.loop-place.invariant.order;
}

pub returns-clause-nodes : goal.returns-clause-nodes
returns-clause-nodes c s = elim (cases_lt s c.loop-place.place) [
  | inl low ↦ c.loop-place.invariant.done s low
  | inr high ↦
      c.loop-place.invariant.left s high
      ∙ sym (unmarked (is_flagged c.args.flags.now s) (get_or_past c.args.flags.now s false (let end = c.loop-place-test.false in omega (arith, high, end))) (node_in c.args.tree.now.nodes s))
]
