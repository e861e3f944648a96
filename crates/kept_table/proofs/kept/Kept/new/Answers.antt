use Rattle.std.proofs.Common.{rules}
use Rattle.kept_table.proofs.Counts.{counted-new}
use Rattle.kept_table.proofs.kept.Kept.new.Goals as goal

-- the root state is the opening as it is
pub invariant_of-kept : goal.invariant_of-kept
invariant_of-kept c = record {
  counted = counted-new c.root_state_is_sound.ensures c.args.workers _ _ _ _ _ _ _ _
      (search rules)
      (search rules)
      (search rules)
      (search rules)
      c.in_ok-table.ensures
      (search rules)
      (c.in_ok-cut.ensures.items_if_clones_equal (λ y same. same))
      (c.in_ok-calls.ensures.items_if_clones_equal (λ y same. same));
  bare = λ _. (search rules);
  at = search rules;
}
