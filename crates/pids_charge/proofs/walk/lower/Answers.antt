-- The weight left above the walk falls by one at each step, so what the totals lost and what they are to lose is one sum; no total falls below zero, as each had a task
use Rattle.pids_charge.proofs.Words.{arith, sym, ◌∙◌, tree_of}
use Rattle.pids_charge.proofs.Climbs as climbs
use Rattle.pids_charge.proofs.walk.lower.Goals as goal

pub count_off-at-requires-clause-some : goal.count_off-at-requires-clause-some
count_off-at-requires-clause-some c =
    let a = c.in-Some.key in
    let t = tree_of c.args._nodes.now in
    let own = climbs.one-own t c.requires.levels c.loop-at.at a c.in-Some.is in
    let under = climbs.weight_true t c.args.home a (omega (arith, own, c.loop-at.invariant.part a)) in
    omega (arith, own, c.loop-at.invariant.totals a, climbs.weight_one t c.args.home a under, c.requires.some a under)

pub loop-at-smaller : goal.loop-at-smaller
loop-at-smaller c = climbs.left_smaller (tree_of c.args._nodes.now) c.requires.levels c.loop-at.at c.in-Some.key _ c.in-Some.is c.count_off-at.ensures.up

pub loop-at-preserved : goal.loop-at-preserved
loop-at-preserved c =
    let a = c.in-Some.key in
    let step = climbs.left-step (tree_of c.args._nodes.now) c.requires.levels c.loop-at.at a c.count_off-at.result c.in-Some.is c.count_off-at.ensures.up in
    record {
      here = λ p is. (c.requires.levels a p (sym c.count_off-at.ensures.up ∙ is)).0;
      totals = λ k. omega (arith, step k, c.loop-at.invariant.totals k, c.count_off-at.ensures.totals k);
      part = λ k. omega (arith, step k, c.loop-at.invariant.part k);
      linked = c.count_off-at.ensures.linked;
    }
