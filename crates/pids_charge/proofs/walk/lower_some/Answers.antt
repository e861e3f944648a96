-- Each turn takes one off the node that the walk leaves, which is what the way from there has more than the way from above
use Rattle.pids_charge.proofs.Words.{arith, sym, ◌∙◌, ℕ, tree_of}
use Rattle.pids_charge.proofs.Climbs as climbs
use Rattle.pids_charge.proofs.walk.lower_some.Goals as goal

pub count_off-requires-clause-some : goal.count_off-requires-clause-some
count_off-requires-clause-some c =
    let a = c.loop.at in
    let t = tree_of c.args.nodes.now in
    let own = climbs.weight_one t a a (climbs.weight-self t a c.requires.levels) in
    let under = climbs.weight_true t c.args.home a (omega (arith, own, c.loop.invariant.above a)) in
    omega (arith, own, c.loop.invariant.totals a, climbs.weight_one t c.args.home a under, c.requires.some a under)

pub loop-preserved : goal.loop-preserved
loop-preserved c =
    let t = tree_of c.args.nodes.now in
    let is = sym c.count_off.ensures.up ∙ c.in-Some.is in
    let step = λ (k : ℕ). climbs.weight-step t c.requires.levels c.loop.at c.in-Some.above k is in
    let next = c.requires.levels c.loop.at c.in-Some.above is in
    record {
      there = next.0;
      level = omega (arith, next.1, c.loop.invariant.level);
      above = λ k. omega (arith, step k, c.loop.invariant.above k);
      totals = λ k. omega (arith, step k, c.loop.invariant.totals k, c.count_off.ensures.totals k);
      linked = c.count_off.ensures.linked;
    }
