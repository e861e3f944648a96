-- As in `lower_some`; a node that the walk leaves is deeper than those above it
use Rattle.pids_charge.proofs.Words.{arith, sym, ◌∙◌, ℕ, tree_of}
use Rattle.pids_charge.proofs.Climbs as climbs
use Rattle.pids_charge.proofs.walk.raise_some.Goals as goal

pub count_on-requires-clause-few : goal.count_on-requires-clause-few
count_on-requires-clause-few c =
    let a = c.loop.at in
    let t = tree_of c.args.nodes.now in
    let own = climbs.weight_one t a a (climbs.weight-self t a c.requires.levels) in
    let under = climbs.weight_true t c.args.home a (omega (arith, own, c.loop.invariant.above a)) in
    let visited = c.requires.room a under (omega (arith, c.loop.invariant.level, c.loop-test.true)) in
    omega (arith, own, c.loop.invariant.totals a, climbs.weight_one t c.args.home a under, visited)

pub loop-preserved : goal.loop-preserved
loop-preserved c =
    let t = tree_of c.args.nodes.now in
    let is = sym c.count_on.ensures.up ∙ c.in-Some.is in
    let step = λ (k : ℕ). climbs.weight-step t c.requires.levels c.loop.at c.in-Some.above k is in
    let next = c.requires.levels c.loop.at c.in-Some.above is in
    record {
      there = next.0;
      level = omega (arith, next.1, c.loop.invariant.level);
      above = λ k. omega (arith, step k, c.loop.invariant.above k);
      totals = λ k. omega (arith, step k, c.loop.invariant.totals k, c.count_on.ensures.totals k);
      linked = c.count_on.ensures.linked;
    }
