-- Two nodes of one level are not below each other, so neither walk visits a node that the other has still to visit; where they meet, all
-- that is left is the same for both
use Rattle.pids_charge.proofs.Words.{arith, sym, ◌∙◌, ℕ, tree_of}
use Rattle.pids_charge.proofs.Climbs as climbs
use Rattle.pids_charge.proofs.walk.shift_level.Goals as goal

pub count_off-above_less-requires-clause-some : goal.count_off-above_less-requires-clause-some
count_off-above_less-requires-clause-some c =
    let a = c.loop-less.less in
    let t = tree_of c.args.nodes.now in
    let own = climbs.weight_one t a a (climbs.weight-self t a c.requires.levels) in
    let under = climbs.weight_true t c.args.from a (omega (arith, own, c.loop-less.invariant.less_part a)) in
    omega (arith, own, c.loop-less.invariant.totals a, c.loop-less.invariant.more_part a, climbs.weight_one t c.args.from a under, c.requires.some a under)

pub count_on-above_more-requires-clause-few : goal.count_on-above_more-requires-clause-few
count_on-above_more-requires-clause-few c =
    let b = c.loop-less.more in
    let t = tree_of c.args.nodes.now in
    let own = climbs.weight_one t b b (climbs.weight-self t b c.requires.levels) in
    let under = climbs.weight_true t c.args.to b (omega (arith, own, c.loop-less.invariant.more_part b)) in
    let apart = climbs.none_beside t c.requires.levels c.loop-less.less b c.loop-less.invariant.same c.loop-less-test.true in
    omega (arith, own, apart, c.loop-less.invariant.totals b, climbs.weight_one t c.args.to b under, c.requires.few b under, c.count_off-above_less.ensures.totals b)

pub loop-less-preserved : goal.loop-less-preserved
loop-less-preserved c =
    let t = tree_of c.args.nodes.now in
    let less_is = sym c.count_off-above_less.ensures.up ∙ c.in-Some-Some.is-0 in
    let more_is = sym c.count_on-above_more.ensures.up ∙ c.in-Some-Some.is-1 in
    let less_step = λ (k : ℕ). climbs.weight-step t c.requires.levels c.loop-less.less c.in-Some-Some.next_less k less_is in
    let more_step = λ (k : ℕ). climbs.weight-step t c.requires.levels c.loop-less.more c.in-Some-Some.next_more k more_is in
    let less_next = c.requires.levels c.loop-less.less c.in-Some-Some.next_less less_is in
    let more_next = c.requires.levels c.loop-less.more c.in-Some-Some.next_more more_is in
    record {
      less_there = less_next.0;
      more_there = more_next.0;
      same = omega (arith, less_next.1, more_next.1, c.loop-less.invariant.same);
      totals = λ k. omega (arith, less_step k, more_step k, c.loop-less.invariant.totals k, c.count_off-above_less.ensures.totals k, c.count_on-above_more.ensures.totals k);
      less_part = λ k. omega (arith, less_step k, c.loop-less.invariant.less_part k);
      more_part = λ k. omega (arith, more_step k, c.loop-less.invariant.more_part k);
      linked = c.count_on-above_more.ensures.linked;
    }
