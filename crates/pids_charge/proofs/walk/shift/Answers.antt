-- The way that is gone up alone ends at the level of the other node, so all that it visits is deeper than that
use Rattle.pids_charge.proofs.Words.{arith, tree_of}
use Rattle.pids_charge.proofs.Climbs as climbs
use Rattle.pids_charge.proofs.walk.shift.Goals as goal

pub raise_some-more-requires-clause-room : goal.raise_some-more-requires-clause-room
raise_some-more-requires-clause-room c = λ k under visited.
    let t = tree_of c.args.nodes.now in
    let from_level = climbs.level-is c.args.nodes.now c.args.from c.node_at-from_level.result c.node_at-from_level.ensures in
    let to_level = climbs.level-is c.args.nodes.now c.args.to c.node_at-to_level.result c.node_at-to_level.ensures in
    let low = climbs.under_low t c.requires.levels c.args.to k under in
    let deeper = climbs.none_deeper t c.requires.levels c.lower_some-less.result k (omega (arith, low, visited, c.lower_some-less.ensures.level, c.saturating_sub.ensures, c.saturating_sub-2.ensures, from_level, to_level)) in
    omega (arith, deeper, c.lower_some-less.ensures.totals k, c.requires.few k under)

pub shift_level-requires-clause-some : goal.shift_level-requires-clause-some
shift_level-requires-clause-some c = λ k under.
    let t = tree_of c.args.nodes.now in
    let own = climbs.weight_one t c.lower_some-less.result k under in
    let below = climbs.weight_true t c.args.from k (omega (arith, own, c.lower_some-less.ensures.above k)) in
    omega (arith, own, climbs.weight_one t c.args.from k below, c.requires.some k below, c.lower_some-less.ensures.totals k, c.raise_some-more.ensures.totals k, c.raise_some-more.ensures.above k)

pub shift_level-requires-clause-few : goal.shift_level-requires-clause-few
shift_level-requires-clause-few c = λ k under.
    let t = tree_of c.args.nodes.now in
    let own = climbs.weight_one t c.raise_some-more.result k under in
    let below = climbs.weight_true t c.args.to k (omega (arith, own, c.raise_some-more.ensures.above k)) in
    omega (arith, own, climbs.weight_one t c.args.to k below, c.requires.few k below, c.lower_some-less.ensures.totals k, c.raise_some-more.ensures.totals k)
