use Rattle.std.proofs.Common.{◌-◌, arith}
use Rattle.std.proofs.lemmas.Grind.{common_steps}
use Rattle.pid_types.specs.Names.{path_up}
use Rattle.plain_view.proofs.Climbs.{climb_more, climbed_to_top, climbed_to_limit}
use Rattle.plain_view.proofs.view.View.path_up.Goals as goal

pub returns-in_default : goal.returns-in_default
unfolding path_up
returns-in_default c = climbed_to_top _ _ _ _ _ c.in_default.is c.loop.invariant.rest

pub loop-preserved : goal.loop-preserved
loop-preserved c = record {
  long = grind (arith, common_steps);
  rest = rw (c.push.ensures.items, c.parent_space-next.ensures) (climb_more _ 33 _ _ _ _ _ c.loop-test.true c.in-Some.is c.loop.invariant.rest);
}

pub returns : goal.returns
unfolding path_up
returns c = climbed_to_limit _ _ _ (33 - c.loop.counter) _ (omega arith) c.loop.invariant.rest
