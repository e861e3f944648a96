use Rattle.std.proofs.Common.{◌≡◌, ◌+◌, ap, ◌∙◌, arith}
use Rattle.pid_types.specs.Step.{step}
use Rattle.test_public.specs.Two.{Two}
use Rattle.test_public.proofs.Same.{kept_by_step, answered_alike}
use Rattle.test_public.proofs.plain_pair.Pair.make.Goals as goal

pub invariant_of-self-then-not-is_one : goal.invariant_of-self-then-not-is_one
invariant_of-self-then-not-is_one c =
    kept_by_step c.soundness_is_kept.ensures.step _ _ _ _ _ c.self.invariant c.in_ok-step.ensures.state (omega arith)

pub invariant_of-self-2 : goal.invariant_of-self-2
invariant_of-self-2 c =
    kept_by_step c.soundness_is_kept.ensures.step _ _ _ _ _ c.self.invariant c.in_ok-step.ensures.state (omega arith)

pub returns-clause-stamp : goal.returns-clause-stamp
returns-clause-stamp c =
    let next : c.in-Some.next ≡ c.self.inside.stamp + 1 = omega arith in
    next ∙ ap (λ (t : Two). t.stamp + 1) c.self.view_is

pub returns-clause-fast : goal.returns-clause-fast
returns-clause-fast c =
    let same : c.step-2.new.reply ≡ c.in_ok-plain.plain = c.is_one.ensures.0 c.if-not-is_one.false in
    answered_alike _ _ _ _ c.in_ok-step.ensures.state c.in_ok-step.ensures.reply same ∙ ap (λ (t : Two). step t.fast t.stamp c.args.call) c.self.view_is
