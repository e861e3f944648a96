use Rattle.std.proofs.Common.{◌≡◌, ◌≢◌, ◌+◌, ◌-◌, ◌∙◌, ℕ, suc, Option, sym, subst, arith}
use Rattle.pid_types.specs.Chains.{climb}
use Rattle.pid_types.specs.Controls.{parent_control, control_path}
use Rattle.pid_types.specs.Membership.{IsIn}
use Rattle.pids_charge.specs.Charges.{home_id}
use Rattle.task_table.proofs.Results.{is_true, never}
use Rattle.sound_store.proofs.Groups.{way-here, way-on, way-ends}
use Rattle.sound_store.proofs.controls.leads_to_root.Goals as goal

pub loop-init : goal.loop-init
unfolding control_path
loop-init c = record { stands = c.requires; same = ((λ i. i), (λ i. i)) }

pub returns-then-id-eq0 : goal.returns-then-id-eq0
returns-then-id-eq0 c =
    let v = c.args.controls.now in
    let f : ℕ → Option ℕ = parent_control v.controls in
    let more : suc (64 - c.loop.counter) ≡ 65 - c.loop.counter = omega (arith, c.loop-test.true) in
    let here = subst (λ k. IsIn 0 (climb f k (home_id v c.loop.at))) more (way-here f (64 - c.loop.counter) (home_id v c.loop.at) (sym c.id.ensures ∙ c.if-id-eq0.true)) in
    ((λ is. c.loop.invariant.same.0 here), (λ i. is_true))

pub returns-in-None : goal.returns-in-None
returns-in-None c =
    let v = c.args.controls.now in
    let f : ℕ → Option ℕ = parent_control v.controls in
    let differs : home_id v c.loop.at ≢ 0 = λ e. c.if-id-eq0.false (c.id.ensures ∙ e) in
    ((λ is. absurd (never is)), (λ i. absurd (way-ends f (65 - c.loop.counter) (home_id v c.loop.at) differs (sym c.in-None.ensures.id) (c.loop.invariant.same.1 i))))

pub loop-preserved : goal.loop-preserved
loop-preserved c =
    let v = c.args.controls.now in
    let f : ℕ → Option ℕ = parent_control v.controls in
    let differs : home_id v c.loop.at ≢ 0 = λ e. c.if-id-eq0.false (c.id.ensures ∙ e) in
    let more : suc (65 - (c.loop.counter + 1)) ≡ 65 - c.loop.counter = omega (arith, c.loop-test.true) in
    let on = way-on f (65 - (c.loop.counter + 1)) (home_id v c.loop.at) (home_id v c.in-Some.parent) differs (sym c.in-Some.ensures.id) in
    record {
      stands = c.in-Some.ensures.stands;
      same = (
        (λ i. c.loop.invariant.same.0 (subst (λ k. IsIn 0 (climb f k (home_id v c.loop.at))) more (on.1 i))),
        (λ i. on.0 (subst (λ k. IsIn 0 (climb f k (home_id v c.loop.at))) (sym more) (c.loop.invariant.same.1 i))),
      );
    }

pub returns : goal.returns
unfolding climb
returns c =
    let v = c.args.controls.now in
    let none : 65 - c.loop.counter ≡ 0 = omega (arith, c.loop-test.false) in
    ((λ is. absurd (never is)), (λ i. absurd (subst (λ k. IsIn 0 (climb (parent_control v.controls) k (home_id v c.loop.at))) none (c.loop.invariant.same.1 i))))
