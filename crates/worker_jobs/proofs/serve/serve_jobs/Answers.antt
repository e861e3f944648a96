use Rattle.std.proofs.Common.{rules, arith, ◌≡◌, ◌<◌, length, vec_len, get_or, ap, ◌∙◌, subst}
use Rattle.std.specs.Prelude.{IfOk}
use Rattle.worker_jobs.specs.Job.{Fulfils, TellsGate}
use Rattle.worker_jobs.proofs.Parts.{some_element}
use Rattle.worker_jobs.proofs.serve.serve_jobs.Goals as goal

pub returns-clause-seats : goal.returns-clause-seats
returns-clause-seats g c =
    let dones = c.in_ok-dones.dones in
    let many : vec_len dones ≡ g.row.N = search rules in
    let some : 0 < length dones.items = omega (arith, many, dones.ok.0, c.requires.some) in
    let e = some_element dones.items some in
    let j = some_element c.args.jobs.now (omega (arith, c.requires.jobs, c.requires.some)) in
    record {
      len = omega (arith, c.in_ok-seats.ensures.len, many, c.in_ok-seats.seats.ok.0);
      in_order = λ w d lt. ap (λ p. p.worker) (c.in_ok-seats.ensures.seats w d e (omega (arith, lt, many))) ∙ (c.in_ok-dones.ensures.each w e j lt).0;
    }

pub returns-clause-works : goal.returns-clause-works
returns-clause-works g c = omega (arith, c.in_ok-seats.ensures.len, c.in_ok-dones.ensures.len)

pub returns-clause-jobs : goal.returns-clause-jobs
returns-clause-jobs g c =
    let dones = c.in_ok-dones.dones in
    let many : vec_len dones ≡ g.row.N = search rules in
    let some : 0 < length dones.items = omega (arith, many, dones.ok.0, c.requires.some) in
    let e = some_element dones.items some in
    λ w d j lt.
    (subst (λ (r : _). IfOk r (λ x. Fulfils (get_or c.args.jobs.now w j).items x.receipts.items x.refused
    × TellsGate (g.G.Gate.opens c.args.gate.now) (g.G.Gate.was_before c.args.gate.now) (g.G.Gate.was_after c.args.gate.now) w (get_or c.args.jobs.now w j).items))
    (c.in_ok-seats.ensures.works w d e (omega (arith, lt, many))) (c.in_ok-dones.ensures.each w e j lt).1).0

pub returns-clause-told : goal.returns-clause-told
returns-clause-told g c =
    let dones = c.in_ok-dones.dones in
    let works = c.in_ok-seats.works in
    let many : vec_len dones ≡ g.row.N = search rules in
    let some : 0 < length dones.items = omega (arith, many, dones.ok.0, c.requires.some) in
    let e = some_element dones.items some in
    let d = some_element works.items (omega (arith, many, c.in_ok-seats.ensures.len, works.ok.0, c.requires.some)) in
    λ w j lt.
    (subst (λ (r : _). IfOk r (λ x. Fulfils (get_or c.args.jobs.now w j).items x.receipts.items x.refused
    × TellsGate (g.G.Gate.opens c.args.gate.now) (g.G.Gate.was_before c.args.gate.now) (g.G.Gate.was_after c.args.gate.now) w (get_or c.args.jobs.now w j).items))
    (c.in_ok-seats.ensures.works w d e (omega (arith, lt, many))) (c.in_ok-dones.ensures.each w e j lt).1).1
