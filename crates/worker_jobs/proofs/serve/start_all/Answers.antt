use Rattle.std.proofs.Common.{rules, arith, ◌≡◌, ◌<◌, length, ◌+◌, get_or, ap, ◌∙◌, sym, subst}
use Rattle.std.proofs.lemmas.List.{get_or_default}
use Rattle.worker_jobs.proofs.Parts.{each_more}
use Rattle.worker_jobs.proofs.serve.start_all.Goals as goal

pub loop-seat-preserved : goal.loop-seat-preserved
loop-seat-preserved g c =
    let was = c.loop-seat.invariant in
    let step = c.in-Some.ensures.steps in
    let next : c.in-Some.seat.worker ≡ c.loop-seat.worker = let h = was.3 0 c.in-Some.seat in grind rules in
    let all = c.push_reserved.ensures.items in
    let len : length c.loop-seat.handles.items ≡ c.loop-seat.worker = omega (arith, was.4, c.loop-seat.handles.ok.0) in
    let below : c.loop-seat.worker < length c.args.jobs.now = omega (arith, was.2, step.1, c.requires.jobs) in (
      tt,
      tt,
      omega (arith, was.2, step.1),
      (λ k d lt. let h = was.3 (k + 1) d in grind rules),
      search rules,
      search rules,
      (λ k d lt.
          subst (λ xs. (get_or xs k d).promise.worker ≡ k) (sym all)
          (each_more (λ i h. h.promise.worker ≡ i) c.loop-seat.handles.items c.in_ok-child.child c.loop-seat.worker len was.6 (c.in_ok-child.ensures.worker ∙ next) k d lt)),
      (λ k d j lt.
          subst (λ xs. (get_or xs k d).promise.calls.now ≡ (get_or c.args.jobs.now k j).items) (sym all)
          (each_more (λ i h. h.promise.calls.now ≡ (get_or c.args.jobs.now i j).items) c.loop-seat.handles.items c.in_ok-child.child c.loop-seat.worker len (λ i e less. was.7 i e j less)
          (c.in_ok-child.ensures.calls ∙ (c.as_slice-calls.ensures.value ∙ ap (λ v. v.items) (c.index-jobs-worker.is ∙ get_or_default c.args.jobs.now c.loop-seat.worker c.index-jobs-worker.result j below))) k d lt)),
      (λ k d lt.
          subst (λ xs. (get_or xs k d).promise.gate.now ≡ c.args.gate.now) (sym all)
          (each_more (λ i h. h.promise.gate.now ≡ c.args.gate.now) c.loop-seat.handles.items c.in_ok-child.child c.loop-seat.worker len was.8 c.in_ok-child.ensures.gate k d lt)),
    )
