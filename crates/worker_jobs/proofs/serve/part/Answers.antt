use Rattle.std.proofs.Common.{rules, arith, ◌≡◌, length, vec_len, ◌+◌, get_or, ap, ◌∙◌, sym, subst, Ok}
use Rattle.worker_jobs.specs.declared.serve.Done.{Done}
use Rattle.worker_jobs.proofs.Parts.{each_more}
use Rattle.worker_jobs.proofs.serve.part.Goals as goal

pub loop-done-preserved : goal.loop-done-preserved
loop-done-preserved g c =
    let was = c.loop-done.invariant in
    let step = c.in-Some.ensures.steps in
    let seats = c.push_reserved.ensures.items in
    let works = c.push_reserved-in-loop-done.ensures.items in
    let len : length c.loop-done.seats.items ≡ vec_len c.loop-done.seats = omega (arith, c.loop-done.seats.ok.0) in
    let len_works : length c.loop-done.works.items ≡ vec_len c.loop-done.seats = omega (arith, was.3, c.loop-done.works.ok.0) in
    let grown : vec_len c.push_reserved.new.self ≡ vec_len c.loop-done.seats + 1 = c.push_reserved.ensures.len in
    let done = c.in-Some.done in
    let next = λ (e : Done g.row.L.Denot g.row.N). sym (ap (λ l. get_or l 0 done) step.0) ∙ (was.6 0 done e (omega (arith, step.1)) ∙ ap (λ k. get_or c.args.dones.items k e) {x = vec_len c.loop-done.seats + 0} {y = vec_len c.loop-done.seats} (omega arith)) in (
      tt,
      tt,
      omega (arith, was.2, step.1, grown),
      search rules,
      search rules,
      search rules,
      (λ k d e lt. let h = was.6 (k + 1) d e in grind rules),
      (λ k d lt e.
          subst (λ xs. get_or xs k d ≡ (get_or c.args.dones.items k e).seat) (sym seats)
          (each_more (λ i s. s ≡ (get_or c.args.dones.items i e).seat) c.loop-done.seats.items done.seat (vec_len c.loop-done.seats) len (λ i x less. was.7 i x less e) (ap (λ x. x.seat) (next e)) k d (omega (arith, lt, grown)))),
      (λ k d lt e.
          subst (λ xs. (get_or c.args.dones.items k e).work ≡ Ok (get_or xs k d)) (sym works)
          (each_more (λ i x. (get_or c.args.dones.items i e).work ≡ Ok x) c.loop-done.works.items c.in_ok-work.field-0 (vec_len c.loop-done.seats) len_works (λ i x less. was.8 i x less e) (sym (ap (λ x. x.work) (next e)) ∙ c.in_ok-work.was) k d (omega (arith, lt, grown)))),
    )
