-- A call and its answer come after those that were made
use Rattle.std.proofs.Common.{rules, ◌+◌, ◌<◌, ◌++◌, ◌∷◌, [], length, false, get_or, arith, refl, sym, subst}
use Rattle.std.proofs.lemmas.List.{take_all}
use Rattle.pid_types.specs.declared.call.Call.{Call}
use Rattle.pid_types.specs.declared.call.Call.TheVariants.{Fork}
use Rattle.worker_jobs.specs.Job.{IsServed}
use Rattle.worker_jobs.proofs.Parts.{served_none, served_one, refused_one, served_next, below_more}
use Rattle.worker_jobs.proofs.jobs.make_calls.Goals as goal
use Rattle.worker_jobs.proofs.jobs.make_calls.Goals.{in-Ok, in-Err}

pub loop-i-init : goal.loop-i-init
loop-i-init g c = (
  search rules,
  search rules,
  search rules,
  search rules,
  ([], g.met.D.Desk.made_none _, served_none _),
  search rules,
)

pub loop-i-preserved : goal.loop-i-preserved
loop-i-preserved g c =
    let none : Call = Fork 0 false in
    let was = c.loop-i.invariant in
    let made = was.4 in
    let below : c.loop-i.i < length c.args.calls.now = search rules in
    let call : Call = get_or c.args.calls.now c.loop-i.i none in (
      elim c.match-call.branch [ in-Ok w ↦ search rules | in-Err w ↦ search rules ],
      elim c.match-call.branch [ in-Ok w ↦ search rules | in-Err w ↦ search rules ],
      search rules,
      elim c.match-call.branch [ in-Ok w ↦ search rules | in-Err w ↦ search rules ],
      (
        made.0 ++ (call, c.call.result) ∷ [],
        g.met.D.Desk.made_more _ _ _ _ _ made.1 c.call.ensures.made,
        elim c.match-call.branch [
          | in-Ok w ↦ rw (w.receipts-is, w.refused-is, w.push_reserved.ensures.items, w.in-Ok.is) (served_next c.args.calls.now c.loop-i.i none made.0 _ _ _ _ c.loop-i.refused 0 c.loop-i.refused below (omega arith) made.2 (served_one call w.in-Ok.receipt c.loop-i.receipts.items w.in-Ok.ensures.call))
          | in-Err w ↦ rw (w.receipts-is, w.refused-is, w.in-Err.is) (served_next c.args.calls.now c.loop-i.i none made.0 _ _ _ _ c.loop-i.refused 1 (c.loop-i.refused + 1) below refl made.2 (refused_one call w.in-Err.field-0 c.loop-i.receipts.items))
        ],
      ),
      below_more (λ k. g.G.Gate.was_before c.args.gate.now c.args.worker (k + 1) × g.G.Gate.was_after c.args.gate.now c.args.worker (k + 1)) c.loop-i.i was.5 (search rules),
    )

pub returns-clause-made : goal.returns-clause-made
returns-clause-made g c =
    let made = c.loop-i.invariant.4 in
    (made.0, made.1, subst (λ cs. IsServed cs made.0 c.args.receipts.now.items c.loop-i.receipts.items c.loop-i.refused) (take_all c.loop-i.i c.args.calls.now (search rules)) made.2)
