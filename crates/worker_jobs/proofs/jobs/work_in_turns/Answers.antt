use Rattle.std.proofs.Common.{rules, ◌≡◌, ◌+◌, ◌≤◌, ◌++◌, List, [], length, refl, sym, ap, ◌∙◌, subst, arith, append_assoc, append-nil, length-append}
use Rattle.std.proofs.lemmas.List.{nil_from_length}
use Rattle.std.specs.Slice.Iter.{chunks_rest}
use Rattle.pid_types.specs.declared.call.Call.{Call}
use Rattle.worker_jobs.specs.Job.{IsServed, receipts_given}
use Rattle.worker_jobs.proofs.Parts.{fulfilled, served_none, served_more}
use Rattle.worker_jobs.proofs.jobs.work_in_turns.Goals as goal

pub loop-turn-init : goal.loop-turn-init
loop-turn-init g c =
    let none : c.in_ok-receipts.receipts.items ≡ [] = search rules in
    (search rules, tt, search rules, search rules, search rules, ([], [], g.met.D.Desk.made_none _, subst (λ rs. IsServed [] [] [] rs 0) (sym none) (served_none []), search rules))

pub loop-turn-preserved : goal.loop-turn-preserved
loop-turn-preserved g c =
    let was = c.loop-turn.invariant in
    let made = was.5 in
    let turn = c.turn-refused.ensures.made in
    let steps = c.in-Some.ensures.steps in (
      search rules,
      tt,
      steps.0 ∙ was.2,
      omega (
        arith,
        was.3,
        ap length turn.2.given,
        length-append c.loop-turn.receipts.items (receipts_given turn.0),
        turn.2.counted,
        ap length steps.1.0,
        length-append c.in-Some.turn.now (chunks_rest c.next.new.self),
        c.turn-refused.ensures.room,
      ),
      c.turn-refused.ensures.worker ∙ was.4,
      (
        made.0 ++ c.in-Some.turn.now,
        made.1 ++ turn.0,
        g.met.D.Desk.made_more _ _ _ _ _ made.2 turn.1,
        served_more made.0 c.in-Some.turn.now made.1 turn.0 [] _ _ _ _ made.3 turn.2,
        append_assoc made.0 _ _ ∙ (ap (λ (cs : _). made.0 ++ cs) (sym steps.1.0) ∙ made.4),
      ),
    )

-- the iterator has no call left, so those that were made are all
pub returns-clause-does : goal.returns-clause-does
returns-clause-does g c =
    let made = c.loop-turn.invariant.5 in
    let none = nil_from_length (chunks_rest c.loop-turn.turn-iterator) c.in-None.ensures.steps.1.0 in
    let all = sym (append-nil made.0) ∙ (ap (λ (cs : List Call). made.0 ++ cs) (sym none) ∙ made.4) in
    let served = subst (λ cs. IsServed cs made.1 [] c.loop-turn.receipts.items c.loop-turn.refused) all made.3 in
    record { done = fulfilled c.args.calls.now made.1 c.loop-turn.receipts.items c.loop-turn.refused served; made = (made.1, made.2, served); worker = c.loop-turn.invariant.4 }
