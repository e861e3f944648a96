-- As in a job, the lines that a chunk ends follow those before it; each is answered by the table as it stands after the last
use Rattle.std.proofs.Common.{◌++◌, ◌∷◌, [], Some, sym, ap, ◌∙◌, append-nil, arith, refl, subst}
use Rattle.std.proofs.lemmas.Result.{err_from_is_err_and}
use Rattle.script_session.proofs.Names.{said_within, kept_after, Answers, StopsShort}
use Rattle.pid_script.proofs.Within.{first_end, no_end, said_more}
use Rattle.script_session.proofs.Sent.{Sends-nothing, Sends-more, Stalls-more}
use Rattle.script_session.proofs.Progress.{Answers-nothing, Answers-more, StopsShort-more, StopsShort-later}
use Rattle.script_session.proofs.session.answer_chunk.Goals as goal

pub loop-end-init : goal.loop-end-init
loop-end-init g c = record {
  lines = [];
  answered = Answers-nothing _ _ _ (Sends-nothing _ (g.met.K.Sink.nothing _)) (g.met.T.Table.nothing _);
  said = refl;
  kept = refl;
  counted = c.requires.counted;
  few = omega arith;
}

pub loop-end-smaller : goal.loop-end-smaller
loop-end-smaller g c =
    let end = first_end c.loop-end.session.part c.loop-end.rest.now (c.in-Some.end.now, c.in-Some.after.now) (sym c.in-Some.ensures) in
    omega (arith, end.shorter)

pub loop-end-preserved : goal.loop-end-preserved
loop-end-preserved g c =
    let before = c.loop-end.invariant in
    let end = first_end c.loop-end.session.part c.loop-end.rest.now (c.in-Some.end.now, c.in-Some.after.now) (sym c.in-Some.ensures) in
    let line = c.finish-line.result in
    let after = c.in-Some.after.now in
    let next = c.in_ok-answer_line.ensures.counted.part ∙ c.finish-line.ensures.next in
    record {
      lines = before.lines ++ line ∷ [];
      answered = Answers-more (Sends-more (g.met.K.Sink.more _ _ _)) (g.met.T.Table.more _ _ _) _ _ _ before.lines (line ∷ []) before.answered c.in_ok-answer_line.ensures.told.ok;
      said = said_more before.lines line c.loop-end.session.part _ c.loop-end.rest.now after c.in-Some.end.now _ c.finish-line.ensures.value next end before.said;
      kept = ap (λ kept. kept_after kept after) next ∙ sym end.left ∙ before.kept;
      counted = c.in_ok-answer_line.ensures.counted.counted;
      few = omega (arith, before.few, end.shorter, c.in_ok-answer_line.ensures.counted.lines);
    }

pub returns-in_err-answer_line-clause-told : goal.returns-in_err-answer_line-clause-told
returns-in_err-answer_line-clause-told g c =
    let before = c.loop-end.invariant in
    let end = first_end c.loop-end.session.part c.loop-end.rest.now (c.in-Some.end.now, c.in-Some.after.now) (sym c.in-Some.ensures) in
    let line = c.finish-line.result in
    let after = c.in-Some.after.now in
    let told = c.in_err-answer_line.ensures.told in
    let p = err_from_is_err_and c.from_residual.result c.from_residual.ensures.1 in
    rw (p.1, p.2) (record {
      ok = tt;
      err = subst (StopsShort _ _ _)
          (said_more before.lines line c.loop-end.session.part (Some []) c.loop-end.rest.now after c.in-Some.end.now _ c.finish-line.ensures.value refl end before.said)
          (StopsShort-later _ _ (before.lines ++ line ∷ []) (said_within (Some []) after)
          (StopsShort-more (Stalls-more (g.met.K.Sink.more _ _ _)) _ _ before.lines (line ∷ []) before.answered told.err));
      fault = told.fault;
      stopped = told.stopped;
    })

pub returns-clause-told : goal.returns-clause-told
returns-clause-told g c =
    let before = c.loop-end.invariant in
    let none = no_end c.loop-end.session.part c.loop-end.rest.now (sym c.in_default.ensures) in
    record {
      ok = subst (Answers _ _ _ _ _)
          (sym (append-nil before.lines) ∙ ap (λ lines. before.lines ++ lines) (sym none.0) ∙ before.said) before.answered;
      err = tt;
      fault = tt;
      stopped = tt;
    }

pub answer_line-requires : goal.answer_line-requires
answer_line-requires g c =
    let before = c.loop-end.invariant in
    let end = first_end c.loop-end.session.part c.loop-end.rest.now (c.in-Some.end.now, c.in-Some.after.now) (sym c.in-Some.ensures) in
    record { counted = before.counted; room = omega (arith, before.few, end.shorter, c.requires.room) }

pub returns-in_err-answer_line-clause-part : goal.returns-in_err-answer_line-clause-part
returns-in_err-answer_line-clause-part g c = let p = err_from_is_err_and c.from_residual.result c.from_residual.ensures.1 in rw p.1 tt

pub returns-in_err-answer_line-clause-counted : goal.returns-in_err-answer_line-clause-counted
returns-in_err-answer_line-clause-counted g c = c.in_err-answer_line.ensures.counted.counted

pub returns-in_err-answer_line-clause-lines : goal.returns-in_err-answer_line-clause-lines
returns-in_err-answer_line-clause-lines g c =
    let before = c.loop-end.invariant in
    let end = first_end c.loop-end.session.part c.loop-end.rest.now (c.in-Some.end.now, c.in-Some.after.now) (sym c.in-Some.ensures) in
    omega (arith, before.few, end.shorter, c.in_err-answer_line.ensures.counted.lines)

pub returns-clause-part : goal.returns-clause-part
returns-clause-part g c =
    let none = no_end c.loop-end.session.part c.loop-end.rest.now (sym c.in_default.ensures) in
    c.push.ensures.value ∙ sym none.1 ∙ c.loop-end.invariant.kept

pub returns-clause-counted : goal.returns-clause-counted
returns-clause-counted g c = c.loop-end.invariant.counted

pub returns-clause-lines : goal.returns-clause-lines
returns-clause-lines g c = omega (arith, c.loop-end.invariant.few)
