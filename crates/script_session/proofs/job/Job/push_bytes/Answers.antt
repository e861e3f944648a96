-- The lines that a piece ends and the part that is left are those of the part before and the piece, one behind the other
use Rattle.std.proofs.Common.{◌++◌, ◌∷◌, [], Some, sym, ap, ◌∙◌, append-nil, arith, refl, subst}
use Rattle.std.proofs.lemmas.Result.{err_from_is_err_and}
use Rattle.script_session.proofs.Names.{said_within, kept_after, Adds, IsStopped}
use Rattle.pid_script.proofs.Within.{first_end, no_end, said_more}
use Rattle.script_session.proofs.Jobs.{Adds-more, IsStopped-sooner, IsStopped-later}
use Rattle.script_session.proofs.job.Job.push_bytes.Goals as goal

pub loop-end-smaller : goal.loop-end-smaller
loop-end-smaller c =
    let end = first_end c.loop-end.self.part c.loop-end.rest.now (c.in-Some.end.now, c.in-Some.after.now) (sym c.in-Some.ensures) in
    omega (arith, end.shorter)

pub loop-end-preserved : goal.loop-end-preserved
loop-end-preserved c =
    let before = c.loop-end.invariant in
    let end = first_end c.loop-end.self.part c.loop-end.rest.now (c.in-Some.end.now, c.in-Some.after.now) (sym c.in-Some.ensures) in
    let line = c.finish-line.result in
    let after = c.in-Some.after.now in
    let next = c.in_ok-push.ensures.part ∙ c.finish-line.ensures.next in
    record {
      lines = before.lines ++ line ∷ [];
      added = Adds-more before.lines (line ∷ []) before.added c.in_ok-push.ensures.ok;
      said = said_more before.lines line c.loop-end.self.part _ c.loop-end.rest.now after c.in-Some.end.now _ c.finish-line.ensures.value next end before.said;
      kept = ap (λ kept. kept_after kept after) next ∙ sym end.left ∙ before.kept;
      few = omega (arith, before.few, end.shorter, c.in_ok-push.ensures.ok.counted);
    }

pub returns-in_err-push-clause-err : goal.returns-in_err-push-clause-err
returns-in_err-push-clause-err c =
    let before = c.loop-end.invariant in
    let end = first_end c.loop-end.self.part c.loop-end.rest.now (c.in-Some.end.now, c.in-Some.after.now) (sym c.in-Some.ensures) in
    let line = c.finish-line.result in
    let after = c.in-Some.after.now in
    let p = err_from_is_err_and c.from_residual.result c.from_residual.ensures.1 in
    let fault = c.in_err-push.field-0.0 in
    let said = said_more before.lines line c.loop-end.self.part (Some []) c.loop-end.rest.now after c.in-Some.end.now _ c.finish-line.ensures.value refl end before.said in
    rw (p.1, p.2) (subst (λ lines. IsStopped c.args.self.now.lines lines fault) said
    (IsStopped-sooner _ (before.lines ++ line ∷ []) (said_within (Some []) after) fault
    (IsStopped-later before.lines (line ∷ []) fault before.added c.in_err-push.ensures.err)))

pub returns-clause-ok : goal.returns-clause-ok
returns-clause-ok c =
    let before = c.loop-end.invariant in
    let none = no_end c.loop-end.self.part c.loop-end.rest.now (sym c.in_default.ensures) in
    subst (Adds _ _ _ _) (sym (append-nil before.lines) ∙ ap (λ lines. before.lines ++ lines) (sym none.0) ∙ before.said) before.added

pub push-requires : goal.push-requires
push-requires c =
    let end = first_end c.loop-end.self.part c.loop-end.rest.now (c.in-Some.end.now, c.in-Some.after.now) (sym c.in-Some.ensures) in
    omega (arith, c.loop-end.invariant.few, end.shorter)
