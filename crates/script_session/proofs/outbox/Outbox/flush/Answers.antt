use Rattle.std.proofs.Common.{◌∙◌, subst}
use Rattle.script_session.specs.Dialogue.{Sends}
use Rattle.script_session.proofs.Sent.{writes_short}
use Rattle.script_session.proofs.outbox.Outbox.flush.Goals as goal

pub returns-in_err-write_all-clause-written : goal.returns-in_err-write_all-clause-written
returns-in_err-write_all-clause-written g c =
    writes_short c.from_residual.result _ _ _ _ _ _ c.from_residual.ensures.1
    (c.as_slice.ensures.value ∙ c.self.view_is) c.in_err-write_all.ensures

pub returns-clause-written : goal.returns-clause-written
returns-clause-written g c = record {
  ok = subst (Sends _) (c.as_slice.ensures.value ∙ c.self.view_is) c.in_ok-write_all.ensures.ok;
  err = tt;
  fault = tt;
  stopped = tt;
}
