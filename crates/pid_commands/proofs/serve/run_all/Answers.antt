use Rattle.std.proofs.Common.{sym, subst, ap, ◌∙◌, arith}
use Rattle.pid_types.specs.State.{root_state}
use Rattle.worker_jobs.specs.Receipts.{IsAudited}
use Rattle.pid_commands.proofs.serve.run_all.Goals as goal

-- what the workers had, and the list
pub returns-in-Ok-clause-ok : goal.returns-in-Ok-clause-ok
returns-in-Ok-clause-ok g c =
    let finished = c.in_ok-finished.finished in
    let ran = c.in_ok-finished.ensures in
    let written = c.in-Ok.ensures in
    record {
      kept = finished.kept;
      works = finished.works.items;
      made = ran.config;
      promised = c.total-total.ensures.promise;
      whole = ran.kept;
      begins = c.total-total.ensures.promise.replayed.starts ran.fresh ran.kept ∙ ap (λ config. root_state config.pid_max) ran.config;
      many = omega (arith, ran.works, finished.works.ok.0, c.requires.jobs);
      done = λ w d j lt. ran.jobs w d j (omega (arith, lt, c.requires.jobs));
      audited = subst (λ n. IsAudited n finished.kept finished.works.items) (sym c.requires.jobs) ran.audited;
      told = written;
    }
