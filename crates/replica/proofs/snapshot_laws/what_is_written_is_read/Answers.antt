use Rattle.std.proofs.Common.{◌≡◌, true, ap, ◌∙◌, ◌++◌}
use Rattle.replica.specs.Snapshots.{BeginsWithHead, has_settings}
use Rattle.replica.proofs.snapshot_laws.what_is_written_is_read.Goals as goal

pub returns-clause-ok : goal.returns-clause-ok
returns-clause-ok c =
    let log = c.args.replica.now in
    let begins : BeginsWithHead c.as_slice.result.now log c.args.behind.now = record {
      good = c.in-Ok.ensures.good c.requires.begun;
      head = c.as_slice.ensures.value ∙ c.in-Ok-extend_from_slice.ensures.items ∙ ap (λ t. t ++ c.args.behind.now) c.in-Ok.ensures.text;
    } in
    let fits : has_settings c.pid_max.result c.model.result log ≡ true = rw (c.pid_max.ensures, c.model.ensures) c.requires.form in
    c.head_is_read_as_its_log.ensures.ok log c.args.behind.now begins fits

pub returns-clause-err : goal.returns-clause-err
returns-clause-err c =
    let log = c.args.replica.now in
    let begins : BeginsWithHead c.as_slice.result.now log c.args.behind.now = record {
      good = c.in-Ok.ensures.good c.requires.begun;
      head = c.as_slice.ensures.value ∙ c.in-Ok-extend_from_slice.ensures.items ∙ ap (λ t. t ++ c.args.behind.now) c.in-Ok.ensures.text;
    } in
    let fits : has_settings c.pid_max.result c.model.result log ≡ true = rw (c.pid_max.ensures, c.model.ensures) c.requires.form in
    c.head_is_read_as_its_log.ensures.err log c.args.behind.now begins fits
