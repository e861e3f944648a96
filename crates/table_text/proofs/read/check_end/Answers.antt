use Rattle.std.proofs.Common.{◌∙◌}
use Rattle.table_text.proofs.Scanned.{end_read, end_missing}
use Rattle.table_text.proofs.read.check_end.Goals as goal

pub returns-then-eq-clause-end : goal.returns-then-eq-clause-end
returns-then-eq-clause-end c = end_read c.args.text.now c.as_slice.result.now c.args.at c.if-eq.ensures (c.as_slice.ensures.value ∙ c.in-Ok.ensures)

pub returns-then-starts_with-clause-missing : goal.returns-then-starts_with-clause-missing
returns-then-starts_with-clause-missing c =
    (λ other. end_missing c.args.text.now c.as_slice.result.now c.args.at c.if-eq.ensures (c.as_slice.ensures.value ∙ c.in-Ok.ensures))

pub returns-clause-missing : goal.returns-clause-missing
returns-clause-missing c =
    (λ other. end_missing c.args.text.now c.as_slice.result.now c.args.at c.if-eq.ensures (c.as_slice.ensures.value ∙ c.in-Ok.ensures))
