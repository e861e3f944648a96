use Rattle.std.proofs.Common.{◌∙◌, arith}
use Rattle.table_text.proofs.Snapshots.{is_read_back, no_fault}
use Rattle.table_text.proofs.laws.what_is_written_is_read.Goals as goal

pub returns-clause-read : goal.returns-clause-read
returns-clause-read c = (λ state sound shows.
    is_read_back state sound c.args.plain.now shows c.dump_text.ensures.held c.args.stamp (omega (arith, c.ranges.stamp)) c.as_slice.result.now
    (c.as_slice.ensures.value ∙ c.in-Ok.ensures.text) c.read_text.result c.read_text.ensures.text c.read_text.ensures.words)

pub returns-clause-err : goal.returns-clause-err
returns-clause-err c = (λ state sound shows.
    no_fault state sound c.args.plain.now shows c.dump_text.ensures.held c.args.stamp (omega (arith, c.ranges.stamp)) c.as_slice.result.now
    (c.as_slice.ensures.value ∙ c.in-Ok.ensures.text) c.read_text.result c.read_text.ensures.err)
