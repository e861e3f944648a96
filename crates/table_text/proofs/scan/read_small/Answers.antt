use Rattle.std.proofs.Common.{◌^◌}
use Rattle.table_text.proofs.Scanned.{not_fitting, small_missing}
use Rattle.table_text.proofs.scan.read_small.Goals as goal

pub returns-clause-missing : goal.returns-clause-missing
returns-clause-missing c =
    not_fitting (2 ^ 32) _ c.try_from.result c.ok.result _ c.try_from.ensures c.ok.ensures.value
    (small_missing c.args.text.now c.args.at.now c.read_number.new.at _ c.requires c.in_ok-read_number.ensures.read.within c.in_ok-read_number.ensures.read.read c.in_ok-read_number.ensures.read.words c.in_ok-read_number.ensures.read.stops)
