use Rattle.std.proofs.Common.{◌∙◌, arith}
use Rattle.pid_numbers.proofs.Begins as begins
use Rattle.pid_numbers.proofs.spaces.first_ids.Goals as goal

pub commit_marked-requires-clause-planned : goal.commit_marked-requires-clause-planned
commit_marked-requires-clause-planned c =
    let max = c.new-ids.ensures.pid_max in
    let good = c.requires.0 in
    c.in_ok-prepare.ensures.planned ∙ begins.fresh c.new-ids.result c.new-ids.ensures.cursor (omega (arith, max, good)) c.new-ids.ensures.empty
