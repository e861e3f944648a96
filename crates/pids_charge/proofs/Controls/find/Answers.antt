use Rattle.pids_charge.proofs.Words.{sym}
use Rattle.pids_charge.proofs.Views as views
use Rattle.pids_charge.proofs.Controls.find.Goals as goal

pub returns : goal.returns
returns c =
    let found = views.find_is c.self.inside c.self.view_is c.self.invariant.listed c.args.id
    c.find.result (sym c.find.ensures) in
    record { there = found.0; stands = found.1; id = found.2; only = found.3 }
