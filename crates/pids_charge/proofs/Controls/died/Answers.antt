use Rattle.pids_charge.proofs.Words.{arith, ◌+◌, ◌-◌}
use Rattle.pids_charge.proofs.Views as views
use Rattle.pids_charge.proofs.Written as written
use Rattle.pids_charge.proofs.Controls.died.Goals as goal

pub end_live-requires-clause-some : goal.end_live-requires-clause-some
end_live-requires-clause-some c = omega (arith, views.live-of c.self.inside c.self.view_is c.args.home, c.requires)

pub returns : goal.returns
returns c =
    let live = views.live-of c.self.inside c.self.view_is c.args.home in
    record {
      home = written.standing-changed c.self.inside.nodes c.end_live.new.nodes c.args.home (λ l. l - 1) (λ z. z + 1) c.end_live.ensures.changes
          c.self.inside.ids c.args.self.now c.self.view_is
          (written.live_stands c.args.home c.self.invariant.counted (omega (arith, live, c.requires)));
      tasks = omega (arith, views.all-of c.self.inside c.self.view_is, views.all-is c.end_live.new.nodes c.self.inside.ids, c.end_live.ensures.all);
    }
