use Rattle.pids_charge.proofs.Words.{arith, ◌+◌}
use Rattle.pids_charge.proofs.Views as views
use Rattle.pids_charge.proofs.Written as written
use Rattle.pids_charge.proofs.Controls.charge.Goals as goal

pub put_live-requires-clause-stands : goal.put_live-requires-clause-stands
put_live-requires-clause-stands c = views.stand_in c.self.inside c.self.view_is c.args.home c.requires.stands

pub put_live-requires-clause-few : goal.put_live-requires-clause-few
put_live-requires-clause-few c = omega (arith, views.all-of c.self.inside c.self.view_is, c.requires.few)

pub returns : goal.returns
returns c = record {
  home = written.standing-changed c.self.inside.nodes c.put_live.new.nodes c.args.home (λ l. l + 1) (λ z. z) c.put_live.ensures.changes
      c.self.inside.ids c.args.self.now c.self.view_is
      (views.stand_in c.self.inside c.self.view_is c.args.home c.requires.stands);
  tasks = omega (arith, views.all-of c.self.inside c.self.view_is, views.all-is c.put_live.new.nodes c.self.inside.ids, c.put_live.ensures.all);
}
