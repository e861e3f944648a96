-- Two changes of one home each: where both homes are one, the second gives back what the first took
use Rattle.pids_charge.proofs.Words.{ap, arith, refl, ◌+◌, ◌-◌, ◌∙◌, charges_of, TreeOfNodes}
use Rattle.pids_charge.proofs.Views as views
use Rattle.pids_charge.proofs.Written as written
use Rattle.pids_charge.proofs.Dropped as dropped
use Rattle.pids_charge.proofs.Controls.transfer.Goals as goal

pub move_live-requires-clause-some : goal.move_live-requires-clause-some
move_live-requires-clause-some c = omega (arith, views.live-of c.self.inside c.self.view_is c.args.from, c.requires.some)

pub move_live-requires-clause-stands : goal.move_live-requires-clause-stands
move_live-requires-clause-stands c = views.stand_in c.self.inside c.self.view_is c.args.to c.requires.stands

pub invariant_of-self : goal.invariant_of-self
invariant_of-self c = grind arith

pub returns : goal.returns
returns c =
    let nodes = c.self.inside.nodes in
    let moves = c.move_live.ensures.moves in
    let mid = moves.mid in
    let ids = c.self.inside.ids in
    let v = c.args.self.now in
    let live = views.live-of c.self.inside c.self.view_is c.args.from in
    let taken = written.standing-changed nodes mid c.args.from (λ l. l - 1) (λ z. z) moves.leaves ids v c.self.view_is
    (written.live_stands c.args.from c.self.invariant.counted (omega (arith, live, c.requires.some))) in
    let put = written.standing-changed mid c.move_live.new.nodes c.args.to (λ l. l + 1) (λ z. z) moves.joins ids (charges_of mid ids) refl
    (ap (λ (t : TreeOfNodes). t.stand c.args.to) moves.leaves.tree ∙ views.stand_in c.self.inside c.self.view_is c.args.to c.requires.stands) in
    record {
      controls = put.controls ∙ taken.controls;
      homes = dropped.moves v (charges_of mid ids) _ c.args.from c.args.to taken put;
      tasks = omega (arith, views.all-of c.self.inside c.self.view_is, views.all-is c.move_live.new.nodes ids, c.move_live.ensures.all);
    }
