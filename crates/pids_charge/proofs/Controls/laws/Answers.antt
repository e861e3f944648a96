use Rattle.pids_charge.proofs.Words.{ap, is_some, sym, ◌∙◌, control_at, Charges, limit_in, tree_of}
use Rattle.pids_charge.proofs.Views as views
use Rattle.pids_charge.proofs.Controls.laws.Goals as goal

pub returns : goal.returns
returns c =
    let t = tree_of c.self.inside.nodes in
    let limits = limit_in c.self.inside.nodes in
    let stand = views.stand_in c.self.inside c.self.view_is in
    let id = views.id_in c.self.inside c.self.view_is in
    let l = c.self.invariant.listed in
    record {
      ended = λ k off.
          views.live-of c.self.inside c.self.view_is k ∙ c.self.invariant.counted.ended k (sym (views.stands-of c.self.inside c.self.view_is k) ∙ off);
      ids = λ j k on at same. views.same_key t limits c.self.inside.children c.self.inside.ids l j k (stand j on) (stand k at) (sym (id j on) ∙ same ∙ id k at);
      listed = λ k on.
          ap is_some (ap (control_at c.args.self.now.controls) (id k on) ∙ sym (ap (λ (v : Charges). control_at v.controls (t.id k)) c.self.view_is)
          ∙ views.found t limits c.self.inside.children c.self.inside.ids l k (stand k on));
    }
