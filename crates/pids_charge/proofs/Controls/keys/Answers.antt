use Rattle.pids_charge.proofs.Words.{ap, map, subst, sym, true, ◌∙◌, ◌≡◌, AllByRecursion, Control, Charges, home_id, stands, IsKeyOfId, limit_in, tree_of}
use Rattle.pids_charge.proofs.Views as views
use Rattle.pids_charge.proofs.Dropped as dropped
use Rattle.pids_charge.proofs.Controls.keys.Goals as goal

pub returns : goal.returns
returns c =
    let t = tree_of c.self.inside.nodes in
    record {
      ids = ap (map (λ p. p.0)) c.iter.ensures.all ∙ views.ids-of t (limit_in c.self.inside.nodes) c.self.inside.ids
          ∙ ap (λ (v : Charges). map (λ (g : Control). g.id) v.controls) c.self.view_is;
      keys = subst (AllByRecursion (λ p. (stands c.args.self.now p.1 ≡ true) × (home_id c.args.self.now p.1 ≡ p.0))) (sym c.iter.ensures.all)
          (dropped.all-weaken (IsKeyOfId t) _
          (λ p e. let up : stands c.args.self.now p.1 ≡ true = views.stands-of c.self.inside c.self.view_is p.1 ∙ e.0 in
          (up, views.id_in c.self.inside c.self.view_is p.1 up ∙ e.1))
          c.self.inside.ids c.self.invariant.listed.entries);
    }
