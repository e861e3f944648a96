use Rattle.pids_charge.proofs.Words.{ap, length, sym, ◌∙◌, length-map, Charges, control_in, limit_in, tree_of}
use Rattle.pids_charge.proofs.Controls.len.Goals as goal

pub returns : goal.returns
returns c =
    c.count.ensures ∙ sym (length-map c.self.inside.ids (control_in (tree_of c.self.inside.nodes) (limit_in c.self.inside.nodes)))
    ∙ ap (λ (v : Charges). length v.controls) c.self.view_is
