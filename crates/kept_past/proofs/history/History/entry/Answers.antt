use Rattle.std.proofs.Common.{sym, ap, ◌∙◌, slice_get}
use Rattle.kept_past.specs.Past.{Past}
use Rattle.kept_past.proofs.Places.{kept-at}
use Rattle.kept_past.proofs.history.History.entry.Goals as goal

pub returns : goal.returns
returns c =
    c.get.ensures
    ∙ (sym (kept-at c.self.inside.ring.entries c.self.inside.lag c.args.place)
    ∙ ap (λ (p : Past). slice_get p.entries c.args.place) c.self.view_is)
