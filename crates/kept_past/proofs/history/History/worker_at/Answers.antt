use Rattle.std.proofs.Common.{sym, ap, ◌∙◌, slice_get, option_map}
use Rattle.pid_types.specs.declared.entry.Entry.{Entry}
use Rattle.kept_past.specs.Past.{Past}
use Rattle.kept_past.proofs.Places.{kept-at}
use Rattle.kept_past.proofs.history.History.worker_at.Goals as goal

pub returns : goal.returns
returns c =
    c.worker_at.ensures
    ∙ ap (option_map (λ (e : Entry). e.worker))
    (sym (kept-at c.self.inside.ring.entries c.self.inside.lag c.args.place)
    ∙ ap (λ (p : Past). slice_get p.entries c.args.place) c.self.view_is)
