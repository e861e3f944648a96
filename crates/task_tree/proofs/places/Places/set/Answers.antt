use Rattle.std.proofs.Common.{◌∙◌, ap, map, slice_set}
use Rattle.std.proofs.lemmas.List.{map-set}
use Rattle.task_tree.specs.Places.{task_in}
use Rattle.task_tree.proofs.places.Places.set.Goals as goal

pub returns : goal.returns
returns c =
    map-set task_in c.self.inside.places.items c.args.key c.place_of.result
    ∙ ap (slice_set (map task_in c.self.inside.places.items) c.args.key) c.place_of.ensures
    ∙ ap (λ l. slice_set l c.args.key c.args.task) c.self.view_is
