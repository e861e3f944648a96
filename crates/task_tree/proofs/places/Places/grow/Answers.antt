use Rattle.std.proofs.Common.{◌≡◌, ◌++◌, ap, map, replicate, ◌∙◌}
use Rattle.member_lists.proofs.Rooms.{resized, map-append-replicate}
use Rattle.task_tree.specs.Places.{task_in}
use Rattle.task_tree.proofs.places.Places.grow.Goals as goal

pub returns-clause-ok : goal.returns-clause-ok
returns-clause-ok c =
    let places : c.resize.new.self.items ≡ c.self.inside.places.items ++ replicate c.args.more c.vacant.result = resized c.self.inside.places _ c.len.result _ _ c.len.ensures c.in_ok-resize.ensures.items in
    rw (places, ← c.self.view_is)
    (map-append-replicate task_in _ c.args.more c.vacant.result ∙ ap (λ o. map task_in c.self.inside.places.items ++ replicate c.args.more o) c.vacant.ensures)
