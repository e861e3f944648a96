use Rattle.std.proofs.Common.{◌≡◌, ◌<◌, option_map, ap, ◌∙◌, arith}
use Rattle.process_threads.specs.declared.Place.{Place}
use Rattle.process_threads.specs.Places.{thread_in}
use Rattle.process_threads.proofs.Counted.{none-counted, some-counted}
use Rattle.process_threads.proofs.Told as told
use Rattle.process_threads.proofs.Threads.is_empty.Goals as goal

pub returns-clause-none : goal.returns-clause-none
returns-clause-none c none k =
    let zero_is : c.self.inside.count ≡ 0 = grind (arith, none) in
    let is = c.self.invariant.counted in
    let d : Place = record { children_space = 0; home = 0 } in
    told.thread_is _ _ _ _ c.self.view_is c.self.invariant.rooms k d
    ∙ ap (option_map (thread_in _)) (none-counted c.self.inside.lists (omega (arith, zero_is, is)) k)

pub returns-clause-some : goal.returns-clause-some
returns-clause-some c some =
    let above : 0 < c.self.inside.count = grind (arith, some) in
    let is = c.self.invariant.counted in
    let one = some-counted c.self.inside.lists (omega (arith, above, is)) in
    (one.0, told.there _ _ _ _ c.self.view_is c.self.invariant.rooms one.0 one.1)
