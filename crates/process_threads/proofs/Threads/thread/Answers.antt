use Rattle.std.proofs.Common.{◌≡◌, Some, option_map, refl, sym, ap, ◌∙◌, arith}
use Rattle.member_lists.specs.Owners.{owner_of}
use Rattle.process_threads.specs.declared.Place.{Place}
use Rattle.process_threads.specs.Places.{thread_in}
use Rattle.process_threads.proofs.Told as told
use Rattle.process_threads.proofs.Threads.thread.Goals as goal

pub index-place-requires : goal.index-place-requires
index-place-requires c =
    let mine : owner_of c.self.inside.lists c.args.key ≡ Some c.in_ok-process.process =
    sym (told.process_is _ _ _ _ c.self.view_is c.self.invariant.rooms c.args.key) ∙ sym c.in_ok-process.ensures in
    let low = told.owner_in_range c.self.inside.lists c.args.key (rw mine refl) in
    let places = c.self.invariant.rooms in
    omega (arith, low, places)

pub returns : goal.returns
returns c =
    let mine : owner_of c.self.inside.lists c.args.key ≡ Some c.in_ok-process.process =
    sym (told.process_is _ _ _ _ c.self.view_is c.self.invariant.rooms c.args.key) ∙ sym c.in_ok-process.ensures in
    sym (
    told.thread_is _ _ _ _ c.self.view_is c.self.invariant.rooms c.args.key c.index-place.result.now
    ∙ ap (λ (place : Place). option_map (thread_in place) (owner_of c.self.inside.lists c.args.key)) (sym c.index-place.ensures)
    ∙ ap (option_map (thread_in c.index-place.result.now)) mine
    )
