use Rattle.std.proofs.Common.{Some, slice_set, refl, sym, ap, ◌∙◌, arith}
use Rattle.process_threads.specs.declared.Thread.{Thread}
use Rattle.process_threads.specs.Threads.{ThreadsByKey}
use Rattle.process_threads.specs.Places.{threads_in}
use Rattle.process_threads.proofs.Told as told
use Rattle.process_threads.proofs.Threads.update.Goals as goal

pub index_mut-requires : goal.index_mut-requires
index_mut-requires c =
    let mine = sym (told.process_is _ _ _ _ c.self.view_is c.self.invariant.rooms c.args.key) ∙ c.requires in
    let low = told.owner_in_range c.self.inside.lists c.args.key (rw mine refl) in
    let places = c.self.invariant.rooms in
    omega (arith, low, places)

pub returns-clause-threads : goal.returns-clause-threads
returns-clause-threads c =
    told.threads_in-place c.self.inside.lists c.self.inside.places.items c.self.invariant.rooms c.args.key c.args.thread.process c.place_of.result
    (sym (told.process_is _ _ _ _ c.self.view_is c.self.invariant.rooms c.args.key) ∙ c.requires)
    ∙ ap (λ (t : Thread). slice_set (threads_in c.self.inside.lists c.self.inside.places.items) c.args.key (Some t)) c.place_of.ensures
    ∙ ap (λ (v : ThreadsByKey). slice_set v.threads c.args.key (Some c.args.thread)) c.self.view_is
