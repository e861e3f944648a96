use Rattle.std.proofs.Common.{Some, slice_set, ap, ◌∙◌, arith}
use Rattle.process_threads.specs.declared.Thread.{Thread}
use Rattle.process_threads.specs.Threads.{ThreadsByKey}
use Rattle.process_threads.specs.Places.{threads_in}
use Rattle.process_threads.proofs.Kept.{AreThreads-entered}
use Rattle.process_threads.proofs.Told as told
use Rattle.process_threads.proofs.Threads.enter.Goals as goal

pub add-requires-clause-key : goal.add-requires-clause-key
add-requires-clause-key c = let rooms = told.rooms _ _ _ _ c.self.view_is c.self.invariant.rooms in let low = c.requires.key in omega (arith, rooms, low)

pub add-requires-clause-free : goal.add-requires-clause-free
add-requires-clause-free c = told.vacant _ _ _ _ c.self.view_is c.self.invariant.rooms c.args.key c.requires.vacant

pub add-requires-clause-owner : goal.add-requires-clause-owner
add-requires-clause-owner c = let rooms = told.rooms _ _ _ _ c.self.view_is c.self.invariant.rooms in let low = c.requires.process in omega (arith, rooms, low)

pub index_mut-requires : goal.index_mut-requires
index_mut-requires c =
    let rooms = told.rooms _ _ _ _ c.self.view_is c.self.invariant.rooms in
    let low = c.requires.key in
    let places = c.self.invariant.rooms in
    omega (arith, rooms, low, places)

pub invariant_of-self : goal.invariant_of-self
invariant_of-self c =
    let rooms = told.rooms _ _ _ _ c.self.view_is c.self.invariant.rooms in
    let key = c.requires.key in
    let process = c.requires.process in
    rw c.add.ensures
    (AreThreads-entered _ _ _ _ c.self.invariant c.args.key c.args.thread.process c.place_of.result
    (omega (arith, rooms, key)) (omega (arith, rooms, process)) (told.vacant _ _ _ _ c.self.view_is c.self.invariant.rooms c.args.key c.requires.vacant))

pub returns-clause-threads : goal.returns-clause-threads
returns-clause-threads c =
    rw c.add.ensures (told.threads_in-set c.self.inside.lists c.self.inside.places.items c.self.invariant.rooms c.args.key (Some c.args.thread.process) c.place_of.result)
    ∙ ap (λ (t : Thread). slice_set (threads_in c.self.inside.lists c.self.inside.places.items) c.args.key (Some t)) c.place_of.ensures
    ∙ ap (λ (v : ThreadsByKey). slice_set v.threads c.args.key (Some c.args.thread)) c.self.view_is
