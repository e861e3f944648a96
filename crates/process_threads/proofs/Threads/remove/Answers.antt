use Rattle.std.proofs.Common.{None, ap, ◌∙◌, slice_set, arith}
use Rattle.process_threads.specs.declared.Place.{Place}
use Rattle.process_threads.specs.Threads.{ThreadsByKey}
use Rattle.process_threads.proofs.Counted.{counted-less}
use Rattle.process_threads.proofs.Kept.{AreThreads-gone}
use Rattle.process_threads.proofs.Told as told
use Rattle.process_threads.proofs.Threads.remove.Goals as goal

pub remove-requires-clause-key : goal.remove-requires-clause-key
remove-requires-clause-key c = told.owner_in_range c.self.inside.lists c.args.key (told.owned _ _ _ _ c.self.view_is c.self.invariant.rooms c.args.key c.requires)

pub remove-requires-clause-owned : goal.remove-requires-clause-owned
remove-requires-clause-owned c = told.owned _ _ _ _ c.self.view_is c.self.invariant.rooms c.args.key c.requires

pub overflow_sub-self : goal.overflow_sub-self
overflow_sub-self c =
    let some = told.owned _ _ _ _ c.self.view_is c.self.invariant.rooms c.args.key c.requires in
    let less = counted-less c.self.inside.lists c.args.key (told.owner_in_range c.self.inside.lists c.args.key some) some in
    let is = c.self.invariant.counted in
    omega (arith, less, is)

pub invariant_of-self : goal.invariant_of-self
invariant_of-self c =
    rw c.remove.ensures
    (AreThreads-gone _ _ _ _ c.self.invariant c.args.key (told.owned _ _ _ _ c.self.view_is c.self.invariant.rooms c.args.key c.requires))

pub returns-clause-threads : goal.returns-clause-threads
returns-clause-threads c =
    let d : Place = record { children_space = 0; home = 0 } in
    rw c.remove.ensures (told.threads_in-gone c.self.inside.lists c.self.inside.places.items c.self.invariant.rooms c.args.key d)
    ∙ ap (λ (v : ThreadsByKey). slice_set v.threads c.args.key None) c.self.view_is
