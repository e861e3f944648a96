use Rattle.std.proofs.Common.{◌≡◌, ◌++◌, None, Bool, false, List, replicate, sym, ap, ◌∙◌, arith}
use Rattle.member_lists.proofs.Rooms.{resized}
use Rattle.process_threads.specs.declared.Place.{Place}
use Rattle.process_threads.specs.Threads.{ThreadsByKey}
use Rattle.process_threads.proofs.Kept.{AreThreads-grown}
use Rattle.process_threads.proofs.Told as told
use Rattle.process_threads.proofs.Threads.grow.Goals as goal

abbrev vacant : Place
vacant = record { children_space = 0; home = 0 }

places : (c : goal.In_ok-resize-2) → c.resize.new.self.items ≡ c.self.inside.places.items ++ replicate c.args.more vacant
places c =
    resized c.try_reserve.new.self _ c.len.result c.args.more vacant (c.len.ensures ∙ sym c.in_ok-try_reserve.ensures.len) c.in_ok-resize.ensures.items
    ∙ ap (λ (l : List Place). l ++ replicate c.args.more vacant) c.in_ok-try_reserve.ensures.items

left : (c : goal.In_ok-resize-2) → c.resize-2.new.self.items ≡ c.self.inside.left.items ++ replicate c.args.more false
left c =
    let one = c.len.ensures in
    let two = c.self.invariant.rooms in
    let three = c.self.invariant.left_rooms in
    let four = c.in_ok-try_reserve-2.ensures.len in
    resized c.try_reserve-2.new.self _ c.len.result c.args.more false (omega (arith, one, two, three, four)) c.in_ok-resize-2.ensures.items
    ∙ ap (λ (l : List Bool). l ++ replicate c.args.more false) c.in_ok-try_reserve-2.ensures.items

pub grow-requires : goal.grow-requires
grow-requires c = let rooms = told.rooms _ _ _ _ c.self.view_is c.self.invariant.rooms in let few = c.requires in omega (arith, rooms, few)

pub invariant_of-self-2 : goal.invariant_of-self-2
invariant_of-self-2 c =
    let rooms = told.rooms _ _ _ _ c.self.view_is c.self.invariant.rooms in
    let few = c.requires in
    rw (c.in_ok-grow.ensures.ok, places c, left c) (AreThreads-grown _ _ _ _ c.self.invariant c.args.more vacant (omega (arith, rooms, few)))

pub returns-clause-threads : goal.returns-clause-threads
returns-clause-threads c =
    rw (c.in_ok-grow.ensures.ok, places c) (told.threads_in-grown c.self.inside.lists c.self.inside.places.items c.self.invariant.rooms c.args.more vacant)
    ∙ ap (λ (v : ThreadsByKey). v.threads ++ replicate c.args.more None) c.self.view_is
