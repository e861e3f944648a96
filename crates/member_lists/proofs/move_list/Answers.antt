-- Between the writes neither list is whole: they are joined at the last member of the one, which the walk that told owners has found
use Rattle.std.proofs.Common.{◌≡◌, ◌≢◌, ℕ, List, ◌∙◌, arith}
use Rattle.member_lists.specs.declared.Link.{Link}
use Rattle.member_lists.specs.Links.{nil, link_at, head_at, AreTold, IsLinked}
use Rattle.member_lists.proofs.Linked as linked
use Rattle.member_lists.proofs.Walks as walks
use Rattle.member_lists.proofs.Joining as joining
use Rattle.member_lists.proofs.move_list.Goals as goal

-- the first member is the one's
first_owner : (hs : List ℕ) (ls : List Link) (from first : ℕ) → IsLinked hs ls → head_at hs from ≢ nil → head_at hs from ≡ first → (link_at ls first).owner ≡ from
first_owner hs ls from first w some is = rw is at ((w.head from some).0)

pub tell_owner-last-requires-clause-ends : goal.tell_owner-last-requires-clause-ends
tell_owner-last-requires-clause-ends c = grind (arith, linked.head_is, walks.all_end)

pub tell_owner-last-requires-clause-members : goal.tell_owner-last-requires-clause-members
tell_owner-last-requires-clause-members c = grind (arith, linked.head_is, first_owner, walks.are_members)

pub set_prev-requires : goal.set_prev-requires
set_prev-requires c some =
    let is = linked.head_is c.args.heads.now.items c.args.to c.index-behind.result.now c.requires.to c.index-behind.ensures in
    let lt = linked.head_within c.args.heads.now.items c.args.links.now.items c.requires.linked c.args.to c.index-behind.result.now is some in
    let e = c.tell_owner-last.ensures.told.len in
    omega (arith, lt, e)

pub returns-clause-linked : goal.returns-clause-linked
returns-clause-linked c =
    let hs : List ℕ = c.args.heads.now.items in
    let ls : List Link = c.args.links.now.items in
    let told : List Link = c.tell_owner-last.new.links.items in
    let mid : List Link = c.set_prev.new.links.items in
    let last : ℕ = c.tell_owner-last.result in
    let f = linked.head_is hs c.args.from c.index-first.result.now c.requires.from c.index-first.ensures in
    let b = linked.head_is hs c.args.to c.index-behind.result.now c.requires.to c.index-behind.ensures in
    let mine = first_owner hs ls c.args.from c.index-first.result.now c.requires.linked c.requires.some f in
    let ending : ((link_at ls last).owner ≡ c.args.from) × ((link_at ls last).next ≡ nil) = (c.tell_owner-last.ensures.last.0 ∙ mine, c.tell_owner-last.ensures.last.1) in
    let t : AreTold ls told c.args.from c.args.to = rw mine at c.tell_owner-last.ensures.told in
    let lt = joining.last_within hs ls told mid c.args.from c.args.to last c.requires.linked c.requires.from ending.0 t c.set_prev.ensures.len in
    joining.IsLinked-joined hs _ ls _ c.args.from c.args.to last c.requires.linked c.requires.differ c.requires.from c.requires.to c.requires.some ending
    (joining.Joined-set hs ls told mid c.args.from c.args.to last c.index-behind.result.now c.index-first.result.now c.index_mut.result.now c.requires.linked c.requires.differ c.requires.from c.requires.to
    ending t f b c.set_prev.ensures.here c.set_prev.ensures.others c.set_prev.ensures.len (linked.link_is mid last c.index_mut.result.now lt c.index_mut.ensures.value))

pub returns-clause-owners : goal.returns-clause-owners
returns-clause-owners c =
    let hs : List ℕ = c.args.heads.now.items in
    let ls : List Link = c.args.links.now.items in
    let told : List Link = c.tell_owner-last.new.links.items in
    let mid : List Link = c.set_prev.new.links.items in
    let last : ℕ = c.tell_owner-last.result in
    let f = linked.head_is hs c.args.from c.index-first.result.now c.requires.from c.index-first.ensures in
    let b = linked.head_is hs c.args.to c.index-behind.result.now c.requires.to c.index-behind.ensures in
    let mine = first_owner hs ls c.args.from c.index-first.result.now c.requires.linked c.requires.some f in
    let ending : ((link_at ls last).owner ≡ c.args.from) × ((link_at ls last).next ≡ nil) = (c.tell_owner-last.ensures.last.0 ∙ mine, c.tell_owner-last.ensures.last.1) in
    let t : AreTold ls told c.args.from c.args.to = rw mine at c.tell_owner-last.ensures.told in
    let lt = joining.last_within hs ls told mid c.args.from c.args.to last c.requires.linked c.requires.from ending.0 t c.set_prev.ensures.len in
    joining.owner-joined hs _ ls _ c.args.from c.args.to last c.requires.linked c.requires.differ c.requires.from c.requires.to c.requires.some ending
    (joining.Joined-set hs ls told mid c.args.from c.args.to last c.index-behind.result.now c.index-first.result.now c.index_mut.result.now c.requires.linked c.requires.differ c.requires.from c.requires.to
    ending t f b c.set_prev.ensures.here c.set_prev.ensures.others c.set_prev.ensures.len (linked.link_is mid last c.index_mut.result.now lt c.index_mut.ensures.value))
