use Rattle.std.proofs.Common.{◌≡◌, ◌-◌, ◌+◌, Some, ℕ, List, sym, ap, ◌∙◌, subst, length, slice_get, arith}
use Rattle.std.specs.VecDeque.{deque_len}
use Rattle.std.proofs.lemmas.Option.{same_Some}
use Rattle.pid_types.specs.Short.{list_reply}
use Rattle.kept_past.specs.declared.ring.SlotReply.{SlotReply}
use Rattle.kept_past.specs.Stored.{IsListedWithin, Stored, kept_reply, replies_of}
use Rattle.kept_past.proofs.Lists.{no-list, slot-within}
use Rattle.kept_past.proofs.Places.{last-slot}
use Rattle.kept_past.proofs.ring.Ring.last_list.Goals as goal
use Rattle.kept_past.proofs.ring.Ring.last_list.Goals.{After-index}

-- the last reply is the one in the last slot
last : (c : After-index) → slice_get (replies_of c.args.self.now.entries) (length c.args.self.now.entries - 1) ≡ Some (kept_reply c.self.inside.lists.items c.self.inside.dropped c.index.result.now.reply)
last c =
    sym (ap (λ (t : Stored). slice_get (replies_of t.entries) (length t.entries - 1)) c.self.view_is)
    ∙ last-slot c.self.inside.lists.items c.self.inside.dropped c.self.inside.slots.items c.index.result.now c.len-all.result (c.len-all.ensures ∙ c.self.inside.slots.ok.0) (omega (arith, c.if-all-eq0.false)) c.index.ensures

pub list_at-requires : goal.list_at-requires
list_at-requires c =
    subst (λ (r : SlotReply). IsListedWithin c.self.inside.dropped (c.self.inside.dropped + deque_len c.self.inside.lists) r) c.in-Many.is
    (slot-within _ _ c.len-all.result (c.len-all.result - 1) c.self.inside.slots.items c.index.result.now c.self.invariant.0 (c.len-all.ensures ∙ c.self.inside.slots.ok.0) (omega (arith, c.if-all-eq0.false)) c.index.ensures)

pub returns-in-Short-clause-all : goal.returns-in-Short-clause-all
returns-in-Short-clause-all c list is _ =
    no-list c.in-Short.field-0 list
    (sym (ap (kept_reply c.self.inside.lists.items c.self.inside.dropped) c.in-Short.is) ∙ same_Some _ _ (sym (last (goal.at.returns-in-Short-clause-all c).After-index) ∙ is))

pub returns-in-Few-clause-list : goal.returns-in-Few-clause-list
returns-in-Few-clause-list c =
    last (goal.at.returns-in-Few-clause-list c).After-index
    ∙ (ap (λ (r : SlotReply). Some (kept_reply c.self.inside.lists.items c.self.inside.dropped r)) c.in-Few.is
    ∙ ap (λ (l : List ℕ). Some (list_reply l)) (sym c.as_slice.ensures.numbers))

pub returns-in-Many-clause-list : goal.returns-in-Many-clause-list
returns-in-Many-clause-list c =
    last (goal.at.returns-in-Many-clause-list c).After-index
    ∙ (ap (λ (r : SlotReply). Some (kept_reply c.self.inside.lists.items c.self.inside.dropped r)) c.in-Many.is
    ∙ ap (λ (l : List ℕ). Some (list_reply l)) (sym c.list_at.ensures.list))
