use Rattle.std.proofs.Common.{Some, refl, sym, ap, ◌∙◌, slice_get}
use Rattle.pid_types.specs.declared.entry.Entry.{Entry}
use Rattle.pid_types.specs.declared.reply.Reply.{Reply}
use Rattle.kept_past.specs.Stored.{Stored}
use Rattle.kept_past.proofs.Lists.{entry-read, slot-within}
use Rattle.kept_past.proofs.ring.Ring.get.Goals as goal

pub whole_reply-requires : goal.whole_reply-requires
whole_reply-requires c = slot-within _ _ _ c.args.place c.self.inside.slots.items _ c.self.invariant.0 c.self.inside.slots.ok.0 (c.in_ok-slot.ensures.variant.0 refl) c.in_ok-slot.ensures.lookup

pub returns : goal.returns
returns c =
    let slot = c.in_ok-slot.slot.now in
    ap (λ (r : Reply). let e : Entry = record { worker = slot.worker; call = slot.call; reply = r } in Some e) c.whole_reply.ensures
    ∙ (sym (entry-read c.self.inside.lists.items c.self.inside.dropped _ c.args.place c.self.inside.slots.items slot c.self.inside.slots.ok.0 (c.in_ok-slot.ensures.variant.0 refl) c.in_ok-slot.ensures.lookup)
    ∙ ap (λ (t : Stored). slice_get t.entries c.args.place) c.self.view_is)
