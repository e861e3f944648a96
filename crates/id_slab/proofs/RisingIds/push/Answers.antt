use Rattle.std.proofs.Common.{◌∙◌, [], ◌∷◌, Some, refl, ap, arith, length}
use Rattle.std.proofs.lemmas.List.{length-append}
use Rattle.id_slab.specs.Ids.{AreBelow}
use Rattle.id_slab.specs.Entries.{live}
use Rattle.id_slab.specs.declared.Entry.{Entry}
use Rattle.id_slab.proofs.Lives as lives
use Rattle.id_slab.proofs.RisingIds.push.Goals as goal

-- there are no more ids than there were entries before
pub prove-unreachable-requires : goal.prove-unreachable-requires
prove-unreachable-requires c =
    let few = lives.live-few c.trim.new.entries.items in
    let same = ap length c.trim.ensures.live in
    absurd (omega (arith, few, same, c.self.invariant.1, c.len.ensures, c.in_ok-push.ensures.len, c.if-prove.true))

pub invariant_of-self-2 : goal.invariant_of-self-2
invariant_of-self-2 c =
    let below : AreBelow (live c.trim.new.entries.items) c.args.id = rw (c.trim.ensures.live, c.self.view_is) c.requires in
    let item : Entry = record { id = c.args.id; key = Some c.args.key } in
    let rise = lives.Rise-push c.trim.new.entries.items item c.trim.ensures.rise (lives.all-below c.trim.new.entries.items c.args.id c.trim.ensures.rise c.trim.ensures.ends below) in
    let more = ap length (lives.live-push c.trim.new.entries.items c.args.id c.args.key) ∙ length-append (live c.trim.new.entries.items) ((c.args.id, c.args.key) ∷ []) in
    let same = ap length c.trim.ensures.live in
    rw c.in_ok-push.ensures.items (rise, omega (arith, more, same, c.self.invariant.1))

pub returns-clause-ok : goal.returns-clause-ok
returns-clause-ok c = rw c.in_ok-push.ensures.items (lives.live-push c.trim.new.entries.items c.args.id c.args.key ∙ rw (c.trim.ensures.live, c.self.view_is) refl)
