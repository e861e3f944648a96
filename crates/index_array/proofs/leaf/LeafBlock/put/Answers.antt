-- The slots are read off the bits and the values: a write changes both at one index, and the leaf is the list with one entry set
use Rattle.std.proofs.Common.{rules, ap, ◌≡◌, ◌<◌, Some, true, false, [], refl}
use Rattle.std.proofs.Math.ListN.{set}
use Rattle.index_array.specs.Tree.{slots_from}
use Rattle.index_array.specs.declared.bits.Sought.TheVariants.{Present}
use Rattle.index_array.specs.declared.bits.SlotBits.{SlotBits}
use Rattle.index_array.proofs.Leaves.{SlotWritten, leaf_index, leaf_written}
use Rattle.index_array.proofs.Marks.{any_kept}
use Rattle.index_array.proofs.Slots.{slots_set}
use Rattle.index_array.specs.Place.{entry_with}
use Rattle.index_array.proofs.leaf.LeafBlock.put.Goals as goal
use Rattle.index_array.proofs.leaf.LeafBlock.put.Goals.{After-set_slot}

-- the slots after a value is written
slots : (c : After-set_slot) → slots_from c.set_slot.new.self.present 0 (set c.self.inside.values c.args.i c.in-Some.v) ≡ set (slots_from c.self.inside.words.present 0 c.self.inside.values) c.args.i (Some c.in-Some.v)
slots c =
    let b : c.args.i < 64 = leaf_index (ap (λ v. v.height) c.self.view_is) c.requires.covered in
    slots_set _ _ c.self.inside.values c.args.i (Some c.in-Some.v) (search rules) b (c.set_slot.ensures.same Present) (c.set_slot.ensures.others Present)

-- the leaf after that
written : (c : After-set_slot) → SlotWritten c.self.inside.words c.set_slot.new.self 0 (slots_from c.self.inside.words.present 0 c.self.inside.values) (set (slots_from c.self.inside.words.present 0 c.self.inside.values) c.args.i (Some c.in-Some.v)) [] c.args.i (entry_with (Some c.in-Some.v) c.args.marks)
written c =
    let b : c.args.i < 64 = leaf_index (ap (λ v. v.height) c.self.view_is) c.requires.covered in
    let bits : SlotBits = record { present = true; gap = false; marks = c.args.marks } in
    leaf_written _ _ _ _ _ c.self.invariant refl c.args.i b (Some c.in-Some.v) bits (search rules) c.set_slot.ensures.three (search rules) refl refl (λ off. absurd (cc)) c.set_slot.ensures.same c.set_slot.ensures.others

pub invariant_of-self : goal.invariant_of-self
invariant_of-self c =
    let at = (goal.at.invariant_of-self c).After-set_slot in
    rw (slots at) (written at).node

pub returns-clause-whole : goal.returns-clause-whole
returns-clause-whole c =
    let at = (goal.at.returns-clause-whole c).After-set_slot in
    rw (← c.self.view_is, slots at) (written at).whole

pub returns-clause-writes : goal.returns-clause-writes
returns-clause-writes c =
    let at = (goal.at.returns-clause-writes c).After-set_slot in
    rw (← c.self.view_is, c.in-Some.is, slots at) (written at).writes

pub returns-clause-keeps : goal.returns-clause-keeps
returns-clause-keeps c =
    let at = (goal.at.returns-clause-keeps c).After-set_slot in
    rw (← c.self.view_is, slots at) (written at).keeps

pub returns-clause-same : goal.returns-clause-same
returns-clause-same c =
    let at = (goal.at.returns-clause-same c).After-set_slot in
    λ off s. rw (← c.self.view_is, slots at) (any_kept _ _ _ _ _ _ _ c.self.invariant (written at).node s (c.have_turned-changed.ensures off s))
