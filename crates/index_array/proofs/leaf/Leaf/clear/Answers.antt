-- The value stays in its slot and the bit goes: what is read off both has no entry there
use Rattle.std.proofs.Common.{rules, ◌∙◌, ◌≡◌, ℕ, zero, suc, get_or, None, true, false, [], ◌∷◌, sym, refl}
use Rattle.std.proofs.Math.ListN.{set}
use Rattle.index_array.specs.Tree.{slots_from}
use Rattle.index_array.specs.declared.bits.Sought.TheVariants.{Present}
use Rattle.index_array.proofs.Leaves.{SlotWritten, leaf_written}
use Rattle.index_array.proofs.Marks.{any_kept}
use Rattle.index_array.proofs.Slots.{slots_cleared}
use Rattle.index_array.proofs.WordBits.{absent_bits}
use Rattle.index_array.proofs.leaf.Leaf.clear.Goals as goal
use Rattle.index_array.proofs.leaf.Leaf.clear.Goals.{After-clear_slot-changed}

-- the slots after the write
slots : (c : After-clear_slot-changed) → slots_from c.clear_slot-changed.new.self.present 0 c.self.inside.values ≡ set (slots_from c.self.inside.words.present 0 c.self.inside.values) c.args.i None
slots c = slots_cleared _ _ c.self.inside.values c.args.i (search rules) c.requires (c.clear_slot-changed.ensures.same Present) (c.clear_slot-changed.ensures.others Present)

-- the leaf after the write
written : (c : After-clear_slot-changed) → SlotWritten c.self.inside.words c.clear_slot-changed.new.self 0 (slots_from c.self.inside.words.present 0 c.self.inside.values) (set (slots_from c.self.inside.words.present 0 c.self.inside.values) c.args.i None) [] c.args.i None
written c =
    leaf_written _ _ _ _ _ c.self.invariant refl c.args.i c.requires None (record { present = false; gap = true; marks = false ∷ false ∷ false ∷ [] }) (search rules) c.clear_slot-changed.ensures.three refl refl refl (λ off. none) (λ s. c.clear_slot-changed.ensures.same s ∙ sym (absent_bits s)) c.clear_slot-changed.ensures.others
  where
    none : (m : ℕ) → get_or (false ∷ false ∷ false ∷ []) m false ≡ false
    none zero = refl
    none (suc zero) = refl
    none (suc (suc zero)) = refl
    none (suc (suc (suc m))) = refl

pub invariant_of-self : goal.invariant_of-self
invariant_of-self c =
    let at = (goal.at.invariant_of-self c).After-clear_slot-changed in
    rw (slots at) (written at).node

pub returns : goal.returns
returns c =
    let at = (goal.at.returns c).After-clear_slot-changed in
    let all = written at in
    record {
      height = search rules;
      whole = rw (← c.self.view_is, slots at) all.whole;
      writes = rw (← c.self.view_is, slots at) all.writes;
      keeps = rw (← c.self.view_is, slots at) all.keeps;
      answer = search rules;
      same = λ off s. rw (← c.self.view_is, slots at) (any_kept _ _ _ _ _ _ _ c.self.invariant all.node s (c.clear_slot-changed.ensures.kept off s));
    }
