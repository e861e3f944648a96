-- A mark is a bit beside the values, so no entry changes; where no entry is, no mark is set
use Rattle.std.proofs.Common.{rules, ap, sym, ◌∙◌, ◌≡◌, ◌<◌, refl, is_some}
use Rattle.index_array.specs.Place.{entry_at}
use Rattle.index_array.specs.Tree.{slots_from}
use Rattle.index_array.specs.declared.bits.Sought.TheVariants.{Present}
use Rattle.index_array.proofs.Blocks.{leaf_bit}
use Rattle.index_array.proofs.Changes.{marks_nothing}
use Rattle.index_array.proofs.Leaves.{leaf_index, leaf_marked}
use Rattle.index_array.proofs.leaf.LeafBlock.put_mark.Goals as goal
use Rattle.index_array.proofs.leaf.LeafBlock.put_mark.Goals.{After-has_bit, After-set_mark}

-- the slot's bit says whether there is an entry
there : (c : After-has_bit) → is_some (entry_at c.args.self.now.places c.args.i) ≡ c.has_bit.result
there c =
    let b : c.args.i < 64 = leaf_index (ap (λ v. v.height) c.self.view_is) c.requires.covered in
    rw (← c.self.view_is) (leaf_bit _ _ _ _ c.self.invariant refl Present c.args.i b ∙ sym c.has_bit.ensures)

pub returns-then-not-has_bit-clause-writes : goal.returns-then-not-has_bit-clause-writes
returns-then-not-has_bit-clause-writes c =
    marks_nothing _ c.args.i c.args.mark c.args.on (there (goal.at.returns-then-not-has_bit-clause-writes c).After-has_bit ∙ c.if-not-has_bit.true)

pub returns-then-not-has_bit-clause-answer : goal.returns-then-not-has_bit-clause-answer
returns-then-not-has_bit-clause-answer c = sym (there (goal.at.returns-then-not-has_bit-clause-answer c).After-has_bit ∙ c.if-not-has_bit.true)

-- the slots have the values that they had
slots : (c : After-set_mark) → slots_from c.set_mark.new.self.present 0 c.self.inside.values ≡ slots_from c.self.inside.words.present 0 c.self.inside.values
slots c = ap (λ p. slots_from p 0 c.self.inside.values) (c.set_mark.ensures.rest Present (λ e. cc))

pub invariant_of-self : goal.invariant_of-self
invariant_of-self c =
    let b : c.args.i < 64 = leaf_index (ap (λ v. v.height) c.self.view_is) c.requires.covered in
    let with = c.set_mark.ensures in
    rw (slots (goal.at.invariant_of-self c).After-set_mark) (leaf_marked _ _ _ _ _ c.self.invariant refl c.args.i b c.args.mark c.requires.mark c.args.on (search rules) with.three (sym c.has_bit.ensures ∙ c.if-not-has_bit.false) with.same with.others with.rest).node

pub returns : goal.returns
returns c =
    let b : c.args.i < 64 = leaf_index (ap (λ v. v.height) c.self.view_is) c.requires.covered in
    let at = (goal.at.returns c).After-set_mark in
    let with = c.set_mark.ensures in
    let all = leaf_marked _ _ _ _ _ c.self.invariant refl c.args.i b c.args.mark c.requires.mark c.args.on (search rules) with.three (sym c.has_bit.ensures ∙ c.if-not-has_bit.false) with.same with.others with.rest in
    record {
      height = search rules;
      whole = rw (← c.self.view_is, slots at) all.whole;
      writes = rw (← c.self.view_is, slots at) all.writes;
      keeps = rw (← c.self.view_is, slots at) all.keeps;
      answer = sym (there (goal.at.returns c).After-has_bit ∙ c.if-not-has_bit.false);
    }
