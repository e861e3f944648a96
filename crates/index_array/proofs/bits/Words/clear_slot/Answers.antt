use Rattle.std.proofs.Common.{rules, ◌∙◌}
use Rattle.index_array.specs.declared.bits.Sought.TheVariants.{Present, Gap, Mark}
use Rattle.index_array.proofs.WordBits.{words_kept, neither, kept_more, absent_bits}
use Rattle.index_array.proofs.bits.Words.clear_slot.Goals as goal

pub returns-clause-same : goal.returns-clause-same
returns-clause-same c = λ s. c.set_slot.ensures.same s ∙ absent_bits s

pub returns-clause-kept : goal.returns-clause-kept
returns-clause-kept c =
    λ off.
    let last = neither _ _ off in
    let fourth = neither _ _ last.0 in
    let third = neither _ _ fourth.0 in
    let both = neither _ _ third.0 in
    words_kept c.args.self.now c.set_slot.new.self (search rules) c.set_slot.ensures.three
    (c.loses_all-present.ensures both.0 _ (c.set_slot.ensures.same Present) (c.set_slot.ensures.others Present))
    (kept_more c.args.self.now.gap _ c.args.k (search rules) both.1 c.requires (c.set_slot.ensures.same Gap))
    (c.loses_all-first.ensures third.1 _ (c.set_slot.ensures.same (Mark 0)) (c.set_slot.ensures.others (Mark 0)))
    (c.loses_all-second.ensures fourth.1 _ (c.set_slot.ensures.same (Mark 1)) (c.set_slot.ensures.others (Mark 1)))
    (c.loses_all-third.ensures last.1 _ (c.set_slot.ensures.same (Mark 2)) (c.set_slot.ensures.others (Mark 2)))
