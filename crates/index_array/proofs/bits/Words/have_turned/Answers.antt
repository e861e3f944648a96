use Rattle.std.proofs.Common.{rules}
use Rattle.index_array.proofs.WordBits.{words_kept, neither}
use Rattle.index_array.proofs.bits.Words.have_turned.Goals as goal

pub returns : goal.returns
returns c =
    λ off.
    let last = neither _ _ off in
    let fourth = neither _ _ last.0 in
    let third = neither _ _ fourth.0 in
    let both = neither _ _ third.0 in
    words_kept c.args.before.now c.args.self.now (search rules) (search rules) (c.has_turned-present.ensures both.0) (c.has_turned-gap.ensures both.1) (c.has_turned-first.ensures third.1) (c.has_turned-second.ensures fourth.1) (c.has_turned-third.ensures last.1)
