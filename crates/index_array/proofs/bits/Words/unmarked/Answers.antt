use Rattle.std.proofs.Common.{rules, ap, ◌∙◌, not, ◌&&◌, ◌||◌, slice_index_or}
use Rattle.std.specs.Int.{bit_not, w64}
use Rattle.std.specs.Prelude.{bit_or}
use Rattle.std.proofs.lemmas.Nat.{or_lt}
use Rattle.index_array.specs.Words.{has_bit}
use Rattle.index_array.proofs.OneBit.{has_bit-and, has_bit-not, has_bit-or}
use Rattle.index_array.proofs.bits.Words.unmarked.Goals as goal

pub returns : goal.returns
returns c = λ k below.
    let w = c.args.self.now in
    let first = slice_index_or w.marks 0 0 in
    let second = slice_index_or w.marks 1 0 in
    let third = slice_index_or w.marks 2 0 in
    let any = bit_or first (bit_or second third) in
    has_bit-and w.present (bit_not w64 any) k
    ∙ ap (λ b. has_bit w.present k && b)
    (has_bit-not any k (or_lt 64 first (bit_or second third) (search rules) (or_lt 64 second third (search rules) (search rules))) below
    ∙ ap not (has_bit-or first (bit_or second third) k ∙ ap (λ b. has_bit first k || b) (has_bit-or second third k)))
