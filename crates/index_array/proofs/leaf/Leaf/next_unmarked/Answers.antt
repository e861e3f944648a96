use Rattle.std.proofs.Common.{◌∙◌, sym, refl}
use Rattle.index_array.proofs.Finding.{first_by}
use Rattle.index_array.proofs.Unmarked.{leaf_unmarked}
use Rattle.index_array.proofs.leaf.Leaf.next_unmarked.Goals as goal

pub returns : goal.returns
returns c =
    rw (← c.self.view_is) (first_by _ c.unmarked.result (λ k below. leaf_unmarked _ _ _ _ c.self.invariant refl k below ∙ sym (c.unmarked.ensures k below)) c.args.from c.next_bit.result c.next_bit.ensures)
