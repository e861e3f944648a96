use Rattle.std.proofs.Common.{arith, ap, ◌≡◌, ◌%◌, ◌<◌, refl}
use Rattle.index_array.specs.Place.{place_at}
use Rattle.index_array.proofs.Leaves.{leaf_index, leaf_prepared}
use Rattle.index_array.proofs.leaf.LeafBlock.leaf.Goals as goal

pub returns : goal.returns
returns c =
    let slot : c.args.i < 64 = leaf_index (ap (λ v. v.height) c.self.view_is) c.requires in
    record {
      place = refl;
      slot = omega (arith, slot);
      whole = λ j e. ap (place_at c.args.self.now.places) (let own : j ≡ j % 64 = omega (arith, slot, e) in own);
      prepared = rw (← c.self.view_is) (leaf_prepared _ _ _ _ c.self.invariant refl c.args.i slot);
    }
