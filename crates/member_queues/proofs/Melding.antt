-- A tree that is held and the root of its owner.
use Rattle.std.proofs.Common.{◌≡◌, ◌≢◌, ℕ, ◌<◌, List, length, set, sym, ◌∙◌, arith}
use Rattle.member_queues.specs.declared.Node.{Node}
use Rattle.member_queues.specs.declared.Side.TheVariants.{Beside}
use Rattle.member_queues.specs.Heap.{nil, node_at, root_at, IsHeap, IsSinking}
use Rattle.member_queues.proofs.Trees.{within, first_held, first_root, fits_beside}
use Rattle.member_queues.proofs.Entering.{IsHeap-crowned}

module _ (rs : List ℕ) (ns : List Node) (p held f : ℕ) (w : IsHeap rs ns held) (room : p < length rs)
    (top : held ≢ nil → (node_at ns held).owner ≡ p) (is : root_at rs p ≡ f) where
  p_some : p ≢ nil
  p_some = omega (arith, room, w.ranked.few, w.ranked.rooms)

  root_facts : f ≢ nil → ((node_at ns f).owner ≡ p) × (f ≢ held)
  root_facts some = rw is at (w.tree.tops p (λ z. some (sym is ∙ z)))

  pub root_within : f ≢ nil → f < length ns
  root_within some = within ns f (λ z. p_some (sym (root_facts some).0 ∙ z))

  pub held_within : held ≢ nil → held < length ns
  held_within some = within ns held (λ z. p_some (sym (top some) ∙ z))

  -- the held key ranks higher, and goes beside the root or further on
  pub sinks_beside_root : f ≢ nil → (held ≢ nil → (node_at ns f).rank < (node_at ns held).rank) → IsSinking Beside rs ns f held
  sinks_beside_root some lower = record {
    heap = w;
    owned = λ _ z. p_some (sym (root_facts some).0 ∙ z);
    same = λ more. top more ∙ sym (root_facts some).0;
    lower = lower;
    fits = λ _. fits_beside ns f held (rw is at (first_root rs ns held p w (λ z. some (sym is ∙ z))));
  }

  -- the held key ranks lower, and becomes the root
  pub sinks_as_root : held ≢ nil → ((f ≢ nil) × (held ≢ nil → (node_at ns f).rank < (node_at ns held).rank) → ⊥) → IsSinking Beside (set rs p held) ns held f
  sinks_as_root some not = record {
    heap = rw is at (IsHeap-crowned rs ns held p w some room (top some));
    owned = λ _ z. p_some (sym (top some) ∙ z);
    same = λ more. (root_facts more).0 ∙ sym (top some);
    lower = grind (arith, root_facts, p_some);
    fits = λ _. fits_beside ns held f (first_held rs ns held w some);
  }
