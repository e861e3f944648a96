-- What is written at a node beside its tree: a level, and at a root the member that came last.
use Rattle.std.proofs.Common.{◌≡◌, ◌≢◌, inl, inr, ℕ, ◌<◌, List, length, set, refl, sym, ap, ◌∙◌, arith, slice_index_or}
use Rattle.std.proofs.lemmas.Bool.{cases_eq}
use Rattle.std.proofs.lemmas.List.{get_or_past, get_or-set_same, get_or-set_other, length-set}
use Rattle.member_queues.specs.declared.Node.{Node}
use Rattle.member_queues.specs.Heap.{nil, blank, node_at, root_at, IsHeap}
use Rattle.member_queues.proofs.Trees.{within, node_is, IsHeap-marked}

-- the level of a run
module _ (rs : List ℕ) (ns : List Node) (at level : ℕ) (z : Node) (w : IsHeap rs ns nil) (lt : at < length ns) (ez : z ≡ slice_index_or ns at z) where
  abbrev x : Node
  x = record { owner = z.owner; rank = z.rank; above = z.above; next = z.next; beside = z.beside; level = level }

  here : node_at (set ns at x) at ≡ record (node_at ns at) { level = level }
  here = get_or-set_same ns at x blank lt ∙ ap (λ (n : Node). record n { level = level }) (node_is ns at z lt ez)

  others : (j : ℕ) → j ≢ at → node_at (set ns at x) j ≡ node_at ns j
  others j differs = get_or-set_other ns at j x blank differs

  pub IsHeap-leveled : IsHeap rs (set ns at x) nil
  IsHeap-leveled = IsHeap-marked rs ns (set ns at x) w (record {
    own = λ j. elim (cases_eq j at) [ inl e ↦ rw (e, here) refl | inr differs ↦ ap (λ (n : Node). n.owner) (others j differs) ];
    ranks = λ j. elim (cases_eq j at) [ inl e ↦ rw (e, here) refl | inr differs ↦ ap (λ (n : Node). n.rank) (others j differs) ];
    above = λ j _. elim (cases_eq j at) [ inl e ↦ rw (e, here) refl | inr differs ↦ ap (λ (n : Node). n.above) (others j differs) ];
    nexts = λ j. elim (cases_eq j at) [ inl e ↦ rw (e, here) refl | inr differs ↦ ap (λ (n : Node). n.next) (others j differs) ];
    besides = λ j. elim (cases_eq j at) [ inl e ↦ rw (e, here) refl | inr differs ↦ ap (λ (n : Node). n.beside) (others j differs) ];
    len = length-set ns at x;
  })

-- a root, where there is one
pub root_owner : (rs : List ℕ) (ns : List Node) (p r : ℕ) → IsHeap rs ns nil → root_at rs p ≡ r → r ≢ nil → (node_at ns r).owner ≡ p
root_owner rs ns p r w is some = rw is at ((w.tree.tops p (λ z. some (sym is ∙ z))).0)

pub root_owned : (rs : List ℕ) (ns : List Node) (p r : ℕ) → IsHeap rs ns nil → p < length rs → root_at rs p ≡ r → r ≢ nil → (node_at ns r).owner ≢ nil
root_owned rs ns p r w room is some z = grind (arith, root_owner)

pub root_within : (rs : List ℕ) (ns : List Node) (p r : ℕ) → IsHeap rs ns nil → p < length rs → root_at rs p ≡ r → r ≢ nil → r < length ns
root_within rs ns p r w room is some = within ns r (root_owned rs ns p r w room is some)

-- the member that came last
pub IsHeap-topped : (rs : List ℕ) (ns ns' : List Node) (p r key : ℕ) → IsHeap rs ns nil → root_at rs p ≡ r
    → (r ≢ nil → node_at ns' r ≡ record (node_at ns r) { above = key }) → ((j : ℕ) → j ≢ r → node_at ns' j ≡ node_at ns j) → length ns' ≡ length ns
    → IsHeap rs ns' nil
IsHeap-topped rs ns ns' p r key w is here others len = IsHeap-marked rs ns ns' w (record {
  own = λ j. elim (cases_eq j r) [ inl e ↦ rw e (same_at (λ n. n.owner) refl) | inr differs ↦ ap (λ (n : Node). n.owner) (others j differs) ];
  ranks = λ j. elim (cases_eq j r) [ inl e ↦ rw e (same_at (λ n. n.rank) refl) | inr differs ↦ ap (λ (n : Node). n.rank) (others j differs) ];
  above = λ j away. elim (cases_eq j r) [
    | inl e ↦ elim (cases_eq r nil) [
      | inl none ↦ rw e (ap (λ (n : Node). n.above) (past none))
      | inr some ↦ absurd (away (ap (λ i. root_at rs (node_at ns i).owner) e ∙ ap (root_at rs) (mine some) ∙ is ∙ sym e))
    ]
    | inr differs ↦ ap (λ (n : Node). n.above) (others j differs)
  ];
  nexts = λ j. elim (cases_eq j r) [ inl e ↦ rw e (same_at (λ n. n.next) refl) | inr differs ↦ ap (λ (n : Node). n.next) (others j differs) ];
  besides = λ j. elim (cases_eq j r) [ inl e ↦ rw e (same_at (λ n. n.beside) refl) | inr differs ↦ ap (λ (n : Node). n.beside) (others j differs) ];
  len = len;
})
  where
    mine : r ≢ nil → (node_at ns r).owner ≡ p
    mine = root_owner rs ns p r w is

    past : r ≡ nil → node_at ns' r ≡ node_at ns r
    past none = grind (arith, get_or_past)

    same_at : (f : Node → ℕ) → f (record (node_at ns r) { above = key }) ≡ f (node_at ns r) → f (node_at ns' r) ≡ f (node_at ns r)
    same_at f e = elim (cases_eq r nil) [ inl none ↦ ap f (past none) | inr some ↦ ap f (here some) ∙ e ]
