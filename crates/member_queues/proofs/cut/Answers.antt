-- What was beside the key hangs where the key hung: the key ranked between the two, so ranks still rise, and the key itself is held
use Rattle.std.proofs.Common.{◌≡◌, inl, inr, ℕ, ◌<◌, length, refl, sym, ap, ◌∙◌, arith, List, set}
use Rattle.std.proofs.lemmas.Grind.{common_steps}
use Rattle.std.proofs.Math.Seq.{map-set_same}
use Rattle.std.proofs.lemmas.List.{length-set}
use Rattle.member_queues.specs.declared.Node.{Node}
use Rattle.member_queues.specs.Heap.{nil, node_at}
use Rattle.member_queues.proofs.Trees as trees
use Rattle.member_queues.proofs.Filling as filling
use Rattle.member_queues.proofs.cut.Goals as goal

pub index-requires : goal.index-requires
index-requires c = grind (arith, common_steps)

pub set_child-requires-clause-owner : goal.set_child-requires-clause-owner
set_child-requires-clause-owner c = grind (arith, common_steps)

pub set_child-requires-clause-above : goal.set_child-requires-clause-above
set_child-requires-clause-above c away =
    trees.above_within _ _ c.args.key c.index.result.now c.requires.heap c.requires.owned c.index.ensures away

pub set_above-requires : goal.set_above-requires
set_above-requires c some =
    let ns : List Node = c.args.forest.now.nodes.items in
    let is = trees.node_is ns c.args.key c.index.result.now (trees.within ns c.args.key c.requires.owned) c.index.ensures in
    let lt = filling.side_within _ ns c.args.key c.index.result.now.beside c.requires.heap c.requires.owned (inr (sym (ap (λ (n : Node). n.beside) is))) some in
    let len = c.set_child.ensures.len in
    omega (arith, lt, len)

pub index_mut-requires : goal.index_mut-requires
index_mut-requires c = grind (arith, common_steps)

pub returns-clause-kept : goal.returns-clause-kept
returns-clause-kept c =
    let rs : List ℕ = c.args.forest.now.roots.items in
    let rs' : List ℕ = c.set_child.new.forest.roots.items in
    let ns : List Node = c.args.forest.now.nodes.items in
    let n2 : List Node = c.set_above.new.nodes.items in
    let k = c.args.key in
    let key = trees.within ns k c.requires.owned in
    let is = trees.node_is ns k c.index.result.now key c.index.ensures in
    let s = c.set_child.ensures in
    let len2 = c.set_above.ensures.len in
    let key2 : k < length n2 = let len1 = s.len in omega (arith, key, len1, len2) in
    let z = c.index_mut.result.now in
    let ez = trees.node_is n2 k z key2 c.index_mut.ensures.value in
    let x : Node = record { owner = z.owner; rank = z.rank; above = z.above; next = z.next; beside = 4294967295; level = z.level } in
    let o : ℕ = (node_at ns k).next in
    let t = filling.written rs rs' ns c.set_child.new.forest.nodes.items n2 k c.index.result.now.beside o
    c.index.result.now x c.requires.heap c.requires.owned (inr (refl, sym (ap (λ (n : Node). n.beside) is))) is s.root s.roots s.next s.beside s.others s.len s.rooms
    c.set_above.ensures.here c.set_above.ensures.others len2 (ap (λ (n : Node). n.rank) ez) in
    let next : (node_at (set n2 k x) k).next ≡ o = ap (λ (n : Node). n.next) t.1 ∙ ap (λ (n : Node). n.next) ez ∙ t.3 in
    let beside : (node_at (set n2 k x) k).beside ≡ nil = ap (λ (n : Node). n.beside) t.1 in
    record {
      heap = filling.IsHeap-cut rs ns k c.index.result.now.beside o c.requires.heap c.requires.owned (inr (refl, sym (ap (λ (n : Node). n.beside) is))) rs' (set n2 k x) t.0
          (ap (λ (n : Node). n.owner) t.1 ∙ ap (λ (n : Node). n.owner) ez ∙ t.2)
          (λ m some below. elim below [ inl e ↦ sym e ∙ next | inr e ↦ absurd (some (sym e ∙ beside)) ])
          (λ _. inl next)
          (λ some e. some (e ∙ beside)) refl;
      members = grind (arith, trees.within, map-set_same, trees.node_is);
      len = grind (arith, length-set);
      rooms = s.rooms;
    }

pub returns-clause-alone : goal.returns-clause-alone
returns-clause-alone c = grind (arith, common_steps)
