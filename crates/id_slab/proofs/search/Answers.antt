use Rattle.std.proofs.Common.{rules, ltb, arith}
use Rattle.id_slab.specs.declared.Entry.{Entry}
use Rattle.id_slab.proofs.Lives as lives
use Rattle.id_slab.proofs.search.Goals as goal
use Rattle.std.proofs.Common.{ltb-true, ltb-false}
use Rattle.std.proofs.lemmas.List.Sorted.{IsPartitionPoint-from_clause, IsPartitionedBy-ltb, IsNonDecreasingBy-from_default}

pub returns-then-i-entries : goal.returns-then-i-entries
returns-then-i-entries c =
    let sorted = IsNonDecreasingBy-from_default (λ (e : Entry). e.id) c.args.entries.now lives.none (lives.rise_le c.args.entries.now c.requires) in
    let parted = IsPartitionedBy-ltb (λ (e : Entry). e.id) c.args.entries.now c.args.id sorted in
    let point = IsPartitionPoint-from_clause (λ (e : Entry). ltb e.id c.args.id) _ _ c.partition_point-i.ensures.partitioned parted (λ a r q k. search rules) in
    lives.missed c.args.entries.now c.partition_point-i.result c.args.id (λ k d lt. ltb-true _ _ (point.0 k d (omega arith) lt)) (λ k d le lt. ltb-false _ _ (point.1 k d le lt)) c.requires
    (λ lt. absurd (omega (arith, lt, c.if-i-entries.true)))

pub returns-else-entries-i : goal.returns-else-entries-i
returns-else-entries-i c =
    let sorted = IsNonDecreasingBy-from_default (λ (e : Entry). e.id) c.args.entries.now lives.none (lives.rise_le c.args.entries.now c.requires) in
    let parted = IsPartitionedBy-ltb (λ (e : Entry). e.id) c.args.entries.now c.args.id sorted in
    let point = IsPartitionPoint-from_clause (λ (e : Entry). ltb e.id c.args.id) _ _ c.partition_point-i.ensures.partitioned parted (λ a r q k. search rules) in
    lives.missed c.args.entries.now c.partition_point-i.result c.args.id (λ k d lt. ltb-true _ _ (point.0 k d (omega arith) lt)) (λ k d le lt. ltb-false _ _ (point.1 k d le lt)) c.requires
    (λ _. c.if-entries-i.false)
