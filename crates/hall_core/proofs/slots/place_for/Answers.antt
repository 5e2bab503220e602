use Rattle.std.proofs.Common.{ltb, ltb-true, ltb-false, rules}
use Rattle.std.proofs.lemmas.List.Sorted.{IsPartitionPoint-from_clause, IsPartitionedBy-ltb}
use Rattle.hall_core.proofs.slots.place_for.Goals as goal

pub returns-clause-between : goal.returns-clause-between
returns-clause-between g c =
    let parted = IsPartitionedBy-ltb (λ s. s.number) _ c.args.number c.requires in
    let point = IsPartitionPoint-from_clause (λ s. ltb s.number c.args.number) _ _
    c.partition_point.ensures.partitioned parted (λ a r q k. search rules) in (
      λ k d low high. ltb-true _ _ (point.0 k d low high),
      λ k d low high. ltb-false _ _ (point.1 k d low high),
    )
