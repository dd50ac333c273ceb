use Rattle.std.proofs.Common.{leb, rules}
use Rattle.std.proofs.lemmas.List.Sorted.{IsPartitionPoint-from_clause, IsPartitionedBy-leb}
use Rattle.gs_text.proofs.lines.count_upto.Goals as goal

pub returns-clause-split : goal.returns-clause-split
returns-clause-split c =
    let parted = IsPartitionedBy-leb (λ s. s) _ c.args.offset c.requires in
    IsPartitionPoint-from_clause (λ s. leb s c.args.offset) _ _ c.partition_point.ensures.partitioned parted (λ a r q k. search rules)
