use Rattle.std.proofs.Common.{rules, sym}
use Rattle.std.specs.Prelude.{nat_le}
use Rattle.std.proofs.lemmas.List.Sorted.{IsPartitionPoint-from_clause, IsPartitionedBy-leb}
use Rattle.pmt_causes.proofs.CountedLemmas.{count-partition}
use Rattle.pmt_causes.proofs.late.fences_by.Goals as goal

pub returns : goal.returns
returns c =
    let list = c.args.fences.now in
    sym (count-partition (λ k. nat_le k c.args.place) list c.partition_point.result 0 c.partition_point.ensures.bound
    (IsPartitionPoint-from_clause (λ k. nat_le k c.args.place) list c.partition_point.result c.partition_point.ensures.partitioned
    (IsPartitionedBy-leb (λ k. k) list c.args.place c.requires) (λ a r g q. search rules)))
