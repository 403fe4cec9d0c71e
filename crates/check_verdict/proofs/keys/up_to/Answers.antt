use Rattle.std.proofs.Common.{arith, rules}
use Rattle.std.{specs.Prelude.nat_le, proofs.lemmas.List.Sorted.{IsPartitionPoint-from_clause, IsPartitionedBy-leb}}
use Rattle.check_judging.proofs.SortedKeys.{at_index}
use Rattle.check_verdict.proofs.keys.up_to.Goals as goal

pub returns-clause-number : goal.returns-clause-number
returns-clause-number c =
    let parted = IsPartitionedBy-leb (λ x. x) c.args.keys.now c.args.key c.requires in
    let point = IsPartitionPoint-from_clause (λ x. nat_le x c.args.key) _ _ c.partition_point.ensures.partitioned parted (λ a r q k. search rules) in
    at_index (λ x. nat_le x c.args.key) c.partition_point.result c.args.keys.now c.partition_point.ensures.bound
    (λ k d l. point.0 k d (omega arith) l) (λ k d g l. point.1 k d g l)
