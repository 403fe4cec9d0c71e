use Rattle.std.proofs.Common.{◌≡◌, ◌∙◌, ap, sym, arith, rules}
use Rattle.std.{specs.Prelude.{nat_le, slice_get}, proofs.lemmas.List.Sorted.{IsPartitionPoint-from_clause, IsPartitionedBy-leb}}
use Rattle.check_judging.{specs.Keys.up_to, proofs.SortedKeys.at_index}
use Rattle.check_verdict.{specs.Covering.comes_by, proofs.NextKeys.next_comes}
use Rattle.check_verdict.proofs.keys.next_key.Goals as goal

pub returns : goal.returns
returns c = λ other.
    let keys = c.args.keys.now in
    let key = c.args.key in
    let parted = IsPartitionedBy-leb (λ x. x) keys key c.requires in
    let point = IsPartitionPoint-from_clause (λ x. nat_le x key) _ _ c.partition_point-index.ensures.partitioned parted (λ a r q k. search rules) in
    let number : c.partition_point-index.result ≡ up_to key keys =
    at_index (λ x. nat_le x key) c.partition_point-index.result keys c.partition_point-index.ensures.bound
    (λ k d l. point.0 k d (omega arith) l) (λ k d g l. point.1 k d g l) in
    next_comes other (up_to key keys) keys c.requires
    ∙ ap (λ k. comes_by other (slice_get keys k)) (sym number)
    ∙ ap (comes_by other) (sym c.key_at.ensures)
