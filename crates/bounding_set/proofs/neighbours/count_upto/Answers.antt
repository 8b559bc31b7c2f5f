use Rattle.std.proofs.Common.{leb, leb-true, leb-false, rules}
use Rattle.std.proofs.lemmas.Fn.{always_returns_same}
use Rattle.std.proofs.lemmas.List.Sorted.{IsPartitionedBy-leb}
use Rattle.bounding_set.proofs.NeighbourLemmas.{overheads_follow}
use Rattle.bounding_set.proofs.neighbours.count_upto.Goals as goal

pub returns-clause-upto : goal.returns-clause-upto
returns-clause-upto c =
    let point = c.partition_point.ensures.partitioned (λ l. leb l.tuple.overhead c.args.overhead)
    (always_returns_same _ _ _ (λ a r f k. search rules))
    (IsPartitionedBy-leb (λ l. l.tuple.overhead) c.args.announced.now c.args.overhead (overheads_follow c.args.announced.now c.requires)) in
    λ k d low below. leb-true _ _ (point.0 k d low below)

pub returns-clause-above : goal.returns-clause-above
returns-clause-above c =
    let point = c.partition_point.ensures.partitioned (λ l. leb l.tuple.overhead c.args.overhead)
    (always_returns_same _ _ _ (λ a r f k. search rules))
    (IsPartitionedBy-leb (λ l. l.tuple.overhead) c.args.announced.now c.args.overhead (overheads_follow c.args.announced.now c.requires)) in
    λ k d low below. leb-false _ _ (point.1 k d low below)
